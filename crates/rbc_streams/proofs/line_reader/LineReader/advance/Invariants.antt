use Rattle.std.proofs.Common.{◌≡◌, ◌+◌, ℕ, List, ◌++◌, true, false, [], ◌-◌, length}
use Rattle.std.specs.Io.KnownBytes.{Consumes}
use Rattle.rbc_streams.specs.LineReading.{KnowsEnd}
use Rattle.rbc_streams.proofs.line_reader.LineReader.advance.Given as goal

abbrev pub invariant-loop-step : goal.invariant-loop-step
invariant-loop-step g l = record {
  works : g.R.Source.failed l.reader ≡ false;
  longest : l.self.longest ≡ l.fn.self.longest;
  reads : (taken : List ℕ) × Consumes (g.R.Source.left l.fn.reader) (g.R.Source.left l.reader) taken
      × (l.fn.self.ended ≡ true → taken ≡ []) × (l.self.pending ≡ l.fn.self.pending ++ taken);
  knows : KnowsEnd l.fn.self (g.R.Source.left l.fn.reader) (g.R.Source.ended l.fn.reader) → KnowsEnd l.self (g.R.Source.left l.reader) (g.R.Source.ended l.reader);
  stays : l.fn.self.ended ≡ true → l.self.ended ≡ true;
}

abbrev pub decreases-loop-step : goal.decreases-loop-step
decreases-loop-step g l = l.self.longest + 1 - length l.self.pending
