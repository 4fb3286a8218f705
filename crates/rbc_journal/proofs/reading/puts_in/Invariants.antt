use Rattle.std.proofs.Common.{◌≡◌, ℕ, List, length}
use Rattle.rbc_journal.specs.Puts.{ArePuts}
use Rattle.rbc_journal.proofs.reading.puts_in.Given as goal

abbrev pub invariant-loop-put : goal.invariant-loop-put
invariant-loop-put l = record {
  lines : List (List ℕ);
  are : ArePuts l.fn.before l.bytes lines l.puts.seal l.puts.rest.now;
  count : length lines ≡ l.puts.lines;
}

abbrev pub decreases-loop-put : goal.decreases-loop-put
decreases-loop-put l = length l.puts.rest.now
