use Rattle.std.proofs.Common.{◌≡◌, false, take, List, ℕ}
use Rattle.std.specs.Io.KnownBytes.{Appends}
use Rattle.rbc_server.specs.Serving.{TellsAll}
use Rattle.rbc_server.proofs.outcomes.print_outcomes.Given as goal

-- what was written tells the outcomes so far
abbrev pub invariant-loop-outcome : goal.invariant-loop-outcome
invariant-loop-outcome g l =
    let written = g.W.Sink.written in
    record {
      going : g.W.Sink.failed l.writer ≡ false;
      so_far : (text : List ℕ) × TellsAll l.track (take l.outcome-index l.outcomes) text × Appends (written l.fn.writer) (written l.writer) text;
    }
