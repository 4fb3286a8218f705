use Rattle.std.proofs.Common.{length}
use Rattle.rbc_streams.specs.Emitting.{Emits}
use Rattle.rbc_viewer.specs.Escapes.{escaped}
use Rattle.rbc_viewer.proofs.escaping.emit_escaped.Given as goal

-- to write the rest is to write it all
abbrev pub invariant-loop-rest : goal.invariant-loop-rest
invariant-loop-rest g l =
    let emits = Emits g.W.Sink.written g.W.Sink.failed in
    (end : _) → emits l.writer end (escaped l.rest) → emits l.fn.writer end (escaped l.fn.text)

abbrev pub decreases-loop-rest : goal.decreases-loop-rest
decreases-loop-rest g l = length l.rest
