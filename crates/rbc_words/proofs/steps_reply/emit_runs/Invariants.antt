use Rattle.std.proofs.Common.{length}
use Rattle.rbc_streams.specs.Emitting.{Emits}
use Rattle.rbc_words.specs.Replies.{runs_text}
use Rattle.rbc_words.proofs.steps_reply.emit_runs.Given as goal

-- to write the runs that are left is to write them all
abbrev pub invariant-loop-rest : goal.invariant-loop-rest
invariant-loop-rest g l =
    let emits = Emits g.W.Sink.written g.W.Sink.failed in
    (end : _) → emits l.writer end (runs_text g.V.Spelled.kind l.rest) → emits l.fn.writer end (runs_text g.V.Spelled.kind l.runs)

abbrev pub decreases-loop-rest : goal.decreases-loop-rest
decreases-loop-rest g l = length l.rest
