use Rattle.std.proofs.Common.{drop}
use Rattle.std.specs.Prelude.{flat_map}
use Rattle.rbc_model.specs.SceneLines.{locked_lines}
use Rattle.rbc_model.specs.Words.{line_of}
use Rattle.rbc_streams.specs.Emitting.{Emits}
use Rattle.rbc_lines.proofs.scene.emit_locks.Given as goal

-- to write the rows that are left is to write them all
abbrev pub invariant-loop-index : goal.invariant-loop-index
invariant-loop-index g l =
    let emits = Emits g.W.Sink.written g.W.Sink.failed in
    (end : _) → emits l.writer end (flat_map line_of (locked_lines l.track l.index (drop l.index l.locks)))
    → emits l.fn.writer end (flat_map line_of (locked_lines l.track 0 l.locks))
