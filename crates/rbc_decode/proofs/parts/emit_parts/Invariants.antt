use Rattle.std.proofs.Common.{◌++◌, false, drop}
use Rattle.rbc_streams.specs.Emitting.{Emits}
use Rattle.rbc_decode.specs.Parts.{parts_text}
use Rattle.rbc_decode.proofs.parts.emit_parts.Given as goal

-- to write what is gathered, and what is left, is to write all
abbrev pub invariant-loop-item : goal.invariant-loop-item
invariant-loop-item g l =
    let emits = Emits g.W.Sink.written g.W.Sink.failed in
    let left = parts_text g.P.TextPart.told g.P.TextPart.text in
    (end : _) → emits l.writer end (l.buffer ++ left l.later (drop l.item-index l.items)) → emits l.fn.writer end (left false l.items)
