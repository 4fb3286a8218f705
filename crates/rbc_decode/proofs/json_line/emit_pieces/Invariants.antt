use Rattle.std.proofs.Common.{drop}
use Rattle.rbc_streams.specs.Emitting.{Emits}
use Rattle.rbc_decode.specs.JsonParts.{pieces_text}
use Rattle.rbc_decode.proofs.json_line.emit_pieces.Given as goal

-- to write the pieces that are left is to write them all
abbrev pub invariant-loop-piece : goal.invariant-loop-piece
invariant-loop-piece g l =
    let emits = Emits g.W.Sink.written g.W.Sink.failed in
    (end : _) → emits l.writer end (pieces_text (drop l.piece-index l.pieces)) → emits l.fn.writer end (pieces_text l.pieces)
