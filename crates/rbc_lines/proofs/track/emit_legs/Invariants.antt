use Rattle.std.proofs.Common.{drop, map}
use Rattle.rbc_model.specs.SessionReply.{leg_word}
use Rattle.rbc_words.specs.PriceText.{spaced}
use Rattle.rbc_streams.specs.Emitting.{Emits}
use Rattle.rbc_lines.proofs.track.emit_legs.Given as goal

-- to write the legs that are left is to write them all
abbrev pub invariant-loop-leg : goal.invariant-loop-leg
invariant-loop-leg g l =
    let emits = Emits g.W.Sink.written g.W.Sink.failed in
    (end : _) → emits l.writer end (spaced (map (leg_word l.track) (drop l.leg-index l.legs))) → emits l.fn.writer end (spaced (map (leg_word l.track) l.legs))
