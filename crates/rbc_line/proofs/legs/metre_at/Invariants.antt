use Rattle.std.proofs.Common.{◌≡◌, ◌<◌, drop}
use Rattle.rbc_model.specs.Lines.{line_length, metre_at}
use Rattle.rbc_line.proofs.legs.metre_at.Given as goal

abbrev pub invariant-loop-leg : goal.invariant-loop-leg
invariant-loop-leg l = record {
  metre : metre_at l.track (drop l.leg-index l.legs) l.left ≡ metre_at l.track l.legs l.place;
  on_line : l.left < line_length l.track (drop l.leg-index l.legs);
}
