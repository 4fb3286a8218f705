use Rattle.std.proofs.Common.{◌≡◌, ◌+◌, drop}
use Rattle.rbc_model.specs.declared.places.Direction.TheVariants.{Rising}
use Rattle.rbc_model.specs.Lines.{line_length}
use Rattle.rbc_reach_laws.specs.Spans.{leg_span}
use Rattle.rbc_scene_reading.proofs.apart.offsets_on.Given as goal

abbrev pub invariant-loop-leg : goal.invariant-loop-leg
invariant-loop-leg l = record {
  metres : l.begin + line_length l.track (drop l.leg-index l.legs) ≡ line_length l.track l.legs;
  span : leg_span l.track (record { section = l.section; direction = Rising }) l.begin l.from l.to (drop l.leg-index l.legs)
      ≡ leg_span l.track (record { section = l.section; direction = Rising }) 0 l.from l.to l.legs;
}
