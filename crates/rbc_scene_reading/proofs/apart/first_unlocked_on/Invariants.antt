use Rattle.std.proofs.Common.{◌≡◌, ◌+◌, drop}
use Rattle.rbc_model.specs.Lines.{line_length}
use Rattle.rbc_scene_reading.specs.Reading.{first_unlocked}
use Rattle.rbc_scene_reading.proofs.apart.first_unlocked_on.Given as goal

abbrev pub invariant-loop-leg : goal.invariant-loop-leg
invariant-loop-leg l = record {
  metres : l.begin + line_length l.track (drop l.leg-index l.legs) ≡ line_length l.track l.legs;
  unlocked : first_unlocked l.track l.locks l.from l.to l.begin (drop l.leg-index l.legs) ≡ first_unlocked l.track l.locks l.from l.to 0 l.legs;
}
