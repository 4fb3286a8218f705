use Rattle.std.proofs.Common.{◌≡◌, ◌∷◌, drop}
use Rattle.rbc_model.specs.SoundTracks.{are_linked}
use Rattle.rbc_scene_reading.proofs.line_test.are_linked.Given as goal

abbrev pub invariant-loop-leg : goal.invariant-loop-leg
invariant-loop-leg l = are_linked l.track (l.before ∷ drop l.leg-index l.later) ≡ are_linked l.track l.legs
