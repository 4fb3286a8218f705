use Rattle.std.proofs.Common.{◌≡◌, drop}
use Rattle.rbc_scene_reading.specs.Reading.{first_shared}
use Rattle.rbc_scene_reading.proofs.apart.first_shared.Given as goal

abbrev pub invariant-loop-leg : goal.invariant-loop-leg
invariant-loop-leg l = first_shared l.book.track l.book.trains l.train.train (drop l.leg-index l.legs) ≡ first_shared l.book.track l.book.trains l.train.train l.legs
