use Rattle.std.proofs.Common.{◌≡◌, ◌∷◌, drop}
use Rattle.rbc_track.specs.Written.{are_all_joined}
use Rattle.rbc_track.proofs.written.are_all_joined.Given as goal

abbrev pub invariant-loop-leg : goal.invariant-loop-leg
invariant-loop-leg l = are_all_joined l.links (l.before ∷ drop l.leg-index l.later) ≡ are_all_joined l.links l.legs
