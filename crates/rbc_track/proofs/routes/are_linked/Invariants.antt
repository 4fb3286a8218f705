use Rattle.std.proofs.Common.{◌≡◌, ◌∷◌, drop}
use Rattle.rbc_model.specs.Tracks.{Track}
use Rattle.rbc_model.specs.SoundTracks.{are_linked}
use Rattle.rbc_track.proofs.routes.are_linked.Given as goal

abbrev pub invariant-loop-leg : goal.invariant-loop-leg
invariant-loop-leg l = (track : Track) → track.links ≡ l.links → are_linked track (l.before ∷ drop l.leg-index l.later) ≡ are_linked track l.legs
