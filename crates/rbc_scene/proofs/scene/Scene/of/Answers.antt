use Rattle.std.proofs.Common.{◌∙◌, subst}
use Rattle.rbc_model.specs.SoundTracks.{IsSound}
use Rattle.rbc_scene.proofs.scene.Scene.of.Goals as goal

pub invariant_of-result : goal.invariant_of-result
invariant_of-result c = record { sound = subst IsSound (c.deref.ensures ∙ c.track.ensures.track) c.known.ensures.sound; good = c.requires }
