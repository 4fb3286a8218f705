use Rattle.std.proofs.Common.{refl, le_refl}
use Rattle.rbc_snap.proofs.StepLemmas.{sees}
use Rattle.rbc_snap.proofs.eye.enter.Goals as goal

pub enter_as-requires : goal.enter_as-requires
enter_as-requires g c x = sees _ _ x x refl (le_refl _)
