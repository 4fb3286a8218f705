use Rattle.std.proofs.Common.{◌∙◌}
use Rattle.rbc_scene.proofs.KeepingLemmas.{kept_lock}
use Rattle.rbc_scene.proofs.scene.Scene.lock.Goals as goal

pub invariant_of-self : goal.invariant_of-self
invariant_of-self c =
    kept_lock c.self.inside.locks c.self.inside.book c.self.invariant c.lock.new.self c.deref.result.now c.args.route c.lock.result (c.deref.ensures ∙ c.track.ensures.track) c.lock.ensures.locked
