use Rattle.rbc_scene.proofs.KeepingLemmas.{idle, kept_free}
use Rattle.rbc_scene.proofs.scene.Scene.free.Goals as goal

pub invariant_of-self : goal.invariant_of-self
invariant_of-self c =
    let book = c.self.inside.book in
    kept_free c.self.inside.locks book c.self.invariant c.free.new.self c.args.section c.free.result
    (idle c.self.inside.locks book c.self.invariant c.args.self.now c.self.view_is c.args.section c.free_refusal.result c.free_refusal.ensures c.in_default.is) c.free.ensures.freed
