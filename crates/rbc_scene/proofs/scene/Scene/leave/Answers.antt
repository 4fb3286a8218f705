use Rattle.std.proofs.Common.{◌∙◌, sym}
use Rattle.rbc_scene.proofs.KeepingLemmas.{kept_left, left_known, left_unknown}
use Rattle.rbc_scene.proofs.scene.Scene.leave.Goals as goal
use Rattle.rbc_scene.proofs.scene.Scene.leave.Goals.{then-leave, else-leave}

pub invariant_of-self : goal.invariant_of-self
invariant_of-self c = kept_left c.self.inside.locks c.self.inside.book c.self.invariant c.leave.new.self c.args.train c.leave.ensures.left

pub returns : goal.returns
returns c =
    elim c.if-leave.branch [
      | then-leave w ↦
          left_known c.self.inside.locks c.self.inside.book c.leave.new.self c.args.train c.args.self.now c.self.view_is c.leave.ensures.left c.if-leave.result (sym c.leave.ensures.known ∙ w.if-leave.true) w.result-is
      | else-leave w ↦
          left_unknown c.self.inside.locks c.self.inside.book c.leave.new.self c.args.train c.args.self.now c.self.view_is c.leave.ensures.left c.if-leave.result (sym c.leave.ensures.known ∙ w.if-leave.false) w.result-is
    ]
