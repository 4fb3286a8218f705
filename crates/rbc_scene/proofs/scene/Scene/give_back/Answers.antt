-- The train's authority is cut, and the scene stays good.
use Rattle.std.proofs.Common.{sym}
use Rattle.rbc_scene.proofs.KeepingLemmas.{kept_cut, steps_cut}
use Rattle.rbc_scene.proofs.scene.Scene.give_back.Goals as goal

pub invariant_of-self : goal.invariant_of-self
invariant_of-self c =
    kept_cut c.self.inside.locks c.self.inside.book c.args.self.now c.self.view_is c.self.invariant c.args.train c.args.distance c.in_ok-to.to (sym c.in_ok-to.ensures) c.give_back.new.self c.give_back.ensures

pub returns : goal.returns
returns c =
    steps_cut c.self.inside.locks c.self.inside.book c.args.self.now c.self.view_is c.self.invariant c.args.train c.args.distance c.in_ok-to.to (sym c.in_ok-to.ensures) c.give_back.new.self c.give_back.ensures
