-- The book's train of this number is the scene's.
use Rattle.std.proofs.Common.{◌≡◌, ◌∙◌, arith, of_z, pos, to_z, to_z-of_z, w64}
use Rattle.rbc_scene.proofs.GrantingLemmas.{found, reach_of-found}
use Rattle.rbc_scene.proofs.scene.Scene.reach.Goals as goal

pub returns-in_ok-found-in-Some-clause-reach : goal.returns-in_ok-found-in-Some-clause-reach
returns-in_ok-found-in-Some-clause-reach c =
    let book = c.self.inside.book in
    let at = c.in_ok-found-in-Some.ensures in
    let place = c.from.ensures in
    let told : to_z w64 (of_z w64 c.from.result) ≡ pos c.place.result = grind (arith, to_z-of_z) in
    reach_of-found c.self.inside.locks book c.args.self.now c.self.view_is c.args.train c.in-Some.known.now
    (found book c.args.train c.get.result c.get.ensures c.in-Some.known c.in-Some.is)
    c.obstacle.result c.place.result _ (c.obstacle.ensures ∙ at.obstacle) (c.place.ensures.place ∙ at.place) told
