-- What is granted is the definition's, so the book takes it and the scene stays good.
use Rattle.rbc_model.specs.Scenes.{train_numbered}
use Rattle.rbc_scene.proofs.GrantingLemmas.{apart_put, good_put, kept_put, known_by, steps_put}
use Rattle.rbc_scene.proofs.scene.Scene.grant.Goals as goal

pub set_held-requires-clause-good : goal.set_held-requires-clause-good
set_held-requires-clause-good c =
    let g = c.in_ok-line.field-0 in
    good_put c.self.inside.locks c.self.inside.book c.args.self.now c.self.view_is c.self.invariant c.args.train c.args.distance (λ _. g.line.legs) g.from g.to c.in_ok-line.ensures.granted

pub set_held-requires-clause-apart : goal.set_held-requires-clause-apart
set_held-requires-clause-apart c =
    let g = c.in_ok-line.field-0 in
    apart_put c.self.inside.locks c.self.inside.book c.args.self.now c.self.view_is c.self.invariant c.args.train c.args.distance (λ _. g.line.legs) g.from g.to c.in_ok-line.ensures.granted

pub invariant_of-self : goal.invariant_of-self
invariant_of-self c =
    let g = c.in_ok-line.field-0 in
    kept_put c.self.inside.locks c.self.inside.book c.args.self.now c.self.view_is c.self.invariant c.args.train c.args.distance (λ _. g.line.legs) g.from g.to c.in_ok-line.ensures.granted
    c.set_held.new.self (known_by (train_numbered c.args.self.now.scene c.args.train) _ _ c.in_ok-line.ensures.unknown) c.set_held.ensures

pub returns-clause-granted : goal.returns-clause-granted
returns-clause-granted c =
    let g = c.in_ok-line.field-0 in
    steps_put c.self.inside.locks c.self.inside.book c.args.self.now c.self.view_is c.self.invariant c.args.train c.args.distance (λ _. g.line.legs) g.from g.to c.in_ok-line.ensures.granted
    c.set_held.new.self (known_by (train_numbered c.args.self.now.scene c.args.train) _ _ c.in_ok-line.ensures.unknown) c.set_held.ensures
