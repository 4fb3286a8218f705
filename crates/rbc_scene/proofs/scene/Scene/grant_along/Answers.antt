-- What is granted is the definition's, so the book takes it and the scene stays good.
use Rattle.std.proofs.Common.{arith, refl}
use Rattle.rbc_model.specs.Trains.{Train}
use Rattle.rbc_scene.proofs.GrantingLemmas.{apart_put, good_put, is_known, kept_put, steps_put}
use Rattle.rbc_scene.proofs.scene.Scene.grant_along.Goals as goal

-- on the line that the train has

pub hold-requires-clause-good : goal.hold-requires-clause-good
hold-requires-clause-good c =
    good_put c.self.inside.locks c.self.inside.book c.args.self.now c.self.view_is c.self.invariant c.args.train c.args.distance (λ (train : Train). train.line) c.in-Some.from c.in-Some.to c.in-Some.ensures.on_line

pub hold-requires-clause-apart : goal.hold-requires-clause-apart
hold-requires-clause-apart c =
    apart_put c.self.inside.locks c.self.inside.book c.args.self.now c.self.view_is c.self.invariant c.args.train c.args.distance (λ (train : Train). train.line) c.in-Some.from c.in-Some.to c.in-Some.ensures.on_line

pub invariant_of-self : goal.invariant_of-self
invariant_of-self c =
    kept_put c.self.inside.locks c.self.inside.book c.args.self.now c.self.view_is c.self.invariant c.args.train c.args.distance (λ (train : Train). train.line) c.in-Some.from c.in-Some.to c.in-Some.ensures.on_line
    c.hold.new.self (is_known c.args.self.now.track c.args.self.now.scene c.args.train c.args.distance c.requires.accepted) c.hold.ensures

pub returns-in-Some-clause-granted : goal.returns-in-Some-clause-granted
returns-in-Some-clause-granted c =
    steps_put c.self.inside.locks c.self.inside.book c.args.self.now c.self.view_is c.self.invariant c.args.train c.args.distance (λ (train : Train). train.line) c.in-Some.from c.in-Some.to c.in-Some.ensures.on_line
    c.hold.new.self (is_known c.args.self.now.track c.args.self.now.scene c.args.train c.args.distance c.requires.accepted) c.hold.ensures

-- on a longer one

pub set_held-requires-clause-good : goal.set_held-requires-clause-good
set_held-requires-clause-good c =
    let g = c.in_ok-line.field-0 in
    good_put c.self.inside.locks c.self.inside.book c.args.self.now c.self.view_is c.self.invariant c.args.train c.args.distance (λ _. g.line.legs) g.from g.to c.in_ok-line.ensures.granted

pub set_held-requires-clause-apart : goal.set_held-requires-clause-apart
set_held-requires-clause-apart c =
    let g = c.in_ok-line.field-0 in
    apart_put c.self.inside.locks c.self.inside.book c.args.self.now c.self.view_is c.self.invariant c.args.train c.args.distance (λ _. g.line.legs) g.from g.to c.in_ok-line.ensures.granted

pub invariant_of-self-2 : goal.invariant_of-self-2
invariant_of-self-2 c =
    let g = c.in_ok-line.field-0 in
    kept_put c.self.inside.locks c.self.inside.book c.args.self.now c.self.view_is c.self.invariant c.args.train c.args.distance (λ _. g.line.legs) g.from g.to c.in_ok-line.ensures.granted
    c.set_held.new.self (is_known c.args.self.now.track c.args.self.now.scene c.args.train c.args.distance c.requires.accepted) c.set_held.ensures

pub returns-clause-granted : goal.returns-clause-granted
returns-clause-granted c =
    let g = c.in_ok-line.field-0 in
    steps_put c.self.inside.locks c.self.inside.book c.args.self.now c.self.view_is c.self.invariant c.args.train c.args.distance (λ _. g.line.legs) g.from g.to c.in_ok-line.ensures.granted
    c.set_held.new.self (is_known c.args.self.now.track c.args.self.now.scene c.args.train c.args.distance c.requires.accepted) c.set_held.ensures

-- one that ends on the line that the train has needs no memory

pub returns-in_err-line-clause-on_line : goal.returns-in_err-line-clause-on_line
returns-in_err-line-clause-on_line c known same within = absurd (let past = c.in_default.ensures.beyond refl known same in omega arith)
