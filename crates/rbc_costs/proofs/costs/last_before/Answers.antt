use Rattle.std.proofs.Common.{arith, ◌≡◌, ◌+◌, ◌-◌, Some, ap, sym, ◌∙◌, get_or, subst}
use Rattle.std.specs.List.{slice_get}
use Rattle.std.proofs.lemmas.Option.{slice_get-get_or}
use Rattle.rbc_model.specs.Scales.{unit_of}
use Rattle.rbc_table_laws.specs.Breaks.{IsLowest}
use Rattle.rbc_table_laws.specs.Stretches.{breaks_for}
use Rattle.rbc_costs.specs.Stretches.{IsLostByFloor}
use Rattle.rbc_costs.proofs.NextBreakLemmas.{least_there, ends_at, flat_given}
use Rattle.rbc_costs.proofs.costs.last_before.Given.{Over}
use Rattle.rbc_costs.proofs.costs.last_before.Goals as goal
use Rattle.rbc_costs.proofs.costs.last_before.Goals.{After-index-stretches-to}

last_there : (g : Over) (c : After-index-stretches-to g) → slice_get c.args.stretches.now (c.args.to - 1) ≡ Some c.index-stretches-to.result
last_there g c = slice_get-get_or c.args.stretches.now (c.args.to - 1) c.index-stretches-to.result (omega arith) ∙ ap Some (sym c.index-stretches-to.is)

lowest : (g : Over) (c : After-index-stretches-to g) → IsLowest g.V.Level.levels c.args.track.now (get_or (breaks_for (unit_of c.args.track.now.end) c.args.track.now) (c.args.to - 1) 0) (get_or (breaks_for (unit_of c.args.track.now.end) c.args.track.now) c.args.to 0) c.index-stretches-to.result.1
lowest g c =
    let next : c.args.to - 1 + 1 ≡ c.args.to = omega arith in
    rw next at (least_there g.V.Level.levels (unit_of c.args.track.now.end) c.args.track.now c.args.stretches.now c.requires.stretches (c.args.to - 1) _ (last_there g c))

pub price_on-requires-clause-stretch : goal.price_on-requires-clause-stretch
price_on-requires-clause-stretch g c κs within =
    (c.requires.stretches.stand (c.args.to - 1) _ (last_there g (goal.at.price_on-requires-clause-stretch g c).After-index-stretches-to)).on_track

pub price_on-requires-clause-given_in_range : goal.price_on-requires-clause-given_in_range
price_on-requires-clause-given_in_range g c κs within =
    let level = g.met.V.Level g.world.𝓛 g.world.𝓜 g.world.𝓡 ((λ s x. x), (λ x. x), (λ x. x), λ x. x) in
    let there = (goal.at.price_on-requires-clause-given_in_range g c).After-index-stretches-to in
    (flat_given g.V.Level.levels (unit_of c.args.track.now.end) c.args.track.now c.args.stretches.now c.requires.stretches level.lawful c.known.ensures.track (c.args.to - 1) c.args.to _ (last_there g there) (omega arith) c.requires.inside _ c.floor.result (lowest g there) c.floor.ensures).0

pub price_on-requires-clause-below : goal.price_on-requires-clause-below
price_on-requires-clause-below g c κs within =
    let level = g.met.V.Level g.world.𝓛 g.world.𝓜 g.world.𝓡 ((λ s x. x), (λ x. x), (λ x. x), λ x. x) in
    let there = (goal.at.price_on-requires-clause-below g c).After-index-stretches-to in
    (flat_given g.V.Level.levels (unit_of c.args.track.now.end) c.args.track.now c.args.stretches.now c.requires.stretches level.lawful c.known.ensures.track (c.args.to - 1) c.args.to _ (last_there g there) (omega arith) c.requires.inside _ c.floor.result (lowest g there) c.floor.ensures).1

pub returns-clause-stretch : goal.returns-clause-stretch
returns-clause-stretch g c = c.requires.stretches.stand (c.args.to - 1) _ (last_there g (goal.at.returns-clause-stretch g c).After-index-stretches-to)

pub returns-clause-least : goal.returns-clause-least
returns-clause-least g c = lowest g (goal.at.returns-clause-least g c).After-index-stretches-to

pub returns-clause-lost : goal.returns-clause-lost
returns-clause-lost g c =
    let last = c.index-stretches-to.result in
    let stands = c.requires.stretches.stand (c.args.to - 1) _ (last_there g (goal.at.returns-clause-lost g c).After-index-stretches-to) in
    let here : IsLostByFloor g.V.Level.levels c.args.track.now last.0.from last.0.to last.1 c.price_on.result =
    record { lost = rw c.floor.ensures at c.price_on.ensures.price; bound = c.price_on.ensures.bound } in
    let from = subst (λ k. IsLostByFloor g.V.Level.levels c.args.track.now k last.0.to last.1 c.price_on.result) stands.from here in
    subst (λ k. IsLostByFloor g.V.Level.levels c.args.track.now (get_or (breaks_for (unit_of c.args.track.now.end) c.args.track.now) (c.args.to - 1) 0) k last.1 c.price_on.result) (ends_at (unit_of c.args.track.now.end) c.args.track.now c.args.to last.0 (omega arith) stands) from
