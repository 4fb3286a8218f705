use Rattle.std.proofs.Common.{arith, ◌≡◌, true, false, ◌∙◌, sym}
use Rattle.rbc_table_laws.specs.Breaks.{IsLowest}
use Rattle.rbc_table_laws.proofs.StretchLemmas.{floor_range, floor_under, below_part}
use Rattle.rbc_costs.proofs.NextBreakLemmas.{lower_in_front, kept, fallen}
use Rattle.rbc_costs.proofs.costs.further.Given.{Over}
use Rattle.rbc_costs.proofs.costs.further.Goals as goal
use Rattle.rbc_costs.proofs.costs.further.Goals.{After-is_at_most}

-- where the stretch in front is lower, its value is the least
front_lowest : (g : Over) (c : After-is_at_most g) → c.is_at_most.result ≡ false → IsLowest g.V.Level.levels c.args.track.now c.args.front.0.from c.args.end c.args.front.1
front_lowest g c low =
    let level = g.met.V.Level g.world.𝓛 g.world.𝓜 g.world.𝓡 ((λ s x. x), (λ x. x), (λ x. x), λ x. x) in
    lower_in_front g.V.Level.levels level.lawful c.args.track.now c.known.ensures.track _ _ _ _ c.args.least _ c.requires.inside c.requires.front c.requires.least (fallen g.V.Level.levels _ _ (sym c.is_at_most.ensures ∙ low))

-- where it is not, the value from the stretch behind on is
least_kept : (g : Over) (c : After-is_at_most g) → c.is_at_most.result ≡ true → IsLowest g.V.Level.levels c.args.track.now c.args.front.0.from c.args.end c.args.least
least_kept g c high =
    let level = g.met.V.Level g.world.𝓛 g.world.𝓜 g.world.𝓡 ((λ s x. x), (λ x. x), (λ x. x), λ x. x) in
    lower_in_front g.V.Level.levels level.lawful c.args.track.now c.known.ensures.track _ _ _ _ c.args.least _ c.requires.inside c.requires.front c.requires.least (kept g.V.Level.levels _ _ (sym c.is_at_most.ensures ∙ high))

pub price_on-requires-clause-given_in_range : goal.price_on-requires-clause-given_in_range
price_on-requires-clause-given_in_range g c κs within =
    let level = g.met.V.Level g.world.𝓛 g.world.𝓜 g.world.𝓡 ((λ s x. x), (λ x. x), (λ x. x), λ x. x) in
    rw c.floor.ensures (floor_range g.V.Level.levels level.lawful c.args.track.now c.known.ensures.track _ _ _ c.requires.inside c.requires.least)

pub price_on-requires-clause-below : goal.price_on-requires-clause-below
price_on-requires-clause-below g c κs within =
    let level = g.met.V.Level g.world.𝓛 g.world.𝓜 g.world.𝓡 ((λ s x. x), (λ x. x), (λ x. x), λ x. x) in
    let there = (goal.at.price_on-requires-clause-below g c).After-is_at_most in
    let low = c.requires.least.low in
    let high = c.requires.least.high in
    let all = floor_under g.V.Level.levels level.lawful c.args.track.now c.known.ensures.track _ _ _ c.requires.inside (least_kept g there c.if-is_at_most.true) in
    rw c.floor.ensures (below_part g.V.Level.levels level.lawful c.args.track.now c.known.ensures.track _ _ c.args.front.0.from c.args.front.0.to _ (omega arith) (omega arith) all)

pub returns-then-is_at_most-clause-least : goal.returns-then-is_at_most-clause-least
returns-then-is_at_most-clause-least g c = least_kept g (goal.at.returns-then-is_at_most-clause-least g c).After-is_at_most c.if-is_at_most.true

pub price_on-requires-2-clause-given_in_range : goal.price_on-requires-2-clause-given_in_range
price_on-requires-2-clause-given_in_range g c κs within =
    let level = g.met.V.Level g.world.𝓛 g.world.𝓜 g.world.𝓡 ((λ s x. x), (λ x. x), (λ x. x), λ x. x) in
    let there = (goal.at.price_on-requires-2-clause-given_in_range g c).After-is_at_most in
    rw c.floor-2.ensures (floor_range g.V.Level.levels level.lawful c.args.track.now c.known.ensures.track _ _ _ c.requires.inside (front_lowest g there c.if-is_at_most.false))

pub price_on-requires-2-clause-below : goal.price_on-requires-2-clause-below
price_on-requires-2-clause-below g c κs within =
    let level = g.met.V.Level g.world.𝓛 g.world.𝓜 g.world.𝓡 ((λ s x. x), (λ x. x), (λ x. x), λ x. x) in
    let there = (goal.at.price_on-requires-2-clause-below g c).After-is_at_most in
    rw c.floor-2.ensures (floor_under g.V.Level.levels level.lawful c.args.track.now c.known.ensures.track _ _ _ c.requires.inside (front_lowest g there c.if-is_at_most.false))

pub returns-clause-least : goal.returns-clause-least
returns-clause-least g c = front_lowest g (goal.at.returns-clause-least g c).After-is_at_most c.if-is_at_most.false
