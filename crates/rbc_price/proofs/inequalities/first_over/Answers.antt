use Rattle.std.proofs.Common.{arith, ◌≡◌, ◌+◌, ◌≤◌, inl, inr, false, refl, subst, sym, ◌∙◌}
use Rattle.rbc_table_laws.specs.PriceRows.{prices_of}
use Rattle.rbc_table_laws.proofs.StretchLemmas.{floor_range, floor_under}
use Rattle.rbc_price.specs.Costs.{IsCostAt, IsLowestStretch, is_stretch_at_most}
use Rattle.rbc_price.proofs.ColumnLemmas.{adjacent, stretch_order}
use Rattle.rbc_price.proofs.CostLemmas.{in_front, front_range, front_below}
use Rattle.rbc_price.proofs.PlaceLemmas.{first_of_fewer, first_of_both}
use Rattle.rbc_price.proofs.inequalities.first_over.Given.{Over}
use Rattle.rbc_price.proofs.inequalities.first_over.Goals as goal
use Rattle.rbc_price.proofs.inequalities.first_over.Goals.{After-price_on-cost, After-price_on-cost-in-Some}
use Rattle.std.proofs.lemmas.Bool.{cases_lt}

pub price_on-cost-requires-clause-given_in_range : goal.price_on-cost-requires-clause-given_in_range
price_on-cost-requires-clause-given_in_range g c κs within =
    let level = g.met.V.Level g.world.𝓛 g.world.𝓜 g.world.𝓡 ((λ s x. x), (λ x. x), (λ x. x), λ x. x) in
    rw c.floor.ensures (floor_range g.V.Level.levels level.lawful c.args.track.now c.known.ensures.track c.args.column.stretch.from c.args.column.stretch.to c.least_on-level.result c.requires.column.on_track.inside c.least_on-level.ensures)

pub price_on-cost-requires-clause-below : goal.price_on-cost-requires-clause-below
price_on-cost-requires-clause-below g c κs within = λ x v from_low to_high at.
    let level = g.met.V.Level g.world.𝓛 g.world.𝓜 g.world.𝓡 ((λ s x. x), (λ x. x), (λ x. x), λ x. x) in
    rw c.floor.ensures (floor_under g.V.Level.levels level.lawful c.args.track.now c.known.ensures.track c.args.column.stretch.from c.args.column.stretch.to c.least_on-level.result c.requires.column.on_track.inside c.least_on-level.ensures x v from_low to_high at)

first_cost : (g : Over) (c : After-price_on-cost g)
    → IsCostAt g.V.Level.levels c.args.track.now c.args.column.stretch.from c.args.column.stretch.to c.least_on-level.result c.price_on-cost.result
first_cost g c = record {
  lowest = c.least_on-level.ensures;
  lost = rw c.floor.ensures at c.price_on-cost.ensures.price;
  bound = c.price_on-cost.ensures.bound;
}

pub first_from_break-first-requires-clause-cost : goal.first_from_break-first-requires-clause-cost
first_from_break-first-requires-clause-cost g c κs within = first_cost g (goal.at.first_from_break-first-requires-clause-cost g c).After-price_on-cost

pub loop-before-init : goal.loop-before-init
loop-before-init g c = record {
  from = c.requires.column;
  order = omega arith;
  cost = first_cost g (goal.at.loop-before-init g c).After-price_on-cost;
  first = first_of_fewer g.V.Level.levels c.args.track.now (prices_of c.args.rows.now) (λ f to. (f ≡ c.args.column.index) × IsLowestStretch g.V.Level.levels c.args.track.now f to c.args.column.index)
      (λ f to. (c.args.column.index ≤ f) × IsLowestStretch g.V.Level.levels c.args.track.now f to c.args.column.index) c.first_from_break-first.result
      (λ f to on column j. (let low = j.1.low in let from = j.0 in omega arith, j.1)) c.first_from_break-first.ensures;
}

pub returns-then-not-is_at_most : goal.returns-then-not-is_at_most
returns-then-not-is_at_most g c =
    let level = g.met.V.Level g.world.𝓛 g.world.𝓜 g.world.𝓡 ((λ s x. x), (λ x. x), (λ x. x), λ x. x) in
    let before = c.in-Some.ensures.before c.in-Some.before refl in
    let index = c.in-Some.ensures.index c.in-Some.before refl in
    let order = c.loop-before.invariant.order in
    let lower : is_stretch_at_most g.V.Level.levels c.args.track.now c.args.column.index c.in-Some.before.index ≡ false =
    stretch_order g.V.Level.levels level.lawful c.args.track.now c.known.ensures.track c.requires.whole c.args.column c.in-Some.before c.least_on-level.result c.least_on.result c.requires.column before c.least_on-level.ensures c.least_on.ensures
    ∙ sym c.is_at_most.ensures ∙ c.if-not-is_at_most.true in
    first_of_fewer g.V.Level.levels c.args.track.now (prices_of c.args.rows.now) (λ f to. (c.loop-before.from.index ≤ f) × IsLowestStretch g.V.Level.levels c.args.track.now f to c.args.column.index)
    (λ f to. IsLowestStretch g.V.Level.levels c.args.track.now f to c.args.column.index) c.loop-before.first
    (λ f to on column j. (
      elim (cases_lt f c.loop-before.from.index) [
        | inl earlier ↦ let not = j.before c.in-Some.before.index (omega (arith, index)) (omega (arith, index)) in absurd (cc (lower, not))
        | inr h ↦ h
      ],
      j,
    )) c.loop-before.invariant.first

pub price_on-cost-requires-in-Some-clause-given_in_range : goal.price_on-cost-requires-in-Some-clause-given_in_range
price_on-cost-requires-in-Some-clause-given_in_range g c κs within =
    let level = g.met.V.Level g.world.𝓛 g.world.𝓜 g.world.𝓡 ((λ s x. x), (λ x. x), (λ x. x), λ x. x) in
    let before = c.in-Some.ensures.before c.in-Some.before refl in
    let index = c.in-Some.ensures.index c.in-Some.before refl in
    let joined = adjacent g.V.Level.levels level.lawful c.args.track.now c.known.ensures.track c.requires.whole c.in-Some.before c.loop-before.from before c.loop-before.invariant.from (sym index) in
    let behind_it = subst (λ x. IsCostAt g.V.Level.levels c.args.track.now x c.args.column.stretch.to c.least_on-level.result c.loop-before.cost) (sym joined) c.loop-before.invariant.cost in
    let low = sym c.is_at_most.ensures ∙ c.if-not-is_at_most.false in
    rw c.floor-in-Some.ensures (front_range g.V.Level.levels level.lawful c.args.track.now c.known.ensures.track c.in-Some.before.stretch.from c.in-Some.before.stretch.to c.args.column.stretch.to c.least_on-level.result c.least_on.result c.loop-before.cost c.requires.column.on_track.inside behind_it c.least_on.ensures low)

pub price_on-cost-requires-in-Some-clause-below : goal.price_on-cost-requires-in-Some-clause-below
price_on-cost-requires-in-Some-clause-below g c κs within = λ x v from_low to_high at.
    let level = g.met.V.Level g.world.𝓛 g.world.𝓜 g.world.𝓡 ((λ s x. x), (λ x. x), (λ x. x), λ x. x) in
    let before = c.in-Some.ensures.before c.in-Some.before refl in
    let index = c.in-Some.ensures.index c.in-Some.before refl in
    let joined = adjacent g.V.Level.levels level.lawful c.args.track.now c.known.ensures.track c.requires.whole c.in-Some.before c.loop-before.from before c.loop-before.invariant.from (sym index) in
    let behind_it = subst (λ x. IsCostAt g.V.Level.levels c.args.track.now x c.args.column.stretch.to c.least_on-level.result c.loop-before.cost) (sym joined) c.loop-before.invariant.cost in
    let low = sym c.is_at_most.ensures ∙ c.if-not-is_at_most.false in
    rw c.floor-in-Some.ensures (front_below g.V.Level.levels level.lawful c.args.track.now c.known.ensures.track c.in-Some.before.stretch.from c.in-Some.before.stretch.to c.args.column.stretch.to c.least_on-level.result c.least_on.result c.loop-before.cost c.requires.column.on_track.inside behind_it c.least_on.ensures low x v from_low to_high at)

cost_here : (g : Over) (c : After-price_on-cost-in-Some g)
    → IsCostAt g.V.Level.levels c.args.track.now c.in-Some.before.stretch.from c.args.column.stretch.to c.least_on-level.result (c.loop-before.cost + c.price_on-cost-in-Some.result)
cost_here g c =
    let level = g.met.V.Level g.world.𝓛 g.world.𝓜 g.world.𝓡 ((λ s x. x), (λ x. x), (λ x. x), λ x. x) in
    let before = c.in-Some.ensures.before c.in-Some.before refl in
    let index = c.in-Some.ensures.index c.in-Some.before refl in
    let joined = adjacent g.V.Level.levels level.lawful c.args.track.now c.known.ensures.track c.requires.whole c.in-Some.before c.loop-before.from before c.loop-before.invariant.from (sym index) in
    let behind_it = subst (λ x. IsCostAt g.V.Level.levels c.args.track.now x c.args.column.stretch.to c.least_on-level.result c.loop-before.cost) (sym joined) c.loop-before.invariant.cost in
    let low = sym c.is_at_most.ensures ∙ c.if-not-is_at_most.false in
    in_front g.V.Level.levels level.lawful c.args.track.now c.known.ensures.track c.in-Some.before.stretch.from c.in-Some.before.stretch.to c.args.column.stretch.to c.least_on-level.result c.least_on.result c.loop-before.cost c.requires.column.on_track.inside behind_it c.least_on.ensures low
    c.price_on-cost-in-Some.result (rw c.floor-in-Some.ensures at c.price_on-cost-in-Some.ensures.price) c.price_on-cost-in-Some.ensures.bound

pub overflow_add-cost : goal.overflow_add-cost
overflow_add-cost g c =
    let bound = (cost_here g (goal.at.overflow_add-cost g c).After-price_on-cost-in-Some).bound in
    let end = c.requires.column.on_track.inside in
    let near = c.known.ensures.within_limit in
    omega arith

pub first_from_break-requires-clause-cost : goal.first_from_break-requires-clause-cost
first_from_break-requires-clause-cost g c κs within = cost_here g (goal.at.first_from_break-requires-clause-cost g c).After-price_on-cost-in-Some

pub loop-before-preserved : goal.loop-before-preserved
loop-before-preserved g c =
    let before = c.in-Some.ensures.before c.in-Some.before refl in
    let index = c.in-Some.ensures.index c.in-Some.before refl in
    let order = c.loop-before.invariant.order in
    record {
      from = before;
      order = omega (arith, index);
      cost = cost_here g (goal.at.loop-before-preserved g c).After-price_on-cost-in-Some;
      first = rw c.earlier-first.ensures (first_of_both g.V.Level.levels c.args.track.now (prices_of c.args.rows.now)
          (λ f to. (c.loop-before.from.index ≤ f) × IsLowestStretch g.V.Level.levels c.args.track.now f to c.args.column.index)
          (λ f to. (f ≡ c.in-Some.before.index) × IsLowestStretch g.V.Level.levels c.args.track.now f to c.args.column.index)
          (λ f to. (c.in-Some.before.index ≤ f) × IsLowestStretch g.V.Level.levels c.args.track.now f to c.args.column.index)
          c.loop-before.first c.first_from_break.result
          (λ f to on column j. elim (cases_lt f c.loop-before.from.index) [
            | inl here ↦ inr (let from = j.0 in omega (arith, index), j.1)
            | inr h ↦ inl (h, j.1)
          ])
          c.loop-before.invariant.first c.first_from_break.ensures);
    }

pub returns : goal.returns
returns g c =
    let none = c.column_before.ensures.first c.in_default.is in
    first_of_fewer g.V.Level.levels c.args.track.now (prices_of c.args.rows.now) (λ f to. (c.loop-before.from.index ≤ f) × IsLowestStretch g.V.Level.levels c.args.track.now f to c.args.column.index)
    (λ f to. IsLowestStretch g.V.Level.levels c.args.track.now f to c.args.column.index) c.loop-before.first
    (λ f to on column j. (omega (arith, none), j)) c.loop-before.invariant.first

pub loop-before-smaller : goal.loop-before-smaller
loop-before-smaller g c = let index = c.in-Some.ensures.index c.in-Some.before refl in omega arith
