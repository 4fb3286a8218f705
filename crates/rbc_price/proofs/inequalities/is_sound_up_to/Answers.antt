use Rattle.std.proofs.Common.{arith, ◌≡◌, ◌+◌, ◌≤◌, None, inl, inr, refl}
use Rattle.rbc_table_laws.specs.PriceRows.{prices_of}
use Rattle.rbc_table_laws.proofs.StretchLemmas.{floor_range, floor_under}
use Rattle.rbc_costs.specs.Stretches.{IsLostByFloor}
use Rattle.rbc_price.specs.Columns.{stretches_of}
use Rattle.rbc_price.specs.Costs.{IsCostAt}
use Rattle.rbc_price.proofs.ColumnLemmas.{index_small, inside, cost_of}
use Rattle.rbc_price.proofs.PlaceLemmas.{Pair, first_of_fewer, first_of_both, first_of_row}
use Rattle.rbc_price.proofs.inequalities.is_sound_up_to.Goals as goal
use Rattle.std.proofs.lemmas.Bool.{cases_lt}

pub price_on-cost-requires-clause-given_in_range : goal.price_on-cost-requires-clause-given_in_range
price_on-cost-requires-clause-given_in_range g c κs within =
    let level = g.met.V.Level g.world.𝓛 g.world.𝓜 g.world.𝓡 ((λ s x. x), (λ x. x), (λ x. x), λ x. x) in
    rw c.floor.ensures (floor_range g.V.Level.levels level.lawful c.args.track.now c.known.ensures.track c.args.last.stretch.from c.args.last.stretch.to c.least_on-least.result c.requires.last.on_track.inside c.least_on-least.ensures)

pub price_on-cost-requires-clause-below : goal.price_on-cost-requires-clause-below
price_on-cost-requires-clause-below g c κs within = λ x v from_low to_high at.
    let level = g.met.V.Level g.world.𝓛 g.world.𝓜 g.world.𝓡 ((λ s x. x), (λ x. x), (λ x. x), λ x. x) in
    rw c.floor.ensures (floor_under g.V.Level.levels level.lawful c.args.track.now c.known.ensures.track c.args.last.stretch.from c.args.last.stretch.to c.least_on-least.result c.requires.last.on_track.inside c.least_on-least.ensures x v from_low to_high at)

pub are_low-requires-clause-wide : goal.are_low-requires-clause-wide
are_low-requires-clause-wide g c =
    let level = g.met.V.Level g.world.𝓛 g.world.𝓜 g.world.𝓡 ((λ s x. x), (λ x. x), (λ x. x), λ x. x) in
    let room = inside g.V.Level.levels level.lawful c.args.track.now c.known.ensures.track c.requires.whole c.args.last c.requires.last in
    record { width = stretches_of c.args.track.now; wide = c.requires.wide; room = omega arith }

pub are_low-requires-in-Some-clause-wide : goal.are_low-requires-in-Some-clause-wide
are_low-requires-in-Some-clause-wide g c =
    let level = g.met.V.Level g.world.𝓛 g.world.𝓜 g.world.𝓡 ((λ s x. x), (λ x. x), (λ x. x), λ x. x) in
    let room = inside g.V.Level.levels level.lawful c.args.track.now c.known.ensures.track c.requires.whole c.args.last c.requires.last in
    record { width = stretches_of c.args.track.now; wide = c.requires.wide; room = omega arith }

pub overflow_add-last : goal.overflow_add-last
overflow_add-last g c =
    let level = g.met.V.Level g.world.𝓛 g.world.𝓜 g.world.𝓡 ((λ s x. x), (λ x. x), (λ x. x), λ x. x) in
    let small = index_small g.V.Level.levels level.lawful c.args.track.now c.known.ensures.track c.requires.whole c.args.last c.requires.last in
    let near = c.known.ensures.within_limit in
    omega arith

pub overflow_add-last-in-Some : goal.overflow_add-last-in-Some
overflow_add-last-in-Some g c =
    let level = g.met.V.Level g.world.𝓛 g.world.𝓜 g.world.𝓡 ((λ s x. x), (λ x. x), (λ x. x), λ x. x) in
    let small = index_small g.V.Level.levels level.lawful c.args.track.now c.known.ensures.track c.requires.whole c.args.last c.requires.last in
    let near = c.known.ensures.within_limit in
    omega arith

pub loop-before-init : goal.loop-before-init
loop-before-init g c =
    let level = g.met.V.Level g.world.𝓛 g.world.𝓜 g.world.𝓡 ((λ s x. x), (λ x. x), (λ x. x), λ x. x) in
    let room = inside g.V.Level.levels level.lawful c.args.track.now c.known.ensures.track c.requires.whole c.args.last c.requires.last in
    let lost : IsLostByFloor g.V.Level.levels c.args.track.now c.args.last.stretch.from c.args.last.stretch.to c.least_on-least.result c.price_on-cost.result =
    record { lost = rw c.floor.ensures at c.price_on-cost.ensures.price; bound = c.price_on-cost.ensures.bound } in
    let is : IsCostAt g.V.Level.levels c.args.track.now c.args.last.stretch.from c.args.last.stretch.to c.least_on-least.result c.price_on-cost.result =
    record { lowest = c.least_on-least.ensures; lost = lost.lost; bound = lost.bound } in
    let cost = cost_of g.V.Level.levels level.lawful c.args.track.now c.known.ensures.track c.requires.whole c.args.last c.args.last c.least_on-least.result c.price_on-cost.result c.requires.last c.requires.last is in
    record {
      from = c.requires.last;
      order = omega arith;
      least = c.least_on-least.ensures;
      cost = lost;
      none = first_of_fewer g.V.Level.levels c.args.track.now (prices_of c.args.rows.now) (Pair g.V.Level.levels c.args.track.now (prices_of c.args.rows.now) c.args.last.index (c.args.last.index + 1))
          (λ f to. (c.args.last.index ≤ f) × (to ≡ c.args.last.index + 1)) None
          (λ f to on column j. (let low = j.0 in let end = j.1 in omega (arith, on), j.1))
          (first_of_row g.V.Level.levels c.args.track.now (prices_of c.args.rows.now) c.args.last.index (c.args.last.index + 1) c.price_on-cost.result None (omega arith) (omega arith) cost
          (c.are_low.ensures c.if-not-are_low.false));
    }

pub loop-before-preserved : goal.loop-before-preserved
loop-before-preserved g c =
    let level = g.met.V.Level g.world.𝓛 g.world.𝓜 g.world.𝓡 ((λ s x. x), (λ x. x), (λ x. x), λ x. x) in
    let room = inside g.V.Level.levels level.lawful c.args.track.now c.known.ensures.track c.requires.whole c.args.last c.requires.last in
    let before = c.in-Some.ensures.before c.in-Some.before refl in
    let index = c.in-Some.ensures.index c.in-Some.before refl in
    let order = c.loop-before.invariant.order in
    let least = c.further-lowest.ensures.least in
    let lost = c.further-lowest.ensures.lost in
    let is : IsCostAt g.V.Level.levels c.args.track.now c.in-Some.before.stretch.from c.args.last.stretch.to c.further-lowest.result.0 c.further-lowest.result.1 =
    record { lowest = least; lost = lost.lost; bound = lost.bound } in
    let cost = cost_of g.V.Level.levels level.lawful c.args.track.now c.known.ensures.track c.requires.whole c.in-Some.before c.args.last c.further-lowest.result.0 c.further-lowest.result.1 before c.requires.last is in
    record {
      from = before;
      order = omega (arith, index);
      least = least;
      cost = lost;
      none = first_of_both g.V.Level.levels c.args.track.now (prices_of c.args.rows.now)
          (λ f to. (c.loop-before.from.index ≤ f) × (to ≡ c.args.last.index + 1))
          (Pair g.V.Level.levels c.args.track.now (prices_of c.args.rows.now) c.in-Some.before.index (c.args.last.index + 1))
          (λ f to. (c.in-Some.before.index ≤ f) × (to ≡ c.args.last.index + 1))
          None None
          (λ f to on column j. elim (cases_lt f c.loop-before.from.index) [
            | inl here ↦ inr (let from = j.0 in omega (arith, index), j.1)
            | inr h ↦ inl (h, j.1)
          ])
          c.loop-before.invariant.none
          (first_of_row g.V.Level.levels c.args.track.now (prices_of c.args.rows.now) c.in-Some.before.index (c.args.last.index + 1) c.further-lowest.result.1 None (omega (arith, index)) (omega arith) cost
          (c.are_low-in-Some.ensures c.if-not-are_low-2.false));
    }
