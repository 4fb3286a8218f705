use Rattle.std.proofs.Common.{arith, ◌≡◌, ◌+◌, ◌≤◌, inl, inr, true, refl, subst, sym, ◌∙◌}
use Rattle.rbc_table_laws.specs.PriceRows.{prices_of}
use Rattle.rbc_price.specs.Columns.{stretches_of}
use Rattle.rbc_price.specs.Costs.{IsCostAt, IsLowestStretch, is_stretch_at_most}
use Rattle.rbc_price.proofs.ColumnLemmas.{adjacent, index_small, inside, stretch_order, higher, cost_of}
use Rattle.rbc_price.proofs.CostLemmas.{behind, behind_range, behind_below}
use Rattle.rbc_price.proofs.PlaceLemmas.{Pair, first_of_fewer, first_of_both, first_of_row}
use Rattle.rbc_price.proofs.inequalities.first_from_break.Given.{Over}
use Rattle.rbc_price.proofs.inequalities.first_from_break.Goals as goal
use Rattle.rbc_price.proofs.inequalities.first_from_break.Goals.{After-price_on-cost}
use Rattle.rbc_model.proofs.ScanLemmas.{le_or_lt}

pub first_row-first-requires-clause-wide : goal.first_row-first-requires-clause-wide
first_row-first-requires-clause-wide g c =
    let level = g.met.V.Level g.world.𝓛 g.world.𝓜 g.world.𝓡 ((λ s x. x), (λ x. x), (λ x. x), λ x. x) in
    let room = inside g.V.Level.levels level.lawful c.args.track.now c.known.ensures.track c.requires.whole c.args.lowest.column c.requires.lowest in
    record { width = stretches_of c.args.track.now; wide = c.requires.wide; room = omega arith }

pub loop-next-init : goal.loop-next-init
loop-next-init g c =
    let level = g.met.V.Level g.world.𝓛 g.world.𝓜 g.world.𝓡 ((λ s x. x), (λ x. x), (λ x. x), λ x. x) in
    let room = inside g.V.Level.levels level.lawful c.args.track.now c.known.ensures.track c.requires.whole c.args.lowest.column c.requires.lowest in
    let is = cost_of g.V.Level.levels level.lawful c.args.track.now c.known.ensures.track c.requires.whole c.args.from c.args.lowest.column c.args.lowest.level c.args.cost c.requires.from c.requires.lowest c.requires.cost in
    record {
      last = c.requires.lowest;
      behind = omega arith;
      cost = c.requires.cost;
      first = first_of_fewer g.V.Level.levels c.args.track.now (prices_of c.args.rows.now) (Pair g.V.Level.levels c.args.track.now (prices_of c.args.rows.now) c.args.from.index (c.args.lowest.column.index + 1))
          (λ f to. (f ≡ c.args.from.index) × (to ≤ c.args.lowest.column.index + 1) × IsLowestStretch g.V.Level.levels c.args.track.now f to c.args.lowest.column.index) c.first_row-first.result
          (λ f to on column j. (j.0, let high = j.2.high in omega (arith, j.1)))
          (first_of_row g.V.Level.levels c.args.track.now (prices_of c.args.rows.now) c.args.from.index (c.args.lowest.column.index + 1) c.args.cost c.first_row-first.result (omega arith) (omega arith) is c.first_row-first.ensures);
    }

pub returns-then-is_at_most : goal.returns-then-is_at_most
returns-then-is_at_most g c =
    let level = g.met.V.Level g.world.𝓛 g.world.𝓜 g.world.𝓡 ((λ s x. x), (λ x. x), (λ x. x), λ x. x) in
    let next = c.in-Some.ensures.behind c.in-Some.next refl in
    let index = c.in-Some.ensures.index c.in-Some.next refl in
    let lower : is_stretch_at_most g.V.Level.levels c.args.track.now c.in-Some.next.index c.args.lowest.column.index ≡ true =
    stretch_order g.V.Level.levels level.lawful c.args.track.now c.known.ensures.track c.requires.whole c.in-Some.next c.args.lowest.column c.least_on.result c.args.lowest.level next c.requires.lowest c.least_on.ensures c.requires.level
    ∙ sym c.is_at_most.ensures ∙ c.if-is_at_most.true in
    first_of_fewer g.V.Level.levels c.args.track.now (prices_of c.args.rows.now) (λ f to. (f ≡ c.args.from.index) × (to ≤ c.loop-next.last.index + 1) × IsLowestStretch g.V.Level.levels c.args.track.now f to c.args.lowest.column.index)
    (λ f to. (f ≡ c.args.from.index) × IsLowestStretch g.V.Level.levels c.args.track.now f to c.args.lowest.column.index) c.loop-next.first
    (λ f to on column j. (
      j.0,
      elim (le_or_lt to (c.loop-next.last.index + 1)) [
        | inl h ↦ h
        | inr past ↦ let not = j.1.behind c.in-Some.next.index (let order = c.loop-next.invariant.behind in omega (arith, index)) (omega (arith, past, index)) in absurd (cc (lower, not))
      ],
      j.1,
    )) c.loop-next.invariant.first

pub price_on-cost-requires-clause-given_in_range : goal.price_on-cost-requires-clause-given_in_range
price_on-cost-requires-clause-given_in_range g c κs within =
    let level = g.met.V.Level g.world.𝓛 g.world.𝓜 g.world.𝓡 ((λ s x. x), (λ x. x), (λ x. x), λ x. x) in
    let next = c.in-Some.ensures.behind c.in-Some.next refl in
    let index = c.in-Some.ensures.index c.in-Some.next refl in
    let joined = adjacent g.V.Level.levels level.lawful c.args.track.now c.known.ensures.track c.requires.whole c.loop-next.last c.in-Some.next c.loop-next.invariant.last next index in
    let before = subst (λ x. IsCostAt g.V.Level.levels c.args.track.now c.args.from.stretch.from x c.args.lowest.level c.loop-next.cost) joined c.loop-next.invariant.cost in
    let low = higher g.V.Level.levels level.lawful c.args.track.now c.known.ensures.track c.requires.whole c.in-Some.next c.args.lowest.column c.least_on.result c.args.lowest.level next c.requires.lowest c.least_on.ensures c.requires.level
    (sym c.is_at_most.ensures ∙ c.if-is_at_most.false) in
    rw c.floor.ensures (behind_range g.V.Level.levels level.lawful c.args.track.now c.known.ensures.track c.args.from.stretch.from c.in-Some.next.stretch.from c.in-Some.next.stretch.to c.args.lowest.level c.least_on.result c.loop-next.cost next.on_track.inside before c.least_on.ensures low)

pub price_on-cost-requires-clause-below : goal.price_on-cost-requires-clause-below
price_on-cost-requires-clause-below g c κs within = λ x v from_low to_high at.
    let level = g.met.V.Level g.world.𝓛 g.world.𝓜 g.world.𝓡 ((λ s x. x), (λ x. x), (λ x. x), λ x. x) in
    let next = c.in-Some.ensures.behind c.in-Some.next refl in
    let index = c.in-Some.ensures.index c.in-Some.next refl in
    let joined = adjacent g.V.Level.levels level.lawful c.args.track.now c.known.ensures.track c.requires.whole c.loop-next.last c.in-Some.next c.loop-next.invariant.last next index in
    let before = subst (λ x. IsCostAt g.V.Level.levels c.args.track.now c.args.from.stretch.from x c.args.lowest.level c.loop-next.cost) joined c.loop-next.invariant.cost in
    let low = higher g.V.Level.levels level.lawful c.args.track.now c.known.ensures.track c.requires.whole c.in-Some.next c.args.lowest.column c.least_on.result c.args.lowest.level next c.requires.lowest c.least_on.ensures c.requires.level
    (sym c.is_at_most.ensures ∙ c.if-is_at_most.false) in
    rw c.floor.ensures (behind_below g.V.Level.levels level.lawful c.args.track.now c.known.ensures.track c.args.from.stretch.from c.in-Some.next.stretch.from c.in-Some.next.stretch.to c.args.lowest.level c.least_on.result c.loop-next.cost next.on_track.inside before c.least_on.ensures low x v from_low to_high at)

cost_here : (g : Over) (c : After-price_on-cost g)
    → IsCostAt g.V.Level.levels c.args.track.now c.args.from.stretch.from c.in-Some.next.stretch.to c.args.lowest.level (c.loop-next.cost + c.price_on-cost.result)
cost_here g c =
    let level = g.met.V.Level g.world.𝓛 g.world.𝓜 g.world.𝓡 ((λ s x. x), (λ x. x), (λ x. x), λ x. x) in
    let next = c.in-Some.ensures.behind c.in-Some.next refl in
    let index = c.in-Some.ensures.index c.in-Some.next refl in
    let joined = adjacent g.V.Level.levels level.lawful c.args.track.now c.known.ensures.track c.requires.whole c.loop-next.last c.in-Some.next c.loop-next.invariant.last next index in
    let before = subst (λ x. IsCostAt g.V.Level.levels c.args.track.now c.args.from.stretch.from x c.args.lowest.level c.loop-next.cost) joined c.loop-next.invariant.cost in
    let low = higher g.V.Level.levels level.lawful c.args.track.now c.known.ensures.track c.requires.whole c.in-Some.next c.args.lowest.column c.least_on.result c.args.lowest.level next c.requires.lowest c.least_on.ensures c.requires.level
    (sym c.is_at_most.ensures ∙ c.if-is_at_most.false) in
    behind g.V.Level.levels level.lawful c.args.track.now c.known.ensures.track c.args.from.stretch.from c.in-Some.next.stretch.from c.in-Some.next.stretch.to c.args.lowest.level c.least_on.result c.loop-next.cost next.on_track.inside before c.least_on.ensures low
    c.price_on-cost.result (rw c.floor.ensures at c.price_on-cost.ensures.price) c.price_on-cost.ensures.bound

pub overflow_add-cost : goal.overflow_add-cost
overflow_add-cost g c =
    let bound = (cost_here g (goal.at.overflow_add-cost g c).After-price_on-cost).bound in
    let next = c.in-Some.ensures.behind c.in-Some.next refl in
    let end = next.on_track.inside in
    let near = c.known.ensures.within_limit in
    omega arith

pub first_row-requires-clause-wide : goal.first_row-requires-clause-wide
first_row-requires-clause-wide g c =
    let level = g.met.V.Level g.world.𝓛 g.world.𝓜 g.world.𝓡 ((λ s x. x), (λ x. x), (λ x. x), λ x. x) in
    let next = c.in-Some.ensures.behind c.in-Some.next refl in
    let room = inside g.V.Level.levels level.lawful c.args.track.now c.known.ensures.track c.requires.whole c.in-Some.next next in
    record { width = stretches_of c.args.track.now; wide = c.requires.wide; room = omega arith }

pub loop-next-preserved : goal.loop-next-preserved
loop-next-preserved g c =
    let level = g.met.V.Level g.world.𝓛 g.world.𝓜 g.world.𝓡 ((λ s x. x), (λ x. x), (λ x. x), λ x. x) in
    let next = c.in-Some.ensures.behind c.in-Some.next refl in
    let index = c.in-Some.ensures.index c.in-Some.next refl in
    let order = c.loop-next.invariant.behind in
    let cost = cost_here g (goal.at.loop-next-preserved g c).After-price_on-cost in
    let room = inside g.V.Level.levels level.lawful c.args.track.now c.known.ensures.track c.requires.whole c.in-Some.next next in
    let is = cost_of g.V.Level.levels level.lawful c.args.track.now c.known.ensures.track c.requires.whole c.args.from c.in-Some.next c.args.lowest.level _ c.requires.from next cost in
    record {
      last = next;
      behind = omega (arith, index);
      cost = cost;
      first = rw c.earlier-first.ensures (first_of_both g.V.Level.levels c.args.track.now (prices_of c.args.rows.now)
          (λ f to. (f ≡ c.args.from.index) × (to ≤ c.loop-next.last.index + 1) × IsLowestStretch g.V.Level.levels c.args.track.now f to c.args.lowest.column.index)
          (Pair g.V.Level.levels c.args.track.now (prices_of c.args.rows.now) c.args.from.index (c.in-Some.next.index + 1))
          (λ f to. (f ≡ c.args.from.index) × (to ≤ c.in-Some.next.index + 1) × IsLowestStretch g.V.Level.levels c.args.track.now f to c.args.lowest.column.index)
          c.loop-next.first c.first_row.result
          (λ f to on column j. elim (le_or_lt to (c.loop-next.last.index + 1)) [
            | inl h ↦ inl (j.0, h, j.2)
            | inr past ↦ inr (j.0, let last = j.1 in omega (arith, index))
          ])
          c.loop-next.invariant.first
          (first_of_row g.V.Level.levels c.args.track.now (prices_of c.args.rows.now) c.args.from.index (c.in-Some.next.index + 1) _ c.first_row.result (omega (arith, index)) (omega arith) is c.first_row.ensures));
    }

pub returns : goal.returns
returns g c =
    let last = c.column_behind.ensures.last c.in_default.is in
    first_of_fewer g.V.Level.levels c.args.track.now (prices_of c.args.rows.now) (λ f to. (f ≡ c.args.from.index) × (to ≤ c.loop-next.last.index + 1) × IsLowestStretch g.V.Level.levels c.args.track.now f to c.args.lowest.column.index)
    (λ f to. (f ≡ c.args.from.index) × IsLowestStretch g.V.Level.levels c.args.track.now f to c.args.lowest.column.index) c.loop-next.first
    (λ f to on column j. (j.0, omega (arith, last, column), j.1)) c.loop-next.invariant.first

pub loop-next-smaller : goal.loop-next-smaller
loop-next-smaller g c =
    let level = g.met.V.Level g.world.𝓛 g.world.𝓜 g.world.𝓡 ((λ s x. x), (λ x. x), (λ x. x), λ x. x) in
    let next = c.in-Some.ensures.behind c.in-Some.next refl in
    let index = c.in-Some.ensures.index c.in-Some.next refl in
    let room = inside g.V.Level.levels level.lawful c.args.track.now c.known.ensures.track c.requires.whole c.in-Some.next next in
    omega arith

pub overflow_add-column : goal.overflow_add-column
overflow_add-column g c =
    let level = g.met.V.Level g.world.𝓛 g.world.𝓜 g.world.𝓡 ((λ s x. x), (λ x. x), (λ x. x), λ x. x) in
    let small = index_small g.V.Level.levels level.lawful c.args.track.now c.known.ensures.track c.requires.whole c.args.lowest.column c.requires.lowest in
    let near = c.known.ensures.within_limit in
    omega arith

pub overflow_add-next : goal.overflow_add-next
overflow_add-next g c =
    let level = g.met.V.Level g.world.𝓛 g.world.𝓜 g.world.𝓡 ((λ s x. x), (λ x. x), (λ x. x), λ x. x) in
    let small = index_small g.V.Level.levels level.lawful c.args.track.now c.known.ensures.track c.requires.whole c.in-Some.next (c.in-Some.ensures.behind c.in-Some.next refl) in
    let near = c.known.ensures.within_limit in
    omega arith
