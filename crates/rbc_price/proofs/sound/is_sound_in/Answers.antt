use Rattle.std.proofs.Common.{arith, ◌≡◌, refl, ℕ, ◌+◌, ◌<◌, inl, inr, ap, sym, ◌∙◌, length, get_or, map, subst}
use Rattle.std.proofs.lemmas.List.{length-map}
use Rattle.rbc_model.specs.Scales.{unit_of}
use Rattle.rbc_table_laws.specs.PriceRows.{prices_of}
use Rattle.rbc_table_laws.specs.Stretches.{cost_of_step}
use Rattle.rbc_costs.specs.Stretches.{AreCosts, AreLowFrom}
use Rattle.rbc_costs.specs.Sums.{row_in}
use Rattle.rbc_costs.proofs.TotalLemmas.{last_or_before, small_totals}
use Rattle.rbc_price.specs.Totals.{AreTotals, IsSoundColumn}
use Rattle.rbc_price.proofs.SoundLemmas.{none_here, some_of, wide_at}
use Rattle.rbc_price.proofs.sound.is_sound_in.Given.{Over}
use Rattle.rbc_price.proofs.sound.is_sound_in.Goals as goal
use Rattle.rbc_price.proofs.sound.is_sound_in.Goals.{After-deref-in-loop-column-3, After-deref-in-loop-column-5}

pub loop-column-init : goal.loop-column-init
loop-column-init g c =
    let none = ap length c.in_ok-before.ensures.items in
    record {
      width = none;
      costs = λ i h. let long = length-map c.in_ok-before.before.items g.N.Total.number in absurd (omega arith);
      sound = λ place h high. let on = high.on in absurd (omega arith);
    }

-- ---- the costs up to the break before

pub costs_behind-requires-clause-inside : goal.costs_behind-requires-clause-inside
costs_behind-requires-clause-inside g c κs within =
    omega (arith, ap length c.deref-in-loop-column.ensures.value, ap length c.deref-in-loop-column-3.ensures.value, c.loop-column.invariant.width, c.loop-column-test.true)

pub costs_behind-requires-clause-firsts : goal.costs_behind-requires-clause-firsts
costs_behind-requires-clause-firsts g c κs within = λ stretch h.
    let are = subst (λ xs. AreLowFrom g.V.Level.levels (unit_of c.args.track.now.end) c.args.track.now xs (length xs) (λ i. get_or c.in_ok-firsts.firsts.items i 0)) (c.deref.ensures.value ∙ sym c.deref-in-loop-column.ensures.value) c.in_ok-firsts.ensures.firsts in
    subst (λ xs. AreLowFrom g.V.Level.levels (unit_of c.args.track.now.end) c.args.track.now c.deref-in-loop-column.result.now (length c.deref-in-loop-column.result.now) (λ i. get_or xs i 0)) (sym c.deref-in-loop-column-2.ensures.value) are stretch h

pub costs_behind-requires-clause-before : goal.costs_behind-requires-clause-before
costs_behind-requires-clause-before g c κs within =
    subst (λ xs. AreCosts (cost_of_step g.V.Level.levels (unit_of c.args.track.now.end) c.args.track.now) (map g.N.Total.number xs)) (sym c.deref-in-loop-column-3.ensures.value) c.loop-column.invariant.costs

-- ---- the table and the costs that are handed on

table_is : (g : Over) (c : After-deref-in-loop-column-5 g) → AreTotals g.N.Total.number g.N.Total.most (prices_of c.args.rows.now) c.deref-in-loop-column-4.result.now
table_is g c =
    let totals = AreTotals g.N.Total.number g.N.Total.most (prices_of c.args.rows.now) in
    subst totals (sym c.deref-in-loop-column-4.ensures.value) (some_of (λ table. totals table.items) c.in_ok-table.field-0 c.in-Some.table c.in-Some.is c.in_ok-table.ensures)

width : (g : Over) (c : After-deref-in-loop-column-5 g) → length c.deref-in-loop-column-5.result.now ≡ c.loop-column._column + 1
width g c =
    omega (arith, ap length c.deref-in-loop-column-5.ensures.value, c.in_ok-costs.ensures.count, ap length c.deref-in-loop-column-3.ensures.value, c.loop-column.invariant.width)

cost_at : (g : Over) (c : After-deref-in-loop-column-5 g) (i : ℕ) → i < c.loop-column._column + 1
    → get_or (map g.N.Total.number c.deref-in-loop-column-5.result.now) i 0 ≡ cost_of_step g.V.Level.levels (unit_of c.args.track.now.end) c.args.track.now i (c.loop-column._column + 1)
cost_at g c i h =
    let cost = cost_of_step g.V.Level.levels (unit_of c.args.track.now.end) c.args.track.now in
    let are = subst (λ xs. AreCosts cost (map g.N.Total.number xs)) (sym c.deref-in-loop-column-5.ensures.value) c.in_ok-costs.ensures.costs in
    let long = length-map c.deref-in-loop-column-5.result.now g.N.Total.number in
    are i (omega (arith, h, long, width g c)) ∙ ap (cost i) (long ∙ width g c)

pub is_sound_column-requires-clause-some_costs : goal.is_sound_column-requires-clause-some_costs
is_sound_column-requires-clause-some_costs g c κs within = omega (arith, width g (goal.at.is_sound_column-requires-clause-some_costs g c).After-deref-in-loop-column-5)

pub is_sound_column-requires-clause-wide : goal.is_sound_column-requires-clause-wide
is_sound_column-requires-clause-wide g c κs within = λ j h.
    let there = (goal.at.is_sound_column-requires-clause-wide g c).After-deref-in-loop-column-5 in
    let are = table_is g there in
    let rows = c.args.rows.now in
    let count = c.in_ok-stretches.ensures.count in
    let wide = wide_at rows _ j c.requires.wide (omega (arith, are.count, length-map rows (λ row. row.items), h)) in
    omega (arith, width g there, ap length (are.same j), wide, count, c.loop-column-test.true)

pub is_sound_column-requires-clause-small : goal.is_sound_column-requires-clause-small
is_sound_column-requires-clause-small g c κs within = (table_is g (goal.at.is_sound_column-requires-clause-small g c).After-deref-in-loop-column-5).small

pub is_sound_column-requires-clause-small_costs : goal.is_sound_column-requires-clause-small_costs
is_sound_column-requires-clause-small_costs g c κs within =
    let there = (goal.at.is_sound_column-requires-clause-small_costs g c).After-deref-in-loop-column-5 in
    let costs = c.deref-in-loop-column-5.result.now in
    let count = c.in_ok-stretches.ensures.count in
    small_totals (map g.N.Total.number costs) g.N.Total.most (λ i h.
    let inside : i < c.loop-column._column + 1 = omega (arith, h, length-map costs g.N.Total.number, width g there) in
    let is = cost_at g there i inside in
    let small = c.requires.small i (c.loop-column._column + 1) inside (omega (arith, count, c.loop-column-test.true)) in
    omega (arith, is, small))

pub loop-column-preserved : goal.loop-column-preserved
loop-column-preserved g c =
    let there = (goal.at.loop-column-preserved g c).After-deref-in-loop-column-5 in
    let i = c.loop-column.invariant in
    let table = c.deref-in-loop-column-4.result.now in
    let row = row_in g.N.Total.number table in
    let cost : ℕ → ℕ = λ k. get_or (map g.N.Total.number c.deref-in-loop-column-5.result.now) k 0 in
    let column = subst (λ to. IsSoundColumn row (length table) to cost) (width g there) (c.if-not-is_sound_column.ensures refl) in
    record {
      width = omega (arith, c.in_ok-costs.ensures.count, ap length c.deref-in-loop-column-3.ensures.value, i.width);
      costs = c.in_ok-costs.ensures.costs;
      sound = λ place h high. elim (last_or_before place.to (c.loop-column._column + 1) (omega arith)) [
        | inl same ↦ none_here g.V.Level.levels c.args.track.now g.N.Total.number g.N.Total.most (prices_of c.args.rows.now) table (table_is g there)
            (c.loop-column._column + 1) cost (cost_at g there) column place same high
        | inr less ↦ i.sound place (omega arith) high
      ];
    }

pub returns : goal.returns
returns g c = λ yes other judged high.
    let count = c.in_ok-stretches.ensures.count in
    let column = high.column in
    c.loop-column.invariant.sound other (omega (arith, column, count, c.loop-column-test.false)) high
