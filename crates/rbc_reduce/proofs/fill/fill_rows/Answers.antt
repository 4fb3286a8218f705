use Rattle.std.proofs.Common.{arith, refl, ◌≡◌, ℕ, ◌+◌, ◌-◌, ◌<◌, ap, sym, ◌∙◌, length, get_or, map, take, subst}
use Rattle.std.proofs.lemmas.List.{length-map, length-take-le, map-id}
use Rattle.rbc_model.specs.Scales.{unit_of}
use Rattle.rbc_table_laws.specs.Stretches.{cost_of_step}
use Rattle.rbc_reduce.specs.Rows.{AreFilled, IsColumnMore, row_in}
use Rattle.rbc_costs.proofs.TotalLemmas.{none_behind, small_totals, take_at}
use Rattle.rbc_reduce.proofs.RowLemmas.{alike_filled, filled_none, filled_more, small_prices}
use Rattle.rbc_reduce.proofs.fill.fill_rows.Given.{Over}
use Rattle.rbc_reduce.proofs.fill.fill_rows.Goals as goal
use Rattle.rbc_reduce.proofs.fill.fill_rows.Goals.{After-costs_in_place-costs}

pub costs_in_place-costs-requires-clause-before : goal.costs_in_place-costs-requires-clause-before
costs_in_place-costs-requires-clause-before g c κs within = λ i h.
    let last : c.loop-last.last + 1 - 1 ≡ c.loop-last.last = omega arith in
    rw last (c.loop-last.invariant.costs i (omega arith))

-- ---- the costs that are handed on

room : (g : Over) (c : After-costs_in_place-costs g) → length c.costs_in_place-costs.result ≡ 16
room g c = omega (arith, c.costs_in_place-costs.type_inv)

width : (g : Over) (c : After-costs_in_place-costs g) → length (take (c.loop-last.last + 1) c.costs_in_place-costs.result) ≡ c.loop-last.last + 1
width g c = length-take-le (c.loop-last.last + 1) c.costs_in_place-costs.result (omega (arith, room g c, c.loop-last-test.true))

cost_at : (g : Over) (c : After-costs_in_place-costs g) (i : ℕ) → i < c.loop-last.last + 1
    → get_or (map (λ (n : ℕ). n) (take (c.loop-last.last + 1) c.costs_in_place-costs.result)) i 0 ≡ cost_of_step g.V.Level.levels (unit_of c.args.track.now.end) c.args.track.now i (c.loop-last.last + 1)
cost_at g c i h =
    take_at (λ (n : ℕ). n) c.costs_in_place-costs.result (c.loop-last.last + 1) i h ∙ ap (λ xs. get_or xs i 0) (map-id c.costs_in_place-costs.result) ∙ c.costs_in_place-costs.ensures i h

count_of : (g : Over) (c : After-costs_in_place-costs g) → length (map (λ (n : ℕ). n) (take (c.loop-last.last + 1) c.costs_in_place-costs.result)) ≡ c.loop-last.last + 1
count_of g c = length-map (take (c.loop-last.last + 1) c.costs_in_place-costs.result) (λ (n : ℕ). n) ∙ width g c

pub add_column-requires-clause-some_costs : goal.add_column-requires-clause-some_costs
add_column-requires-clause-some_costs g c κs =
    let wide = width g (goal.at.add_column-requires-clause-some_costs g c).After-costs_in_place-costs in
    omega arith

pub add_column-requires-clause-wide : goal.add_column-requires-clause-wide
add_column-requires-clause-wide g c κs = λ j h.
    let wide = c.loop-last.invariant.filled.wide j (omega (arith, c.loop-last.invariant.count, h)) in
    width g (goal.at.add_column-requires-clause-wide g c).After-costs_in_place-costs ∙ ap (λ n. n + 1) (sym wide)

pub add_column-requires-clause-small : goal.add_column-requires-clause-small
add_column-requires-clause-small g c κs = λ j i.
    small_prices (cost_of_step g.V.Level.levels (unit_of c.args.track.now.end) c.args.track.now) (length c.args.rows.now.items) (row_in (λ n. n) c.loop-last.rows.items) c.loop-last.last 100000000000 c.loop-last.invariant.filled
    (λ from to h inside. c.requires.small from to h (omega arith)) j i

pub add_column-requires-clause-small_costs : goal.add_column-requires-clause-small_costs
add_column-requires-clause-small_costs g c κs =
    let at = (goal.at.add_column-requires-clause-small_costs g c).After-costs_in_place-costs in
    small_totals (map (λ (n : ℕ). n) (take (c.loop-last.last + 1) c.costs_in_place-costs.result)) 100000000000 (λ i h.
    let count = count_of g at in
    let is = cost_at g at i (omega arith) in
    let small = c.requires.small i (c.loop-last.last + 1) (omega arith) (omega arith) in
    omega arith)

pub add_column-requires-clause-alike : goal.add_column-requires-clause-alike
add_column-requires-clause-alike g c κs = λ j far few.
    let wide = width g (goal.at.add_column-requires-clause-alike g c).After-costs_in_place-costs in
    alike_filled (cost_of_step g.V.Level.levels (unit_of c.args.track.now.end) c.args.track.now) (length c.args.rows.now.items) (row_in (λ n. n) c.loop-last.rows.items) c.loop-last.last c.loop-last.invariant.filled
    j (omega (arith, wide, far)) (omega (arith, c.loop-last.invariant.count, few))

pub loop-last-init : goal.loop-last-init
loop-last-init g c = record {
  room = refl;
  count = refl;
  costs = λ i h. absurd (omega arith);
  filled = filled_none (cost_of_step g.V.Level.levels (unit_of c.args.track.now.end) c.args.track.now) (length c.args.rows.now.items) (row_in (λ n. n) c.args.rows.now.items) c.requires.empty;
}

pub loop-last-preserved : goal.loop-last-preserved
loop-last-preserved g c =
    let at = (goal.at.loop-last-preserved g c).After-costs_in_place-costs in
    let i = c.loop-last.invariant in
    let size = c.add_column.ensures.size in
    let count = i.count in
    let costs = map (λ (n : ℕ). n) (take (c.loop-last.last + 1) c.costs_in_place-costs.result) in
    let more = subst (λ n. IsColumnMore costs n (row_in (λ n. n) c.loop-last.rows.items) (row_in (λ n. n) c.add_column.new.rows.items)) count c.in_ok-add_column.ensures.more in
    record {
      room = room g at;
      count = size ∙ count;
      costs = c.costs_in_place-costs.ensures;
      filled = filled_more (cost_of_step g.V.Level.levels (unit_of c.args.track.now.end) c.args.track.now) (length c.args.rows.now.items) (row_in (λ n. n) c.loop-last.rows.items) (row_in (λ n. n) c.add_column.new.rows.items)
          costs c.loop-last.last i.filled more
          (λ j h. none_behind (λ n. n) c.add_column.new.rows.items j (omega (arith, size, count, h))) c.requires.some (count_of g at) (cost_at g at);
    }

pub returns-clause-filled : goal.returns-clause-filled
returns-clause-filled g c =
    let end : c.loop-last.last ≡ length c.args.stretches.now = omega arith in
    subst (AreFilled (cost_of_step g.V.Level.levels (unit_of c.args.track.now.end) c.args.track.now) (length c.args.rows.now.items) (row_in (λ n. n) c.loop-last.rows.items)) end c.loop-last.invariant.filled
