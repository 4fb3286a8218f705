use Rattle.std.proofs.Common.{arith, refl, ◌≡◌, ◌+◌, ◌-◌, ◌<◌, ◌≤◌, ℕ, Some, ◌∙◌, ap, sym, length, get_or, map, subst}
use Rattle.std.specs.List.{slice_get}
use Rattle.std.proofs.lemmas.Option.{slice_get-get_or}
use Rattle.rbc_model.specs.Scales.{unit_of}
use Rattle.rbc_table_laws.specs.Stretches.{cost_of_step}
use Rattle.rbc_costs.specs.Stretches.{AreCosts}
use Rattle.rbc_reduce.specs.Rows.{AreFilled, row_in}
use Rattle.rbc_reduce.specs.Tiles.{AreLeast}
use Rattle.rbc_reduce.proofs.TileLemmas.{same_least, whole_cut}
use Rattle.rbc_reduce.proofs.tiles.fill_four.Given.{Over}
use Rattle.rbc_reduce.proofs.tiles.fill_four.Goals as goal
use Rattle.rbc_reduce.proofs.tiles.fill_four.Goals.{After-as_slice}

abbrev cost : (g : Over) → After-as_slice g → ℕ → ℕ → ℕ
cost g c = cost_of_step g.V.Level.levels (unit_of c.args.track.now.end) c.args.track.now

there : (g : Over) (c : After-as_slice g) → slice_get c.args.columns.now c.loop-column.column ≡ Some c.index-columns-column.result
there g c = slice_get-get_or c.args.columns.now c.loop-column.column c.index-columns-column.result (omega (arith, c.loop-column-test.true)) ∙ ap Some (sym c.index-columns-column.is)

width : (g : Over) (c : After-as_slice g) → length c.as_slice.result.now ≡ c.args.known + c.loop-column.column
width g c = ap length c.as_slice.ensures.value ∙ c.requires.costs.width c.loop-column.column _ (there g c)

pub add_begun-requires-clause-inside : goal.add_begun-requires-clause-inside
add_begun-requires-clause-inside g c κs within =
    let some = c.loop-column.invariant.some in
    omega (arith, width g (goal.at.add_begun-requires-clause-inside g c).After-as_slice)

pub add_begun-requires-clause-costs : goal.add_begun-requires-clause-costs
add_begun-requires-clause-costs g c κs within =
    let at = (goal.at.add_begun-requires-clause-costs g c).After-as_slice in
    let some = c.loop-column.invariant.some in
    whole_cut g.N.Total.number (cost g at) c.as_slice.result.now (omega (arith, width g at))
    (subst (λ xs. AreCosts (cost g at) (map g.N.Total.number xs)) (sym c.as_slice.ensures.value) (c.requires.costs.costs c.loop-column.column _ (there g at)))

pub add_begun-requires-clause-filled : goal.add_begun-requires-clause-filled
add_begun-requires-clause-filled g c κs within =
    let at = (goal.at.add_begun-requires-clause-filled g c).After-as_slice in
    let i = c.loop-column.invariant in
    let some = i.some in
    let wide = width g at in
    let end : c.args.known + (c.loop-column.column - 1) ≡ 0 + length c.as_slice.result.now - 1 = omega arith in
    subst (λ n. AreFilled (cost g at) n (row_in g.N.Total.number c.loop-column.rows.items) (0 + length c.as_slice.result.now - 1)) (sym i.count)
    (subst (AreFilled (cost g at) (length c.args.rows.now.items) (row_in g.N.Total.number c.loop-column.rows.items)) end i.filled)

pub add_begun-requires-clause-least : goal.add_begun-requires-clause-least
add_begun-requires-clause-least g c κs within =
    let at = (goal.at.add_begun-requires-clause-least g c).After-as_slice in
    let i = c.loop-column.invariant in
    let some = i.some in
    let wide = width g at in
    let test = c.loop-column-test.true in
    let to : c.args.known + (c.loop-column.column - 1) + 1 ≡ 0 + length c.as_slice.result.now = omega arith in
    same_least g.N.Total.number (cost g at) c.args.known c.args.rows.now.items c.loop-column.rows.items (0 + length c.as_slice.result.now) (c.loop-column.column - 1) c.args.least.now i.count i.kept
    (subst (λ n. AreLeast g.N.Total.number c.args.rows.now.items (cost g at) c.args.known n (c.loop-column.column - 1) c.args.least.now) to (c.requires.begun (c.loop-column.column - 1) (omega arith)))

pub add_begun-requires-clause-small : goal.add_begun-requires-clause-small
add_begun-requires-clause-small g c κs within = λ i to h inside.
    let wide = width g (goal.at.add_begun-requires-clause-small g c).After-as_slice in
    c.requires.small i to h (omega (arith, c.loop-column-test.true))

pub loop-column-preserved : goal.loop-column-preserved
loop-column-preserved g c =
    let at = (goal.at.loop-column-preserved g c).After-as_slice in
    let i = c.loop-column.invariant in
    let some = i.some in
    let wide = width g at in
    let end : 0 + length c.as_slice.result.now ≡ c.args.known + (c.loop-column.column + 1 - 1) = omega arith in
    record {
      some = omega arith;
      count = c.add_begun.ensures.size ∙ i.count;
      filled = subst (AreFilled (cost g at) (length c.args.rows.now.items) (row_in g.N.Total.number c.add_begun.new.rows.items)) end
          (subst (λ n. AreFilled (cost g at) n (row_in g.N.Total.number c.add_begun.new.rows.items) (0 + length c.as_slice.result.now)) i.count c.in_ok-add_begun.ensures.filled);
      kept = λ j k h l. c.in_ok-add_begun.ensures.kept j k (omega (arith, i.count)) l ∙ i.kept j k h l;
    }

pub returns-clause-filled : goal.returns-clause-filled
returns-clause-filled g c =
    let some = c.loop-column.invariant.some in
    let end : c.args.known + (c.loop-column.column - 1) ≡ c.args.known + length c.args.columns.now - 1 = omega (arith, c.loop-column-test.false, c.requires.some_columns) in
    subst (AreFilled (cost_of_step g.V.Level.levels (unit_of c.args.track.now.end) c.args.track.now) (length c.args.rows.now.items) (row_in g.N.Total.number c.loop-column.rows.items)) end c.loop-column.invariant.filled
