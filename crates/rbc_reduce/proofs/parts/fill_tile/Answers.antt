use Rattle.std.proofs.Common.{arith, ◌≡◌, ◌+◌, ◌-◌, ◌%◌, ◌<◌, ◌∙◌, ℕ, sym, length, map, subst}
use Rattle.std.proofs.lemmas.List.{length-map}
use Rattle.rbc_model.specs.Scales.{unit_of}
use Rattle.rbc_table_laws.specs.Stretches.{cost_of_step}
use Rattle.rbc_reduce.specs.Rows.{AreFilled, row_in}
use Rattle.rbc_reduce.specs.Tiles.{AreCut, AreLeast}
use Rattle.rbc_reduce.proofs.TileLemmas.{column_there, costs_there, group_there, least_there, same_least}
use Rattle.rbc_reduce.proofs.parts.fill_tile.Given.{Over}
use Rattle.rbc_reduce.proofs.parts.fill_tile.Goals as goal
use Rattle.rbc_reduce.proofs.parts.fill_tile.Goals.{After-as_slice-least}

pub index-group-requires : goal.index-group-requires
index-group-requires g c =
    let there = group_there g.N.Total.number (cost_of_step g.V.Level.levels (unit_of c.args.track.now.end) c.args.track.now) c.args.known c.args.rows.now.items c.args.end c.loop-column.column c.args.parts.now c.requires.begun c.loop-column-test.true c.index-parts-column.result c.index-parts-column.is in
    omega arith

pub index-requires : goal.index-requires
index-requires g c =
    let there = column_there g.N.Total.number (cost_of_step g.V.Level.levels (unit_of c.args.track.now.end) c.args.track.now) c.args.known c.args.rows.now.items c.args.end c.loop-column.column c.args.parts.now c.requires.begun c.loop-column-test.true c.index-parts-column.result c.index-parts-column.is c.index-group.result.now c.index-group.ensures in
    omega arith

-- ---- the column and its prices

abbrev cost : (g : Over) → After-as_slice-least g → ℕ → ℕ → ℕ
cost g c = cost_of_step g.V.Level.levels (unit_of c.args.track.now.end) c.args.track.now

costs : (g : Over) (c : After-as_slice-least g) → AreCut (cost g c) c.args.known (c.args.known + c.loop-column.column + 1) (map g.N.Total.number c.as_slice-costs.result.now)
costs g c =
    subst (λ xs. AreCut (cost g c) c.args.known (c.args.known + c.loop-column.column + 1) (map g.N.Total.number xs)) (sym c.as_slice-costs.ensures.value)
    (costs_there g.N.Total.number (cost_of_step g.V.Level.levels (unit_of c.args.track.now.end) c.args.track.now) c.args.known c.args.rows.now.items c.args.end c.loop-column.column c.args.parts.now c.requires.begun c.loop-column-test.true c.index-parts-column.result c.index-parts-column.is
    c.index-group.result.now c.index-group.ensures c.index.result.now c.index.ensures)

-- the column is up to this break
end : (g : Over) (c : After-as_slice-least g) → c.args.known + c.loop-column.column + 1 ≡ c.args.known + length c.as_slice-costs.result.now
end g c =
    let count = (costs g c).count in
    let same = length-map c.as_slice-costs.result.now g.N.Total.number in
    omega arith

least : (g : Over) (c : After-as_slice-least g)
    → AreLeast g.N.Total.number c.args.rows.now.items (cost g c) c.args.known (c.args.known + c.loop-column.column + 1) (c.loop-column.column % 4) c.as_slice-least.result.now
least g c =
    subst (AreLeast g.N.Total.number c.args.rows.now.items (cost g c) c.args.known (c.args.known + c.loop-column.column + 1) (c.loop-column.column % 4)) (sym c.as_slice-least.ensures.value)
    (least_there g.N.Total.number (cost_of_step g.V.Level.levels (unit_of c.args.track.now.end) c.args.track.now) c.args.known c.args.rows.now.items c.args.end c.loop-column.column c.args.parts.now c.requires.begun c.loop-column-test.true c.index-parts-column.result c.index-parts-column.is
    c.index-group.result.now c.index-group.ensures)

pub add_begun-requires-clause-inside : goal.add_begun-requires-clause-inside
add_begun-requires-clause-inside g c κs within =
    let is = end g (goal.at.add_begun-requires-clause-inside g c).After-as_slice-least in
    omega arith

pub add_begun-requires-clause-costs : goal.add_begun-requires-clause-costs
add_begun-requires-clause-costs g c κs within =
    let at = (goal.at.add_begun-requires-clause-costs g c).After-as_slice-least in
    subst (λ n. AreCut (cost g at) c.args.known n (map g.N.Total.number c.as_slice-costs.result.now)) (end g at) (costs g at)

pub add_begun-requires-clause-filled : goal.add_begun-requires-clause-filled
add_begun-requires-clause-filled g c κs within =
    let at = (goal.at.add_begun-requires-clause-filled g c).After-as_slice-least in
    let is = end g at in
    let i = c.loop-column.invariant in
    let before : c.args.known + c.loop-column.column ≡ c.args.known + length c.as_slice-costs.result.now - 1 = omega arith in
    subst (λ n. AreFilled (cost g at) n (row_in g.N.Total.number c.loop-column.rows.items) (c.args.known + length c.as_slice-costs.result.now - 1)) (sym i.count)
    (subst (AreFilled (cost g at) (length c.args.rows.now.items) (row_in g.N.Total.number c.loop-column.rows.items)) before i.filled)

pub add_begun-requires-clause-least : goal.add_begun-requires-clause-least
add_begun-requires-clause-least g c κs within =
    let at = (goal.at.add_begun-requires-clause-least g c).After-as_slice-least in
    let i = c.loop-column.invariant in
    same_least g.N.Total.number (cost g at) c.args.known c.args.rows.now.items c.loop-column.rows.items (c.args.known + length c.as_slice-costs.result.now) (c.loop-column.column % 4) c.as_slice-least.result.now i.count i.kept
    (subst (λ n. AreLeast g.N.Total.number c.args.rows.now.items (cost g at) c.args.known n (c.loop-column.column % 4) c.as_slice-least.result.now) (end g at) (least g at))

pub add_begun-requires-clause-small : goal.add_begun-requires-clause-small
add_begun-requires-clause-small g c κs within = λ i to h inside.
    let is = end g (goal.at.add_begun-requires-clause-small g c).After-as_slice-least in
    let test = c.loop-column-test.true in
    c.requires.small i to h (omega arith)

pub loop-column-preserved : goal.loop-column-preserved
loop-column-preserved g c =
    let at = (goal.at.loop-column-preserved g c).After-as_slice-least in
    let is = end g at in
    let i = c.loop-column.invariant in
    let after : c.args.known + length c.as_slice-costs.result.now ≡ c.args.known + (c.loop-column.column + 1) = omega arith in
    record {
      count = c.add_begun.ensures.size ∙ i.count;
      filled = subst (AreFilled (cost g at) (length c.args.rows.now.items) (row_in g.N.Total.number c.add_begun.new.rows.items)) after
          (subst (λ n. AreFilled (cost g at) n (row_in g.N.Total.number c.add_begun.new.rows.items) (c.args.known + length c.as_slice-costs.result.now)) i.count c.in_ok-add_begun.ensures.filled);
      kept = λ j k h l. c.in_ok-add_begun.ensures.kept j k (omega (arith, i.count)) l ∙ i.kept j k h l;
    }

pub returns-clause-filled : goal.returns-clause-filled
returns-clause-filled g c =
    let all : c.args.known + c.loop-column.column ≡ c.args.end = omega (arith, c.loop-column-test.false, c.requires.rises) in
    subst (AreFilled (cost_of_step g.V.Level.levels (unit_of c.args.track.now.end) c.args.track.now) (length c.args.rows.now.items) (row_in g.N.Total.number c.loop-column.rows.items)) all c.loop-column.invariant.filled
