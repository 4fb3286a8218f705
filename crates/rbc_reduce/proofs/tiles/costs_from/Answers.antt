use Rattle.std.proofs.Common.{arith, ◌≡◌, ◌+◌, ◌-◌, get_or, ℕ, List, [], ◌∷◌, ◌++◌, Some, ◌∙◌, ap, sym, length, length-append, map, subst}
use Rattle.std.specs.List.{slice_get}
use Rattle.std.specs.Global.{Vec}
use Rattle.std.proofs.lemmas.Option.{slice_get-get_or}
use Rattle.rbc_model.specs.Scales.{unit_of}
use Rattle.rbc_table_laws.specs.Stretches.{cost_of_step}
use Rattle.rbc_costs.proofs.NextBreakLemmas.{each_more}
use Rattle.rbc_costs.specs.Stretches.{AreCosts}
use Rattle.rbc_reduce.specs.Tiles.{AreCostsFrom}
use Rattle.rbc_reduce.proofs.tiles.costs_from.Given.{Over}
use Rattle.rbc_reduce.proofs.tiles.costs_from.Goals as goal
use Rattle.rbc_reduce.proofs.tiles.costs_from.Goals.{After-as_slice-last}

-- one column more, behind those that are there
module _ {N : Type 0} (number : N → ℕ) (cost : ℕ → ℕ → ℕ) (known : ℕ) where
  more : (columns columns' : List (Vec N)) (next : Vec N) → columns' ≡ columns ++ next ∷ [] → AreCostsFrom number cost known columns
      → length next.items ≡ known + length columns → AreCosts cost (map number next.items) → AreCostsFrom number cost known columns'
  more columns columns' next is c width costs = record {
    width = subst (λ xs. (q : ℕ) (column : Vec N) → slice_get xs q ≡ Some column → length column.items ≡ known + q) (sym is)
        (each_more (λ q (column : Vec N). length column.items ≡ known + q) columns next c.width width);
    costs = subst (λ xs. (q : ℕ) (column : Vec N) → slice_get xs q ≡ Some column → AreCosts cost (map number column.items)) (sym is)
        (each_more (λ q (column : Vec N). AreCosts cost (map number column.items)) columns next c.costs costs);
  }

  none : AreCostsFrom number cost known []
  none = record { width = λ q column e. absurd (cc e); costs = λ q column e. absurd (cc e) }

pub loop-room-init : goal.loop-room-init
loop-room-init g c =
    let number = g.N.Total.number in
    let cost = cost_of_step g.V.Level.levels (unit_of c.args.track.now.end) c.args.track.now in
    let is : c.push.new.self.items ≡ [] ++ c.args.before ∷ [] = c.in_ok-push.ensures.items ∙ ap (λ xs. xs ++ c.args.before ∷ []) c.in_ok-columns.ensures.items in
    let one = ap length is in
    let rest = c.into_iter-room-iterator.ensures.into_iter_gives.1 in
    record {
      some = omega arith;
      count = omega arith;
      costs = more number cost (length c.args.before.items) [] _ c.args.before is (none number cost (length c.args.before.items)) (omega arith) c.requires.before;
    }

there : (g : Over) (c : After-as_slice-last g) → slice_get c.loop-room.columns.items (length c.loop-room.columns.items - 1) ≡ Some c.index.result.now
there g c =
    let some = c.loop-room.invariant.some in
    let is = c.index.ensures in
    let same : c.len-in-loop-room.result - 1 ≡ length c.loop-room.columns.items - 1 = omega (arith, c.len-in-loop-room.ensures) in
    slice_get-get_or c.loop-room.columns.items (length c.loop-room.columns.items - 1) c.index.result.now (omega arith) ∙ ap Some (sym (is ∙ ap (λ n. get_or c.loop-room.columns.items n c.index.result.now) same))

width : (g : Over) (c : After-as_slice-last g) → length c.as_slice-last.result.now + 1 ≡ length c.args.before.items + length c.loop-room.columns.items
width g c =
    let some = c.loop-room.invariant.some in
    let is = c.loop-room.invariant.costs.width (length c.loop-room.columns.items - 1) _ (there g c) in
    let same = ap length c.as_slice-last.ensures.value in
    omega arith

pub costs_behind-requires-clause-inside : goal.costs_behind-requires-clause-inside
costs_behind-requires-clause-inside g c κs within =
    let wide = width g (goal.at.costs_behind-requires-clause-inside g c).After-as_slice-last in
    let count = c.loop-room.invariant.count in
    omega (arith, c.in-Some.ensures, c.requires.inside)

pub costs_behind-requires-clause-before : goal.costs_behind-requires-clause-before
costs_behind-requires-clause-before g c κs within =
    subst (λ xs. AreCosts (cost_of_step g.V.Level.levels (unit_of c.args.track.now.end) c.args.track.now) (map g.N.Total.number xs)) (sym c.as_slice-last.ensures.value)
    (c.loop-room.invariant.costs.costs (length c.loop-room.columns.items - 1) _ (there g (goal.at.costs_behind-requires-clause-before g c).After-as_slice-last))

pub loop-room-preserved : goal.loop-room-preserved
loop-room-preserved g c =
    let i = c.loop-room.invariant in
    let is = c.in_ok-push-2.ensures.items in
    let wide = width g (goal.at.loop-room-preserved g c).After-as_slice-last in
    let long = c.in_ok-next.ensures.count in
    let more_columns = ap length is ∙ length-append c.loop-room.columns.items (c.in_ok-next.next ∷ []) in
    record {
      some = omega arith;
      count = omega (arith, c.in-Some.ensures, i.count);
      costs = more g.N.Total.number (cost_of_step g.V.Level.levels (unit_of c.args.track.now.end) c.args.track.now) (length c.args.before.items) c.loop-room.columns.items _ c.in_ok-next.next is i.costs (omega arith) c.in_ok-next.ensures.costs;
    }

pub returns-clause-count : goal.returns-clause-count
returns-clause-count g c =
    let none = c.in-None.ensures.steps.0 in
    let count = c.loop-room.invariant.count in
    omega arith
