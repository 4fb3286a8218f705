use Rattle.std.proofs.Common.{arith, ◌≡◌, ◌∙◌, ℕ, ◌+◌, ◌∷◌, ◌++◌, [], Some, ap, sym, length, length-append, map, subst}
use Rattle.std.specs.List.{slice_get}
use Rattle.std.specs.Global.{Vec}
use Rattle.std.proofs.lemmas.Option.{slice_get-get_or}
use Rattle.rbc_costs.specs.Stretches.{AreCosts}
use Rattle.rbc_costs.proofs.LowFromLemmas.{one_there}
use Rattle.rbc_costs.proofs.NextBreakLemmas.{each_more}
use Rattle.rbc_reduce.specs.Tiles.{AreCut}
use Rattle.rbc_reduce.proofs.TileLemmas.{part_is}
use Rattle.rbc_reduce.proofs.parts.cut_columns.Given.{Over}
use Rattle.rbc_reduce.proofs.parts.cut_columns.Goals as goal
use Rattle.rbc_reduce.proofs.parts.cut_columns.Goals.{After-as_slice}

there : (g : Over) (c : After-as_slice g) → slice_get c.args.columns.now c.loop-column.column ≡ Some c.index-columns-column.result
there g c = slice_get-get_or c.args.columns.now c.loop-column.column c.index-columns-column.result (omega (arith, c.loop-column-test.true)) ∙ ap Some (sym c.index-columns-column.is)

pub cut_column-requires-clause-inside : goal.cut_column-requires-clause-inside
cut_column-requires-clause-inside g c κs within =
    let at = (goal.at.cut_column-requires-clause-inside g c).After-as_slice in
    let count = c.loop-column.invariant.count in
    let wide = c.requires.wide c.loop-column.column _ (omega arith) (there g at) in
    omega (arith, ap length c.as_slice.ensures.value)

pub loop-column-init : goal.loop-column-init
loop-column-init g c = record {
  count = let none = ap length c.in_ok-kept.ensures.items in omega arith;
  each = λ k part e. absurd (cc (e, ap (λ xs. slice_get xs k) c.in_ok-kept.ensures.items));
}

pub loop-column-preserved : goal.loop-column-preserved
loop-column-preserved g c =
    let at = (goal.at.loop-column-preserved g c).After-as_slice in
    let number = g.N.Total.number in
    let i = c.loop-column.invariant in
    let count = i.count in
    let is = c.in_ok-push.ensures.items in
    let new = c.in_ok-cut_column.field-0 in
    let P : ℕ → Vec g.row.N.Denot → Type 0 = λ k part. (cost : ℕ → ℕ → ℕ) (column : Vec g.row.N.Denot) → slice_get c.args.columns.now (k + 1) ≡ Some column
    → AreCosts cost (map number column.items) → AreCut cost c.args.cut (length column.items) (map number part.items) in
    let made : P (length c.loop-column.kept.items) new = λ cost column e are.
    let place = subst (λ n. slice_get c.args.columns.now n ≡ Some column) count e in
    let same = one_there c.args.columns.now c.loop-column.column _ _ (there g at) place in
    let whole = c.as_slice.ensures.value ∙ ap (λ v. v.items) same in
    subst (λ xs. AreCut cost c.args.cut (length xs) (map number new.items)) whole
    (part_is number cost c.as_slice.result.now new.items c.args.cut c.in_ok-cut_column.ensures.count c.in_ok-cut_column.ensures.first c.in_ok-cut_column.ensures.behind
    (let wide = c.requires.wide c.loop-column.column _ (omega arith) (there g at) in omega (arith, ap length c.as_slice.ensures.value))
    (subst (λ xs. AreCosts cost (map number xs)) (sym whole) are)) in
    record {
      count = let more = ap length is ∙ length-append c.loop-column.kept.items (new ∷ []) in omega arith;
      each = subst (λ xs. (k : ℕ) (part : Vec g.row.N.Denot) → slice_get xs k ≡ Some part → P k part) (sym is) (each_more P c.loop-column.kept.items new i.each made);
    }

pub returns-clause-count : goal.returns-clause-count
returns-clause-count g c =
    let count = c.loop-column.invariant.count in
    omega (arith, c.loop-column-test.false, c.requires.some)

pub returns-clause-cut : goal.returns-clause-cut
returns-clause-cut g c = c.loop-column.invariant.each
