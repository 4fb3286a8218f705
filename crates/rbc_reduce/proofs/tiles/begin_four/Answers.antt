use Rattle.std.proofs.Common.{arith, ◌≡◌, ◌+◌, ◌-◌, ◌<◌, ◌≤◌, ℕ, zero, suc, ◌∷◌, [], Some, ◌∙◌, ap, sym, length, length-append, map, get_or, subst}
use Rattle.std.specs.List.{slice_get}
use Rattle.std.specs.Global.{Vec}
use Rattle.std.proofs.lemmas.List.{length-map}
use Rattle.std.proofs.lemmas.Option.{slice_get-get_or}
use Rattle.rbc_costs.specs.declared.sums.Four.{Four}
use Rattle.rbc_costs.proofs.LowFromLemmas.{one_there}
use Rattle.rbc_costs.proofs.NextBreakLemmas.{each_more}
use Rattle.rbc_costs.proofs.TotalLemmas.{row_is}
use Rattle.rbc_reduce.specs.Rows.{IsCheapest, price_up_to, row_in}
use Rattle.rbc_reduce.specs.Tiles.{ArePricesOf, nth_of}
use Rattle.rbc_reduce.proofs.TileLemmas.{cheapest_at, min_high, min_is, min_low, some_inside}
use Rattle.rbc_reduce.proofs.tiles.begin_four.Given.{Over}
use Rattle.rbc_reduce.proofs.tiles.begin_four.Goals as goal
use Rattle.rbc_reduce.proofs.tiles.begin_four.Goals.{After-as_slice}

-- ---- the columns

first_there : (g : Over) (c : After-as_slice g) → slice_get c.args.columns.now 1 ≡ Some c.index-columns-1.result
first_there g c = slice_get-get_or c.args.columns.now 1 c.index-columns-1.result c.requires.inside ∙ ap Some (sym c.index-columns-1.is)

second_there : (g : Over) (c : After-as_slice g) → slice_get c.args.columns.now c.min.result ≡ Some c.index-columns-min.result
second_there g c = slice_get-get_or c.args.columns.now c.min.result c.index-columns-min.result (let high = min_high (length c.args.columns.now - 1) (1 + 1) in omega (arith, c.min.ensures, high, c.requires.inside)) ∙ ap Some (sym c.index-columns-min.is)

third_there : (g : Over) (c : After-as_slice g) → slice_get c.args.columns.now c.min-2.result ≡ Some c.index-columns-min-2.result
third_there g c = slice_get-get_or c.args.columns.now c.min-2.result c.index-columns-min-2.result (let high = min_high (length c.args.columns.now - 1) (1 + 2) in omega (arith, c.min-2.ensures, high, c.requires.inside)) ∙ ap Some (sym c.index-columns-min-2.is)

fourth_there : (g : Over) (c : After-as_slice g) → slice_get c.args.columns.now c.min-3.result ≡ Some c.index-columns-min-3.result
fourth_there g c = slice_get-get_or c.args.columns.now c.min-3.result c.index-columns-min-3.result (let high = min_high (length c.args.columns.now - 1) (1 + 3) in omega (arith, c.min-3.ensures, high, c.requires.inside)) ∙ ap Some (sym c.index-columns-min-3.is)

-- the row
seen : (g : Over) (c : After-as_slice g) → map g.N.Total.number c.as_slice-before.result.now ≡ row_in g.N.Total.number c.args.rows.now c.loop-row.row
seen g c = ap (map g.N.Total.number) c.as_slice-before.ensures.value ∙ row_is g.N.Total.number c.args.rows.now c.loop-row.row _ c.index-rows-row.is (omega (arith, c.loop-row-test.true))

room : (g : Over) (c : After-as_slice g) (q : ℕ) (column : Vec g.row.N.Denot) → 1 ≤ q → slice_get c.args.columns.now q ≡ Some column → length c.as_slice-before.result.now < length column.items
room g c q column low there =
    let wide = c.requires.wide c.loop-row.row q column (omega (arith, c.loop-row-test.true)) low there in
    let is = ap length (seen g c) in
    let same = length-map c.as_slice-before.result.now g.N.Total.number in
    omega arith

pub cheapest_four-requires-clause-rooms : goal.cheapest_four-requires-clause-rooms
cheapest_four-requires-clause-rooms g c κs within =
    let at = (goal.at.cheapest_four-requires-clause-rooms g c).After-as_slice in
    let low = c.requires.inside in (
      (let h = room g at 1 _ (omega arith) (first_there g at) in omega (arith, h, ap length c.as_slice.ensures.value)),
      (let h = room g at c.min.result _ (let up = min_low (length c.args.columns.now - 1) (1 + 1) 1 (omega arith) (omega arith) in omega (arith, c.min.ensures, up)) (second_there g at) in omega (arith, h, ap length c.as_slice-second.ensures.value)),
      (let h = room g at c.min-2.result _ (let up = min_low (length c.args.columns.now - 1) (1 + 2) 1 (omega arith) (omega arith) in omega (arith, c.min-2.ensures, up)) (third_there g at) in omega (arith, h, ap length c.as_slice-third.ensures.value)),
      (let h = room g at c.min-3.result _ (let up = min_low (length c.args.columns.now - 1) (1 + 3) 1 (omega arith) (omega arith) in omega (arith, c.min-3.ensures, up)) (fourth_there g at) in omega (arith, h, ap length c.as_slice-fourth.ensures.value)),
    )

pub cheapest_four-requires-clause-small : goal.cheapest_four-requires-clause-small
cheapest_four-requires-clause-small g c κs within = λ i.
    subst (λ xs. get_or xs i 0 ≤ g.N.Total.most) (sym (seen g (goal.at.cheapest_four-requires-clause-small g c).After-as_slice)) (c.requires.small c.loop-row.row i)

pub cheapest_four-requires-clause-small_first : goal.cheapest_four-requires-clause-small_first
cheapest_four-requires-clause-small_first g c κs within = λ i.
    subst (λ xs. get_or (map g.N.Total.number xs) i 0 ≤ g.N.Total.most) (sym c.as_slice.ensures.value) (c.requires.small_costs 1 i _ (first_there g (goal.at.cheapest_four-requires-clause-small_first g c).After-as_slice))

pub cheapest_four-requires-clause-small_second : goal.cheapest_four-requires-clause-small_second
cheapest_four-requires-clause-small_second g c κs within = λ i.
    subst (λ xs. get_or (map g.N.Total.number xs) i 0 ≤ g.N.Total.most) (sym c.as_slice-second.ensures.value) (c.requires.small_costs c.min.result i _ (second_there g (goal.at.cheapest_four-requires-clause-small_second g c).After-as_slice))

pub cheapest_four-requires-clause-small_third : goal.cheapest_four-requires-clause-small_third
cheapest_four-requires-clause-small_third g c κs within = λ i.
    subst (λ xs. get_or (map g.N.Total.number xs) i 0 ≤ g.N.Total.most) (sym c.as_slice-third.ensures.value) (c.requires.small_costs c.min-2.result i _ (third_there g (goal.at.cheapest_four-requires-clause-small_third g c).After-as_slice))

pub cheapest_four-requires-clause-small_fourth : goal.cheapest_four-requires-clause-small_fourth
cheapest_four-requires-clause-small_fourth g c κs within = λ i.
    subst (λ xs. get_or (map g.N.Total.number xs) i 0 ≤ g.N.Total.most) (sym c.as_slice-fourth.ensures.value) (c.requires.small_costs c.min-3.result i _ (fourth_there g (goal.at.cheapest_four-requires-clause-small_fourth g c).After-as_slice))

-- ---- the least prices of the row

of_four : (P : ℕ → Type 0) → P 0 → P 1 → P 2 → P 3 → (k : ℕ) → k < 4 → P k
of_four P a b c d zero h = a
of_four P a b c d (suc zero) h = b
of_four P a b c d (suc (suc zero)) h = c
of_four P a b c d (suc (suc (suc zero))) h = d
of_four P a b c d (suc (suc (suc (suc k)))) h = absurd (omega arith)

pub loop-row-preserved : goal.loop-row-preserved
loop-row-preserved g c =
    let number = g.N.Total.number in
    let at = (goal.at.loop-row-preserved g c).After-as_slice in
    let items = c.in_ok-push.ensures.items in
    let count = c.loop-row.invariant.count in
    let row = row_in number c.args.rows.now c.loop-row.row in
    let least : ℕ → Type 0 = λ k. (column : Vec g.row.N.Denot) → slice_get c.args.columns.now (1 + k) ≡ Some column
    → IsCheapest (price_up_to row) (λ i. get_or (map number column.items) i 0) (length row + 1) (number (nth_of c.cheapest_four.result k)) in
    let first : least 0 = λ column there.
    let same = one_there c.args.columns.now 1 _ _ (first_there g at) (subst (λ q. slice_get c.args.columns.now q ≡ Some column) (let e : 1 + 0 ≡ 1 = omega arith in e) there) in
    cheapest_at number c.as_slice-before.result.now c.as_slice.result.now row column (number c.cheapest_four.result.first) (seen g at) (c.as_slice.ensures.value ∙ ap (λ v. v.items) same) c.cheapest_four.ensures.first in
    let second : least 1 = λ column there.
    let inside = some_inside c.args.columns.now (1 + 1) column there in
    let place : c.min.result ≡ 1 + 1 = c.min.ensures ∙ min_is (length c.args.columns.now - 1) (1 + 1) (omega arith) in
    let same = one_there c.args.columns.now (1 + 1) _ _ (subst (λ q. slice_get c.args.columns.now q ≡ Some c.index-columns-min.result) place (second_there g at)) there in
    cheapest_at number c.as_slice-before.result.now c.as_slice-second.result.now row column (number c.cheapest_four.result.second) (seen g at) (c.as_slice-second.ensures.value ∙ ap (λ v. v.items) same) c.cheapest_four.ensures.second in
    let third : least 2 = λ column there.
    let inside = some_inside c.args.columns.now (1 + 2) column there in
    let place : c.min-2.result ≡ 1 + 2 = c.min-2.ensures ∙ min_is (length c.args.columns.now - 1) (1 + 2) (omega arith) in
    let same = one_there c.args.columns.now (1 + 2) _ _ (subst (λ q. slice_get c.args.columns.now q ≡ Some c.index-columns-min-2.result) place (third_there g at)) there in
    cheapest_at number c.as_slice-before.result.now c.as_slice-third.result.now row column (number c.cheapest_four.result.third) (seen g at) (c.as_slice-third.ensures.value ∙ ap (λ v. v.items) same) c.cheapest_four.ensures.third in
    let fourth : least 3 = λ column there.
    let inside = some_inside c.args.columns.now (1 + 3) column there in
    let place : c.min-3.result ≡ 1 + 3 = c.min-3.ensures ∙ min_is (length c.args.columns.now - 1) (1 + 3) (omega arith) in
    let same = one_there c.args.columns.now (1 + 3) _ _ (subst (λ q. slice_get c.args.columns.now q ≡ Some c.index-columns-min-3.result) place (fourth_there g at)) there in
    cheapest_at number c.as_slice-before.result.now c.as_slice-fourth.result.now row column (number c.cheapest_four.result.fourth) (seen g at) (c.as_slice-fourth.ensures.value ∙ ap (λ v. v.items) same) c.cheapest_four.ensures.fourth in
    record {
      count = ap length items ∙ length-append c.loop-row.group.items (c.cheapest_four.result ∷ []) ∙ (omega arith);
      prices = λ k column h there. subst (λ xs. ArePricesOf number c.args.rows.now column.items k xs) (sym items)
          (each_more (λ j (four : Four g.row.N.Denot). IsCheapest (price_up_to (row_in number c.args.rows.now j)) (λ i. get_or (map number column.items) i 0) (length (row_in number c.args.rows.now j) + 1) (number (nth_of four k)))
          c.loop-row.group.items c.cheapest_four.result (c.loop-row.invariant.prices k column h there)
          (subst (λ j. IsCheapest (price_up_to (row_in number c.args.rows.now j)) (λ i. get_or (map number column.items) i 0) (length (row_in number c.args.rows.now j) + 1) (number (nth_of c.cheapest_four.result k))) (sym count) (of_four least first second third fourth k h column there)));
    }
