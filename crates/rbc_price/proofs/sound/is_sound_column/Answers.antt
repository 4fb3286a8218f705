use Rattle.std.proofs.Common.{arith, ◌≡◌, suc, ◌-◌, ◌∙◌, inl, inr, ap, sym, length, map, get_or}
use Rattle.std.proofs.lemmas.List.{length-map}
use Rattle.rbc_costs.specs.Sums.{price_up_to, row_in}
use Rattle.rbc_costs.proofs.TotalLemmas.{last_or_before, read_at, row_is, up_at}
use Rattle.rbc_price.proofs.sound.is_sound_column.Goals as goal
use Rattle.rbc_price.proofs.sound.is_sound_column.Goals.{Else-wide, Else-wide-2}

pub loop-row-init : goal.loop-row-init
loop-row-init g c = λ j h i inside. absurd (omega arith)

pub loop-row-preserved : goal.loop-row-preserved
loop-row-preserved g c = λ j h i inside.
    let number = g.N.Total.number in
    let rows = c.args.rows.now in
    let to = length c.args.costs.now in
    let row = c.loop-row.row in
    elim (last_or_before (suc j) row h) [
      | inl same ↦
          let here = row_is number rows row c.index-rows-row-in-loop-row.result c.index-rows-row-in-loop-row.is (omega (arith, c.loop-row-test.true)) in
          let before = row_is number rows (row - 1) c.index-rows-row.result c.index-rows-row.is (omega (arith, c.loop-row-test.true)) in
          let wide = c.requires.wide row (omega (arith, c.loop-row-test.true)) in
          let long : length c.index-rows-row-in-loop-row.result.items ≡ length (row_in number rows row) = sym (length-map c.index-rows-row-in-loop-row.result.items number) ∙ ap length here in
          let price : number c.index-in-loop-row.result.now ≡ price_up_to (row_in number rows (suc j)) to =
          read_at number c.index-rows-row-in-loop-row.result.items (to - 1) c.index-in-loop-row.result.now c.index-in-loop-row.ensures (omega (arith, long, wide, inside))
          ∙ ap (λ xs. get_or xs (to - 1) 0) here ∙ sym (up_at (row_in number rows row) to (omega (arith, inside))) ∙ ap (λ k. price_up_to (row_in number rows k) to) (sym same) in
          let low = c.cheapest-most.ensures.lowest i inside in
          let seen : price_up_to (map number c.as_slice.result.now) i ≡ price_up_to (row_in number rows j) i =
          ap (λ xs. price_up_to (map number xs) i) c.as_slice.ensures.value ∙ ap (λ xs. price_up_to xs i) before ∙ ap (λ k. price_up_to (row_in number rows k) i) (omega (arith, same)) in
          omega (arith, price, low, seen, c.if-wide-2.false, c.wide-in-loop-row.ensures, c.wide-in-loop-row-2.ensures)
      | inr less ↦ c.loop-row.invariant j less i inside
    ]

pub returns : goal.returns
returns g c = λ yes.
    let number = g.N.Total.number in
    let rows = c.args.rows.now in
    let to = length c.args.costs.now in
    let here = row_is number rows 0 c.index-rows-0.result c.index-rows-0.is c.requires.some in
    let wide = c.requires.wide 0 c.requires.some in
    let long : length c.index-rows-0.result.items ≡ length (row_in number rows 0) = sym (length-map c.index-rows-0.result.items number) ∙ ap length here in
    let price : number c.index.result.now ≡ price_up_to (row_in number rows 0) to =
    read_at number c.index-rows-0.result.items (to - 1) c.index.result.now c.index.ensures (omega (arith, long, wide, c.requires.some_costs))
    ∙ ap (λ xs. get_or xs (to - 1) 0) here ∙ sym (up_at (row_in number rows 0) to (omega (arith, c.requires.some_costs))) in
    let cost = read_at number c.args.costs.now 0 c.index-costs-0.result c.index-costs-0.is c.requires.some_costs in
    record {
      first = omega (arith, price, cost, c.if-wide.false, c.wide.ensures, c.wide-2.ensures);
      later = λ j h. c.loop-row.invariant j (omega (arith, c.loop-row-test.false, h));
    }
