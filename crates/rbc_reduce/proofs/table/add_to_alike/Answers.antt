use Rattle.std.proofs.Common.{arith, ◌≡◌, suc, ◌-◌, ◌≤◌, Result, Ok, Err, ap, sym, ◌∙◌, length, get_or, map, subst}
use Rattle.std.specs.Result.{OnOk}
use Rattle.std.proofs.lemmas.List.{length-map}
use Rattle.rbc_costs.proofs.TotalLemmas.{row_is}
use Rattle.rbc_reduce.specs.Rows.{AreAlike, IsCheapest, price_up_to, row_in}
use Rattle.rbc_reduce.proofs.RowLemmas.{alike_from}
use Rattle.rbc_reduce.proofs.table.add_to_alike.Given.{Over}
use Rattle.rbc_reduce.proofs.table.add_to_alike.Goals as goal
use Rattle.rbc_reduce.proofs.table.add_to_alike.Goals.{After-as_slice}

if_ok : {A E P Q : Type 0} → (r : Result A E) → OnOk r P → (P → Q) → OnOk r Q
if_ok (Ok x) p f = f p
if_ok (Err x) p f = p

-- the row before the first, as it is handed on
row_here : (g : Over) (c : After-as_slice g) → map g.N.Total.number c.as_slice.result.now ≡ row_in g.N.Total.number c.args.rows.now.items (c.args.first - 1)
row_here g c =
    ap (map g.N.Total.number) c.as_slice.ensures.value
    ∙ row_is g.N.Total.number c.args.rows.now.items (c.args.first - 1) _ c.index.ensures (omega (arith, c.requires.some, c.requires.inside))

pub cheapest-price-requires-clause-room : goal.cheapest-price-requires-clause-room
cheapest-price-requires-clause-room g c =
    let row = row_here g (goal.at.cheapest-price-requires-clause-room g c).After-as_slice in
    let width = c.requires.wide (c.args.first - 1) (omega (arith, c.requires.some, c.requires.inside)) in
    omega (arith, ap length row, length-map c.as_slice.result.now g.N.Total.number, width)

pub cheapest-price-requires-clause-small : goal.cheapest-price-requires-clause-small
cheapest-price-requires-clause-small g c κs within =
    let row = row_here g (goal.at.cheapest-price-requires-clause-small g c).After-as_slice in
    λ i. subst (λ r. get_or r i 0 ≤ g.N.Total.most) (sym row) (c.requires.small (c.args.first - 1) i)

pub returns-clause-more : goal.returns-clause-more
returns-clause-more g c =
    let number = g.N.Total.number in
    let row = row_here g (goal.at.returns-clause-more g c).After-as_slice in
    let before : suc (c.args.first - 1) ≡ c.args.first = omega (arith, c.requires.some) in
    let alike = alike_from (c.args.first - 1) (length c.args.rows.now.items) (row_in number c.args.rows.now.items)
    (subst (λ n. AreAlike n (length c.args.rows.now.items) (row_in number c.args.rows.now.items)) (sym before) c.requires.alike) in
    if_ok c.add_to_each.result c.add_to_each.ensures.added (λ added j far inside. (
      number c.cheapest-price.result,
      added (suc j) far inside,
      subst (λ b. IsCheapest (price_up_to b) (λ k. get_or (map number c.args.costs.now) k 0) (length (map number c.args.costs.now)) (number c.cheapest-price.result)) (row ∙ sym (alike j (omega arith) (omega arith)))
          (subst (λ n. IsCheapest (price_up_to (map number c.as_slice.result.now)) (λ k. get_or (map number c.args.costs.now) k 0) n (number c.cheapest-price.result)) (sym (length-map c.args.costs.now number)) c.cheapest-price.ensures),
    ))
