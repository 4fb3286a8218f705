use Rattle.std.proofs.Common.{arith, ℕ, suc, ◌≤◌, ◌<◌, ◌⊎◌, inl, inr, Result, Ok, Err, ◌∷◌, ◌++◌, [], ap, ◌∙◌, length, get_or, map, subst}
use Rattle.std.specs.Result.{OnOk}
use Rattle.rbc_costs.proofs.TotalLemmas.{read_at}
use Rattle.rbc_reduce.specs.Rows.{IsCheapest, price_up_to, row_in}
use Rattle.rbc_reduce.proofs.table.add_column.Goals as goal

both_ok : {A E P Q R : Type 0} → (r : Result A E) → OnOk r P → OnOk r Q → (P → Q → R) → OnOk r R
both_ok (Ok x) p q f = f p q
both_ok (Err x) p q f = p

below_or_not : (first j : ℕ) → (suc j < first) ⊎ (first ≤ suc j)
below_or_not first j = grind arith

pub returns-clause-more : goal.returns-clause-more
returns-clause-more g c =
    let number = g.N.Total.number in
    let alike = c.in_ok-add_to_alike.ensures in
    let cheapest = c.in_ok-add_cheapest.ensures in
    let first = read_at number c.args.costs.now 0 _ c.index-costs-0.is c.requires.some_costs in
    both_ok c.add_price.result c.add_price.ensures.added c.add_price.ensures.others (λ added others. record {
      first = added ∙ ap (λ r. r ++ number c.index-costs-0.result ∷ []) (cheapest.first ∙ alike.others 0 (omega arith)) ∙ ap (λ k. row_in number c.args.rows.now.items 0 ++ k ∷ []) first;
      later = λ j h. elim (below_or_not c.min-alike.result j) [
        | inl below ↦
            let there = cheapest.more j below in (
              there.0,
              others (suc j) (λ x. omega (arith, x)) ∙ there.1 ∙ ap (λ r. r ++ there.0 ∷ []) (alike.others (suc j) below),
              subst (λ b. IsCheapest (price_up_to b) (λ k. get_or (map number c.args.costs.now) k 0) (length (map number c.args.costs.now)) there.0) (alike.others j (omega arith)) there.2,
            )
        | inr behind ↦
            let there = alike.more j behind h in
            (there.0, others (suc j) (λ x. omega (arith, x)) ∙ cheapest.others (suc j) behind ∙ there.1, there.2)
      ];
    })
