-- The lines that tell why a block is refused, as the pieces that are printed one behind another.
use Rattle.std.proofs.Common.{◌≡◌, ℕ, [], ◌∷◌, ◌++◌, ap, ◌∙◌, append_assoc}
use Rattle.std.specs.Prelude.{codes, decimal}
use Rattle.rbc_model.specs.declared.prices.Reason.TheVariants.{Inequality}
use Rattle.rbc_model.specs.CheckText.{refusal_text}

pub inequality-is : (row from to : ℕ)
    → refusal_text (Inequality row from to)
    ≡ codes "refused Inequality " ++ (decimal row ++ (codes " " ++ (decimal from ++ (codes " " ++ (decimal to ++ 10 ∷ [])))))
inequality-is row from to =
    ap (λ l. codes "refused Inequality " ++ l)
    (append_assoc (decimal row) (32 ∷ (decimal from ++ (32 ∷ decimal to))) (10 ∷ [])
    ∙ ap (λ l. decimal row ++ (32 ∷ l)) (append_assoc (decimal from) (32 ∷ decimal to) (10 ∷ [])))
