-- The lines of words, as the code gathers them.
use Rattle.std.proofs.Common.{◌≡◌, ℕ, ℤ, [], ◌∷◌, ◌++◌, codes, decimal, sym, ap, append_assoc}
use Rattle.std.specs.Fmt.{signed_decimal}
use Rattle.rbc_decode.specs.declared.said.Said.TheVariants.{Grade, Speed}
use Rattle.rbc_decode.specs.Texts.{said_text}

-- the line of a gradient
pub grade_line-is : (from : ℕ) (per_mille : ℤ) → codes "grade " ++ (decimal from ++ (32 ∷ (signed_decimal per_mille ++ 10 ∷ []))) ≡ said_text (Grade from per_mille)
grade_line-is from per_mille = ap (λ l. codes "grade " ++ l) (sym (append_assoc (decimal from) (32 ∷ signed_decimal per_mille) (10 ∷ [])))

-- the line of a speed
pub speed_line-is : (from kmh : ℕ) → codes "speed " ++ (decimal from ++ (32 ∷ (decimal kmh ++ 10 ∷ []))) ≡ said_text (Speed from kmh)
speed_line-is from kmh = ap (λ l. codes "speed " ++ l) (sym (append_assoc (decimal from) (32 ∷ decimal kmh) (10 ∷ [])))
