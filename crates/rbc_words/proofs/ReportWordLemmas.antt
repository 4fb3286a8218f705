-- The words behind a command that wants several.
use Rattle.std.proofs.Common.{◌≡◌, ℕ, List, [], ◌∷◌, Err, ap}
use Rattle.rbc_model.specs.declared.refusals.LineFault.{LineFault}
use Rattle.rbc_model.specs.declared.refusals.LineFault.TheVariants.{Words}
use Rattle.rbc_model.specs.SessionText.{report_in, give_back_in, only_word}

-- without a last word of its own, or with more behind it, there is no report
pub report_in-no_last : (a b c d e f g : List ℕ) (rest : List (List ℕ)) (fault : LineFault) → only_word rest ≡ Err fault
    → report_in (a ∷ b ∷ c ∷ d ∷ e ∷ f ∷ g ∷ rest) ≡ Err fault
report_in-no_last a b c d e f g [] fault none = let same : Words ≡ fault = cc in ap Err same
report_in-no_last a b c d e f g (h ∷ []) fault none = absurd cc
report_in-no_last a b c d e f g (h ∷ i ∷ more) fault none = let same : Words ≡ fault = cc in ap Err same

-- metres given back, where the last word is missing or is not the last
pub give_back_in-no_last : (a : List ℕ) (rest : List (List ℕ)) (fault : LineFault) → only_word rest ≡ Err fault → give_back_in (a ∷ rest) ≡ Err fault
give_back_in-no_last a [] fault none = let same : Words ≡ fault = cc in ap Err same
give_back_in-no_last a (b ∷ []) fault none = absurd cc
give_back_in-no_last a (b ∷ c ∷ more) fault none = let same : Words ≡ fault = cc in ap Err same
