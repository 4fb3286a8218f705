-- A file that takes the place of another.
use Rattle.std.proofs.Common.{◌≡◌, ◌⊎◌, ⊎_elim, ℕ, List, [], ◌∷◌, ◌++◌, ◌∙◌, ap}
use Rattle.rbc_journal.specs.Device.{Only, Elapses, LeavesOnly}
use Rattle.rbc_journal.specs.Gates.{counted, at_rest}
use Rattle.rbc_journal.specs.Journal.{recovered, told_of}
use Rattle.rbc_journal.specs.Seals.{IsWholeText, chain_of}
use Rattle.rbc_journal.proofs.LineLemmas.{are_lines, counted-at_rest}
use Rattle.rbc_journal.proofs.MomentLemmas.{started, goes_on}

module _ (bytes seal : List ℕ) (whole : IsWholeText bytes seal) where
  pub is_at_rest : bytes ++ 35 ∷ [] ≡ at_rest (counted bytes)
  is_at_rest = ap (λ (l : List ℕ). l ++ 35 ∷ []) whole.is_text

  pub same_lines : counted (bytes ++ 35 ∷ []) ≡ counted bytes
  same_lines = ap counted is_at_rest ∙ counted-at_rest (counted bytes) (are_lines bytes)

  pub same_told : recovered (bytes ++ 35 ∷ []) ≡ recovered bytes
  same_told = ap (λ (ls : List (List ℕ)). told_of (chain_of ls).whole) same_lines

  module _ {D : Type 0} (seen : D → List ℕ) (may_leave : D → List ℕ → Type 0) (moment : D → ℕ) (left_since : D → ℕ → List ℕ → Type 0)
      (only_now : (file : D) (c : List ℕ) → left_since file (moment file) c → may_leave file c)
      (old new : D) (same : recovered (seen old) ≡ recovered bytes) (durable : Only (seen old) (may_leave old))
      (crash : (c : List ℕ) → may_leave new c → may_leave old c ⊎ (c ≡ bytes ++ 35 ∷ []))
      (time : Elapses (moment old) (moment new) (left_since old) (left_since new) (may_leave new)) where
    abbrev P : List ℕ → Type 0
    P c = recovered c ≡ recovered bytes

    left_now : (c : List ℕ) → may_leave new c → P c
    left_now c left = ⊎_elim (λ stays. ap recovered (durable c stays) ∙ same) (λ is. ap recovered is ∙ same_told) (crash c left)

    pub after_replace : LeavesOnly moment left_since old new P
    after_replace =
        goes_on moment left_since old old new P _ (started moment left_since old P (λ c left. ap recovered (durable c (only_now old c left)) ∙ same)) time left_now
