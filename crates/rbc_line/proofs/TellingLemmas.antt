-- Rows that tell the levels of the first metres, and of some metres more with one row more.
use Rattle.std.proofs.Common.{◌≡◌, ℕ, ◌<◌, ◌≤◌, ◌⊎◌, inl, inr, true, List, [], ◌∷◌, ◌++◌, Option, Some, refl, sym, ◌∙◌, subst, arith, nat_lt}
use Rattle.std.specs.List.{list_all}
use Rattle.std.proofs.lemmas.Bool.{le-leb, lt-ltb, ltb-true, lt-leb, cases_lt, and_from}
use Rattle.std.proofs.Math.Nat.{eq-zero-or-pos}
use Rattle.rbc_model.specs.Profiles.{value_at, starts_of, rises_from_zero}
use Rattle.rbc_model.proofs.StepListLemmas.{all_split}
use Rattle.rbc_steps.proofs.JoinLemmas.{value_at-append, rises_from_zero-append, inside-append}
use Rattle.rbc_line.specs.Along.{Tells}

module _ {V : Type 0} where
  -- rows that tell of no metre are none
  none_told : (rows : List (ℕ × V)) → list_all (λ start. nat_lt start 0) (starts_of rows) ≡ true → rows ≡ []
  none_told [] h = refl
  none_told (row ∷ rows) h = let low = ltb-true row.0 0 (all_split (λ start. nat_lt start 0) row.0 (starts_of rows) h).0 in absurd (omega arith)

  -- one row more: at its start and behind it stands its value
  before_row : (rows : List (ℕ × V)) (n x : ℕ) (v : V) → x < n → value_at (rows ++ (n, v) ∷ []) x ≡ value_at rows x
  before_row rows n x v h = value_at-append rows ((n, v) ∷ []) x ∙ rw (lt-leb n x h) refl

  from_row : (rows : List (ℕ × V)) (n x : ℕ) (v : V) → n ≤ x → value_at (rows ++ (n, v) ∷ []) x ≡ Some v
  from_row rows n x v h = value_at-append rows ((n, v) ∷ []) x ∙ rw (le-leb n x h) refl

  rises_more : (rows : List (ℕ × V)) (n : ℕ) (v : V) → (0 < n → rises_from_zero (starts_of rows) ≡ true) → list_all (λ start. nat_lt start n) (starts_of rows) ≡ true → (n ≡ 0) ⊎ (0 < n) → rises_from_zero (starts_of (rows ++ (n, v) ∷ [])) ≡ true
  rises_more rows n v rising inside (inl none) =
      let empty : rows ≡ [] = none_told rows (subst (λ k. list_all (λ start. nat_lt start k) (starts_of rows) ≡ true) none inside) in
      rw (empty, none) refl
  rises_more rows n v rising inside (inr some) =
      rises_from_zero-append n rows ((n, v) ∷ []) (rising some) inside (λ low h. and_from _ _ (lt-ltb low n h) refl)

  pub tells_more : (rows : List (ℕ × V)) (n m : ℕ) (level : ℕ → Option V) (v : V) → Tells rows n level → n < m → ((x : ℕ) → n ≤ x → x < m → level x ≡ Some v) → Tells (rows ++ (n, v) ∷ []) m level
  tells_more rows n m level v t longer same = record {
    rising = λ h. rises_more rows n v t.rising t.inside (eq-zero-or-pos n);
    inside = inside-append n m rows ((n, v) ∷ []) (omega arith) t.inside (and_from _ _ (lt-ltb n m longer) refl);
    values = λ x h. elim (cases_lt x n) [
      | inl before ↦ before_row rows n x v before ∙ t.values x before
      | inr behind ↦ from_row rows n x v behind ∙ sym (same x behind h)
    ];
  }
