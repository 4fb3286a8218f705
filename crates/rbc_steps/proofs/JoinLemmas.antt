-- One list of rows behind another.
use Rattle.std.proofs.Common.{◌≡◌, ℕ, suc, ◌+◌, ◌<◌, ◌≤◌, true, false, not, List, [], ◌∷◌, ◌++◌, length, get_or, Option, Some, None, refl, arith, ap, sym, ◌∙◌, subst, nat_le, nat_lt, ◌==◌, if◌then◌else◌}
use Rattle.std.specs.List.{list_all}
use Rattle.std.specs.Option.{option_or}
use Rattle.std.proofs.lemmas.Bool.{lt-ltb, ltb-true, and_from}
use Rattle.std.proofs.lemmas.List.Folds.{list_all-append}
use Rattle.rbc_model.specs.Levels.{Levels, is_same}
use Rattle.rbc_model.specs.Profiles.{value_at, starts_of, rises_above, rises_from_zero, is_joined, IsTrackFunction}
use Rattle.rbc_model.proofs.CountingLemmas.{both_of}
use Rattle.rbc_model.proofs.RunLemmas.{option_or_assoc, option_or_none}
use Rattle.rbc_model.proofs.StepListLemmas.{rises_split, zero_split, all_split}

module _ {V : Type 0} where
  pub value_at-append : (rows later : List (ℕ × V)) (x : ℕ) → value_at (rows ++ later) x ≡ option_or (value_at later x) (value_at rows x)
  value_at-append [] later x = sym (option_or_none (value_at later x))
  value_at-append (row ∷ rows) later x =
      let here : Option V = if nat_le row.0 x then Some row.1 else None in
      ap (λ o. option_or o here) (value_at-append rows later x) ∙ sym (option_or_assoc (value_at later x) (value_at rows x) here)

  -- the rows rise from metre n on
  abbrev pub RisesFrom : ℕ → List (ℕ × V) → Type 0
  RisesFrom n rows = (low : ℕ) → low < n → rises_above low (starts_of rows) ≡ true

  rises-append : (low n : ℕ) (rows later : List (ℕ × V)) → low < n → rises_above low (starts_of rows) ≡ true → list_all (λ start. nat_lt start n) (starts_of rows) ≡ true → RisesFrom n later
      → rises_above low (starts_of (rows ++ later)) ≡ true
  rises-append low n [] later h e i from = from low h
  rises-append low n (row ∷ rows) later h e i from =
      let s = rises_split low row.0 (starts_of rows) e in
      let a = all_split (λ start. nat_lt start n) row.0 (starts_of rows) i in
      and_from _ _ (lt-ltb low row.0 s.0) (rises-append row.0 n rows later (ltb-true row.0 n a.0) s.1 a.1 from)

  pub rises_from_zero-append : (n : ℕ) (rows later : List (ℕ × V)) → rises_from_zero (starts_of rows) ≡ true → list_all (λ start. nat_lt start n) (starts_of rows) ≡ true → RisesFrom n later
      → rises_from_zero (starts_of (rows ++ later)) ≡ true
  rises_from_zero-append n [] later e i from = cc
  rises_from_zero-append n (row ∷ rows) later e i from =
      let z = zero_split row.0 (starts_of rows) e in
      let b = both_of (row.0 == 0) (rises_above 0 (starts_of rows)) e in
      let a = all_split (λ start. nat_lt start n) row.0 (starts_of rows) i in
      and_from _ _ b.0 (subst (λ low. rises_above low (starts_of (rows ++ later)) ≡ true) z.0 (rises-append row.0 n rows later (ltb-true row.0 n a.0) z.1 a.1 from))

  pub inside-append : (n end : ℕ) (rows later : List (ℕ × V)) → n ≤ end → list_all (λ start. nat_lt start n) (starts_of rows) ≡ true → list_all (λ start. nat_lt start end) (starts_of later) ≡ true
      → list_all (λ start. nat_lt start end) (starts_of (rows ++ later)) ≡ true
  inside-append n end [] later h i j = j
  inside-append n end (row ∷ rows) later h i j =
      let a = all_split (λ start. nat_lt start n) row.0 (starts_of rows) i in
      and_from _ _ (lt-ltb row.0 end (omega (arith, ltb-true row.0 n a.0))) (inside-append n end rows later h a.1 j)

  module _ (levels : Levels V) where
    -- the first later row has another value than the last row
    abbrev pub Differ : List (ℕ × V) → List (ℕ × V) → Type 0
    Differ rows later = (i : ℕ) (d : ℕ × V) → i + 1 ≡ length rows → 0 < length later → is_same levels (get_or later 0 d).1 (get_or rows i d).1 ≡ false

    pub is_joined-append : (rows later : List (ℕ × V)) → is_joined levels rows ≡ true → is_joined levels later ≡ true → Differ rows later → is_joined levels (rows ++ later) ≡ true
    is_joined-append [] later j k differ = k
    is_joined-append (row ∷ []) [] j k differ = refl
    is_joined-append (row ∷ []) (next ∷ later) j k differ = and_from _ _ (ap not (differ 0 row (omega arith) (omega arith))) k
    is_joined-append (row ∷ next ∷ rows) later j k differ =
        let b = both_of (not (is_same levels next.1 row.1)) (is_joined levels (next ∷ rows)) j in
        and_from _ _ b.0 (is_joined-append (next ∷ rows) later b.1 k (λ i d e h. differ (suc i) d (omega arith) h))

    pub is_joined-tail : (row : ℕ × V) (rows : List (ℕ × V)) → is_joined levels (row ∷ rows) ≡ true → is_joined levels rows ≡ true
    is_joined-tail row [] j = refl
    is_joined-tail row (next ∷ rows) j = (both_of (not (is_same levels next.1 row.1)) (is_joined levels (next ∷ rows)) j).1

    pub IsTrackFunction-append : (n end : ℕ) (rows later : List (ℕ × V)) → n ≤ end → IsTrackFunction levels n rows → RisesFrom n later → list_all (λ start. nat_lt start end) (starts_of later) ≡ true
        → list_all (λ row. levels.in_range row.1) later ≡ true → is_joined levels later ≡ true → Differ rows later → IsTrackFunction levels end (rows ++ later)
    IsTrackFunction-append n end rows later h track from inside values once differ = record {
      starts = record {
        rising = rises_from_zero-append n rows later track.starts.rising track.starts.inside from;
        inside = inside-append n end rows later h track.starts.inside inside;
      };
      values = list_all-append (λ row. levels.in_range row.1) rows later ∙ and_from _ _ track.values values;
      once = is_joined-append rows later track.once once differ;
    }
