-- The row that holds a metre, found by its index.
use Rattle.std.proofs.Common.{◌≡◌, ℕ, zero, suc, ◌-◌, ◌<◌, ◌≤◌, ◌⊎◌, inl, inr, Bool, true, false, List, [], ◌∷◌, length, get_or, Some, None, refl, arith, ap, nat_le, nat_lt}
use Rattle.std.specs.List.{list_all}
use Rattle.std.specs.List.Sorted.{IsNonDecreasingBy, IsPartitionPoint}
use Rattle.std.proofs.lemmas.Bool.{le-leb, leb-true, ltb-true, lt-leb}
use Rattle.std.proofs.lemmas.Bool.Decides.{leb_tells}
use Rattle.std.proofs.Math.Nat.{eq-or-lt_of_le}
use Rattle.rbc_model.specs.Profiles.{value_at, starts_of, rises_above, rises_from_zero}
use Rattle.rbc_model.proofs.StepListLemmas.{rises_split, zero_split, all_split}

-- no row has started
value_at-none : {V : Type 0} (rows : List (ℕ × V)) (x : ℕ) (d : ℕ × V) → ((k : ℕ) → k < length rows → x < (get_or rows k d).0) → value_at rows x ≡ None
value_at-none [] x d h = refl
value_at-none (row ∷ rows) x d h = rw (value_at-none rows x d (λ k l. h (suc k) (omega arith)), lt-leb row.0 x (h 0 (omega arith))) refl

-- the value is that of the row that has started where no later one has
pub value_at-index : {V : Type 0} (rows : List (ℕ × V)) (i x : ℕ) (d : ℕ × V) → i < length rows → (get_or rows i d).0 ≤ x → ((k : ℕ) → i < k → k < length rows → x < (get_or rows k d).0)
    → value_at rows x ≡ Some (get_or rows i d).1
value_at-index [] i x d l b h = absurd (omega arith)
value_at-index (row ∷ rows) zero x d l b h = rw (value_at-none rows x d (λ k m. h (suc k) (omega arith) (omega arith)), le-leb row.0 x b) refl
value_at-index (row ∷ rows) (suc i) x d l b h = rw (value_at-index rows i x d (omega arith) b (λ k m n. h (suc k) (omega arith) (omega arith))) refl

-- later rows start later
above_all : {V : Type 0} (low : ℕ) (rows : List (ℕ × V)) (k : ℕ) (d : ℕ × V) → rises_above low (starts_of rows) ≡ true → k < length rows → low < (get_or rows k d).0
above_all low [] k d e l = absurd (omega arith)
above_all low (row ∷ rows) zero d e l = (rises_split low row.0 (starts_of rows) e).0
above_all low (row ∷ rows) (suc k) d e l =
    let s = rises_split low row.0 (starts_of rows) e in
    omega (arith, above_all row.0 rows k d s.1 (omega arith), s.0)

rises_in_turn : {V : Type 0} (low : ℕ) (rows : List (ℕ × V)) (i j : ℕ) (d : ℕ × V) → rises_above low (starts_of rows) ≡ true → i < j → j < length rows → (get_or rows i d).0 < (get_or rows j d).0
rises_in_turn low [] i j d e h l = absurd (omega arith)
rises_in_turn low (row ∷ rows) i zero d e h l = absurd (omega arith)
rises_in_turn low (row ∷ rows) zero (suc j) d e h l = above_all row.0 rows j d (rises_split low row.0 (starts_of rows) e).1 (omega arith)
rises_in_turn low (row ∷ rows) (suc i) (suc j) d e h l = rises_in_turn row.0 rows i j d (rises_split low row.0 (starts_of rows) e).1 (omega arith) (omega arith)

pub in_turn : {V : Type 0} (rows : List (ℕ × V)) (i j : ℕ) (d : ℕ × V) → rises_from_zero (starts_of rows) ≡ true → i < j → j < length rows → (get_or rows i d).0 < (get_or rows j d).0
in_turn [] i j d e h l = absurd (omega arith)
in_turn (row ∷ rows) i zero d e h l = absurd (omega arith)
in_turn (row ∷ rows) zero (suc j) d e h l = above_all row.0 rows j d (zero_split row.0 (starts_of rows) e).1 (omega arith)
in_turn (row ∷ rows) (suc i) (suc j) d e h l = rises_in_turn row.0 rows i j d (zero_split row.0 (starts_of rows) e).1 (omega arith) (omega arith)

pub starts_sorted : {V : Type 0} (rows : List (ℕ × V)) → rises_from_zero (starts_of rows) ≡ true → IsNonDecreasingBy (λ s. s.0) rows
starts_sorted {V} rows e = λ i j d h l.
    elim (eq-or-lt_of_le h) [
      | inl same ↦ let start : ℕ → ℕ = λ k. (get_or rows k d).0 in let eq : start i ≡ start j = ap start same in omega (arith, eq)
      | inr below ↦ omega (arith, in_turn rows i j d e below l)
    ]

pub first_at_zero : {V : Type 0} (rows : List (ℕ × V)) → rises_from_zero (starts_of rows) ≡ true → (0 < length rows) × ((d : ℕ × V) → (get_or rows 0 d).0 ≡ 0)
first_at_zero [] e = cc
first_at_zero (row ∷ rows) e = (omega arith, λ d. (zero_split row.0 (starts_of rows) e).0)

pub below_end : {V : Type 0} (n : ℕ) (rows : List (ℕ × V)) (k : ℕ) (d : ℕ × V) → list_all (λ start. nat_lt start n) (starts_of rows) ≡ true → k < length rows → (get_or rows k d).0 < n
below_end n [] k d e l = absurd (omega arith)
below_end n (row ∷ rows) zero d e l = ltb-true row.0 n (all_split (λ start. nat_lt start n) row.0 (starts_of rows) e).0
below_end n (row ∷ rows) (suc k) d e l = below_end n rows k d (all_split (λ start. nat_lt start n) row.0 (starts_of rows) e).1 (omega arith)

pub some_row : {V : Type 0} (rows : List (ℕ × V)) → 0 < length rows → ℕ × V
some_row [] h = absurd (omega arith)
some_row (row ∷ rows) h = row

-- what a search by halves finds
module _ {V : Type 0} (rows : List (ℕ × V)) (x begun : ℕ) (rising : rises_from_zero (starts_of rows) ≡ true) (within : begun ≤ length rows)
    (point : IsPartitionPoint (λ row. nat_le row.0 x ≡ true) (λ row. nat_le row.0 x ≡ false) rows begun) where
  pub some_begun : 1 ≤ begun
  some_begun =
      elim (zero_or_more begun) [
        | inl none ↦
            let first = first_at_zero rows rising in
            let d = some_row rows first.0 in
            absurd (not_both (nat_le (get_or rows 0 d).0 x) (le-leb (get_or rows 0 d).0 x (omega (arith, first.1 d))) (point.1 0 d (omega arith) first.0))
        | inr some ↦ some
      ]
    where
      zero_or_more : (n : ℕ) → (n ≡ 0) ⊎ (1 ≤ n)
      zero_or_more n = grind arith

      not_both : (b : Bool) → b ≡ true → b ≡ false → ⊥
      not_both b e f = cc

  pub value_begun : (d : ℕ × V) → value_at rows x ≡ Some (get_or rows (begun - 1) d).1
  value_begun d =
      let some = some_begun in
      value_at-index rows (begun - 1) x d (omega arith)
      (leb-true (get_or rows (begun - 1) d).0 x (point.0 (begun - 1) d (omega arith) (omega arith)))
      (λ k h l. later k (point.1 k d (omega arith) l))
    where
      later : (k : ℕ) → nat_le (get_or rows k d).0 x ≡ false → x < (get_or rows k d).0
      later k e = grind (arith, leb_tells)
