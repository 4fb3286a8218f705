-- A sound table in which each price is reached is the greatest sound table, and tests that show it.
use Rattle.std.proofs.Common.{◌≡◌, ◌%◌, nat_lt, ℕ, zero, suc, ◌+◌, ◌-◌, ◌<◌, ◌≤◌, Bool, true, ◌&&◌, List, Option, arith, nat_le, length, ◌==◌}
use Rattle.std.proofs.lemmas.Bool.{leb-true, eqb-true}
use Rattle.std.specs.List.{list_all}
use Rattle.rbc_model.specs.Levels.{Levels}
use Rattle.rbc_model.specs.Profiles.{loss, IsBestProfile, value_at, is_within, starts_of, rises_from_zero, Fits}
use Rattle.rbc_model.specs.PriceTables.{table_at, step_cost, stretch_count, row_count, IsSoundTable, IsGreatestSoundTable}
use Rattle.rbc_model.proofs.CountingLemmas.{all_below, all_below-holds, some_below, some_below-found}

module _ {V : Type 0} (levels : Levels V) (unit limit n : ℕ) (runs : List (ℕ × V)) where
  -- m stretches, r rows, and the cost of a step
  abbrev m : ℕ
  m = stretch_count levels unit limit n runs

  abbrev r : ℕ
  r = row_count levels unit limit n runs

  abbrev step : ℕ → ℕ → ℕ
  step = step_cost levels unit limit n runs

  pub record IsReached (rows : List (List ℕ)) : Type 0 where
    pub one_step : (i : ℕ) → i ≤ m → table_at rows 1 i ≡ step 0 i
    pub more_steps : (j i' : ℕ) → 1 ≤ j → j < r → 1 ≤ i' → i' ≤ m → (i : ℕ) × (i < i') × (table_at rows (suc j) i' ≡ table_at rows j i + step i i')

  pub greatest_of_reached : (rows : List (List ℕ)) → IsSoundTable levels unit limit n runs rows → IsReached rows → IsGreatestSoundTable levels unit limit n runs rows
  greatest_of_reached rows sound reached = record { sound = sound; greatest = λ other is j i. below other is j i }
    where
      below : (other : List (List ℕ)) → IsSoundTable levels unit limit n runs other → (j i : ℕ) → 1 ≤ j → j ≤ r → i ≤ m → table_at other j i ≤ table_at rows j i
      below other is zero i low high column = absurd (omega arith)
      below other is (suc zero) i low high column = let a = is.one_step i column in let b = reached.one_step i column in omega arith
      below other is (suc (suc j)) zero low high column = omega arith
      below other is (suc (suc j)) (suc i') low high column =
          let from = reached.more_steps (suc j) (suc i') (omega arith) (omega arith) (omega arith) column in
          let ours = below other is (suc j) from.0 (omega arith) (omega arith) (omega (arith, from.1)) in
          let theirs = is.more_steps (suc j) from.0 (suc i') (omega arith) (omega arith) from.1 column in
          omega (arith, ours, theirs, from.2)

  -- ---- the tests, place by place; j is the number of the row before, less 1

  abbrev pub first_at : List (List ℕ) → ℕ → Bool
  first_at rows i = table_at rows 1 i == step 0 i

  abbrev pub sound_at : List (List ℕ) → ℕ → ℕ → ℕ → Bool
  sound_at rows j i' i = nat_le (table_at rows (suc (suc j)) i') (table_at rows (suc j) i + step i i')

  abbrev pub sound_column : List (List ℕ) → ℕ → ℕ → Bool
  sound_column rows j i' = all_below i' (sound_at rows j i')

  abbrev pub sound_row : List (List ℕ) → ℕ → Bool
  sound_row rows j = all_below (suc m) (sound_column rows j)

  abbrev pub reached_at : List (List ℕ) → ℕ → ℕ → ℕ → Bool
  reached_at rows j i' i = table_at rows (suc (suc j)) (suc i') == table_at rows (suc j) i + step i (suc i')

  abbrev pub reached_column : List (List ℕ) → ℕ → ℕ → Bool
  reached_column rows j i' = some_below (suc i') (reached_at rows j i')

  abbrev pub reached_row : List (List ℕ) → ℕ → Bool
  reached_row rows j = all_below m (reached_column rows j)

  abbrev pub first_row_test : List (List ℕ) → Bool
  first_row_test rows = all_below (suc m) (first_at rows)

  abbrev pub sound_test : List (List ℕ) → Bool
  sound_test rows = all_below (r - 1) (sound_row rows)

  abbrev pub reached_test : List (List ℕ) → Bool
  reached_test rows = all_below (r - 1) (reached_row rows)

  -- ---- what they show

  module _ (rows : List (List ℕ)) (one : first_row_test rows ≡ true) where
    one_step_of : (i : ℕ) → i ≤ m → table_at rows 1 i ≡ step 0 i
    one_step_of i column = eqb-true (table_at rows 1 i) (step 0 i) (all_below-holds (suc m) (first_at rows) one i (omega arith))

    more_sound : sound_test rows ≡ true → (j i i' : ℕ) → 1 ≤ j → j < r → i < i' → i' ≤ m → table_at rows (suc j) i' ≤ table_at rows j i + step i i'
    more_sound more zero i i' low high below column = absurd (omega arith)
    more_sound more (suc j) i i' low high below column =
        let row : sound_row rows j ≡ true = all_below-holds (r - 1) (sound_row rows) more j (omega arith) in
        let place : sound_column rows j i' ≡ true = all_below-holds (suc m) (sound_column rows j) row i' (omega arith) in
        leb-true (table_at rows (suc (suc j)) i') (table_at rows (suc j) i + step i i') (all_below-holds i' (sound_at rows j i') place i below)

    more_reached : reached_test rows ≡ true → (j i' : ℕ) → 1 ≤ j → j < r → 1 ≤ i' → i' ≤ m → (i : ℕ) × (i < i') × (table_at rows (suc j) i' ≡ table_at rows j i + step i i')
    more_reached more zero i' low high from column = absurd (omega arith)
    more_reached more (suc j) zero low high from column = absurd (omega arith)
    more_reached more (suc j) (suc i') low high from column =
        let row : reached_row rows j ≡ true = all_below-holds (r - 1) (reached_row rows) more j (omega arith) in
        let place : reached_column rows j i' ≡ true = all_below-holds m (reached_column rows j) row i' (omega arith) in
        let found = some_below-found (suc i') (reached_at rows j i') place in
        (found.0, found.1, eqb-true (table_at rows (suc (suc j)) (suc i')) (table_at rows (suc j) found.0 + step found.0 (suc i')) found.2)

    pub greatest_by_tests : length rows ≡ r → list_all (λ row. length row == m) rows ≡ true → sound_test rows ≡ true → reached_test rows ≡ true → IsGreatestSoundTable levels unit limit n runs rows
    greatest_by_tests count lengths sound reached = greatest_of_reached rows
        (record { shape = count; widths = lengths; one_step = λ i column. at_most (one_step_of i column); more_steps = more_sound sound })
        (record { one_step = one_step_of; more_steps = more_reached reached })
      where
        at_most : {a b : ℕ} → a ≡ b → a ≤ b
        at_most e = omega arith

-- the tests of a profile that fits
module _ {V : Type 0} (levels : Levels V) (unit limit n : ℕ) (track : ℕ → Option V) (steps : List (ℕ × V)) where
  abbrev pub within_at : ℕ → Bool
  within_at x = is_within levels (track x) (value_at steps x)

  pub fits_by_tests : rises_from_zero (starts_of steps) ≡ true → list_all (λ start. nat_lt start n) (starts_of steps) ≡ true → list_all (λ start. start % unit == 0) (starts_of steps) ≡ true → length steps ≤ limit → list_all (λ s. levels.in_range s.1 && levels.is_expressible s.1) steps ≡ true → all_below n within_at ≡ true → Fits levels unit limit n track steps
  fits_by_tests rising inside in_units few expressible below = record {
    profile = record { starts = record { rising = rising; inside = inside }; in_units = in_units; few = few; values = expressible };
    below = all_below-holds n within_at below;
  }

  -- a profile that fits and loses nothing is best
  pub best_of_no_loss : Fits levels unit limit n track steps → loss levels n track steps ≡ 0 → IsBestProfile levels unit limit n track steps
  best_of_no_loss fits none = record { fits = fits; least = λ other also. omega (arith, none) }
