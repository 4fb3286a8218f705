-- The table of least prices, and the steps that are read off it, as functions of the track: the greatest sound table and the chosen profile.
use Rattle.std.specs.Prelude.{◌≡◌, ℕ, zero, suc, ◌+◌, ◌-◌, ◌%◌, ◌<◌, min, Bool, List, [], ◌∷◌, ◌++◌, reverse, Option, Some, None, option_map, unwrap_or, find, ◌==◌}
use Rattle.std.specs.List.{range_with_len}
use Rattle.rbc_model.specs.Levels.{Levels}
use Rattle.rbc_model.specs.Profiles.{value_at, IsTrackFunction, IsChosenProfile}
use Rattle.rbc_model.specs.PriceTables.{table_at, row_count, stretch_count, step_cost, break_at, least_value, IsGreatestSoundTable}
use Rattle.rbc_table_laws.specs.TableLaws.{row_price, last_price}

-- the least of the numbers at 0 to `last`
unfoldable pub least_to : ℕ → (ℕ → ℕ) → ℕ
least_to zero f = f 0
least_to (suc last) f = min (least_to last f) (f (suc last))

-- the list of what stands at 0 to n - 1
unfoldable pub made : {X : Type 0} → ℕ → (ℕ → X) → List X
made zero f = []
made (suc n) f = f 0 ∷ made n (λ i. f (suc i))

-- where one step costs so much from one break to another
module _ (cost : ℕ → ℕ → ℕ) where
  -- the least price of j + 1 steps or fewer up to break i
  unfoldable pub least_price : ℕ → ℕ → ℕ
  least_price zero zero = 0
  least_price zero (suc i) = cost 0 (suc i)
  least_price (suc j) zero = 0
  least_price (suc j) (suc i) = least_to i (λ from. least_price j from + cost from (suc i))

  -- these prices in r rows and m columns
  unfoldable pub filled : ℕ → ℕ → List (List ℕ)
  filled r m = made r (λ j. made m (λ i. least_price j (suc i)))

-- the first of the numbers below a bound that passes, or the bound
abbrev pub first_below : ℕ → (ℕ → Bool) → ℕ
first_below bound test = unwrap_or (find test (range_with_len 0 bound)) bound

-- the step with a value, where there is one
abbrev pub step_at : {V : Type 0} → ℕ → Option V → List (ℕ × V)
step_at start None = []
step_at start (Some value) = (start, value) ∷ []

module _ {V : Type 0} (levels : Levels V) (unit limit n : ℕ) (runs : List (ℕ × V)) where
  -- the greatest sound table
  unfoldable pub greatest_prices : List (List ℕ)
  greatest_prices = filled (step_cost levels unit limit n runs) (row_count levels unit limit n runs) (stretch_count levels unit limit n runs)

  module _ (rows : List (List ℕ)) where
    -- the first break from which one step adds up to the price in row j + 1 and column i'
    unfoldable pub break_back : ℕ → ℕ → ℕ
    break_back j i' = first_below i' (λ i. table_at rows j i + step_cost levels unit limit n runs i i' == table_at rows (suc j) i')

    -- the floor of the track's least value between two metres
    abbrev pub floor_between : ℕ → ℕ → Option V
    floor_between from to = option_map levels.floor (least_value levels (value_at runs) from (to - from))

    -- from row j and column i' back to the start: the steps, the last one first
    unfoldable pub steps_back : ℕ → ℕ → List (ℕ × V)
    steps_back zero i' = []
    steps_back (suc j) i' =
        step_at (break_at levels unit limit n runs (break_back j i')) (floor_between (break_at levels unit limit n runs (break_back j i')) (break_at levels unit limit n runs i'))
        ++ steps_back j (break_back j i')

    -- the first row whose last price is the table's
    unfoldable pub first_row : ℕ
    first_row = suc (first_below (row_count levels unit limit n runs) (λ k. row_price levels unit limit n runs rows (suc k) == last_price levels unit limit n runs rows))

    -- the steps read off the table
    unfoldable pub steps_read : List (ℕ × V)
    steps_read = reverse (steps_back first_row (stretch_count levels unit limit n runs))

  -- the chosen profile
  unfoldable pub chosen_steps : List (ℕ × V)
  chosen_steps = steps_read greatest_prices

module _ {V : Type 0} (levels : Levels V) where
  -- two greatest sound tables for one track are one
  abbrev pub GreatestTablesAreOne : Type 0
  GreatestTablesAreOne = (unit limit n : ℕ) (runs : List (ℕ × V)) (rows other : List (List ℕ))
      → IsGreatestSoundTable levels unit limit n runs rows → IsGreatestSoundTable levels unit limit n runs other → rows ≡ other

  -- the table of least prices is the greatest sound one
  abbrev pub LeastPricesAreGreatest : Type 0
  LeastPricesAreGreatest = (unit limit n : ℕ) (runs : List (ℕ × V)) → IsGreatestSoundTable levels unit limit n runs (greatest_prices levels unit limit n runs)

  -- what is read off it is the chosen profile
  abbrev pub StepsReadAreChosen : Type 0
  StepsReadAreChosen = (unit limit n : ℕ) → 0 < unit → n % unit ≡ 0 → 0 < limit → (runs : List (ℕ × V)) → IsTrackFunction levels n runs
      → IsChosenProfile levels unit limit n (value_at runs) (chosen_steps levels unit limit n runs)
