-- How the chosen profile is read off the greatest sound table: its starts, from the last one backwards.
use Rattle.std.specs.Prelude.{◌≡◌, ◌≢◌, ℕ, zero, suc, ◌+◌, ◌-◌, ◌%◌, ◌<◌, ◌≤◌, List, [], ◌∷◌, length, reverse, Some, option_map}
use Rattle.rbc_model.specs.Levels.{Levels}
use Rattle.rbc_model.specs.Profiles.{value_at, IsTrackFunction, IsBestProfile, IsChosenProfile}
use Rattle.rbc_model.specs.PriceTables.{table_at, row_count, stretch_count, step_cost, break_at, least_value, IsGreatestSoundTable}
use Rattle.rbc_table_laws.specs.TableLaws.{row_price, last_price}

module _ {V : Type 0} (levels : Levels V) (unit limit n : ℕ) (runs : List (ℕ × V)) where
  -- the number is a break before the end
  pub record IsBreak (x : ℕ) : Type 0 where
    pub at : ℕ
    pub inside : at < stretch_count levels unit limit n runs
    pub is : x ≡ break_at levels unit limit n runs at

  -- each start is a break
  abbrev pub AreAtBreaks : List (ℕ × V) → Type 0
  AreAtBreaks [] = Unit {0}
  AreAtBreaks (step ∷ later) = IsBreak step.0 × AreAtBreaks later

  -- a value is the floor of the track's least one between two metres
  abbrev pub IsFloor : ℕ → ℕ → V → Type 0
  IsFloor from to v = option_map levels.floor (least_value levels (value_at runs) from (to - from)) ≡ Some v

  -- each step has the floor of the least value on its metres
  abbrev pub AreFloors : List (ℕ × V) → Type 0
  AreFloors [] = Unit {0}
  AreFloors (step ∷ []) = IsFloor step.0 n step.1
  AreFloors (step ∷ next ∷ later) = IsFloor step.0 next.0 step.1 × AreFloors (next ∷ later)

  -- Of the best profiles it is one with the fewest steps.
  pub record IsShortest (steps : List (ℕ × V)) : Type 0 where
    pub best : IsBestProfile levels unit limit n (value_at runs) steps
    pub fewest : (other : List (ℕ × V)) → IsBestProfile levels unit limit n (value_at runs) other → length steps ≤ length other

  module _ (rows : List (List ℕ)) where
    -- Break i is the first from which one step, the one given, adds up to the price in row j + 1 and column i'.
    pub record IsStepBack (j i' i : ℕ) (step : ℕ × V) : Type 0 where
      pub earlier : i < i'
      pub adds_up : table_at rows j i + step_cost levels unit limit n runs i i' ≡ table_at rows (suc j) i'
      pub first : (k : ℕ) → k < i → table_at rows j k + step_cost levels unit limit n runs k i' ≢ table_at rows (suc j) i'
      pub start : step.0 ≡ break_at levels unit limit n runs i
      pub value : IsFloor (break_at levels unit limit n runs i) (break_at levels unit limit n runs i') step.1

    -- from row j and column i' back to the start: the steps, the last one first
    abbrev pub IsTraceback : ℕ → ℕ → List (ℕ × V) → Type 0
    IsTraceback zero i' [] = i' ≡ 0
    IsTraceback zero i' (step ∷ before) = ⊥
    IsTraceback (suc j) i' [] = ⊥
    IsTraceback (suc j) i' (step ∷ before) = (i : ℕ) × IsStepBack j i' i step × IsTraceback j i before

    -- from row r and column m on, these steps lead to row j and column i'
    abbrev pub IsTracedTo : ℕ → ℕ → List (ℕ × V) → ℕ → ℕ → Type 0
    IsTracedTo r m [] j i' = (r ≡ j) × (m ≡ i')
    IsTracedTo zero m (step ∷ before) j i' = ⊥
    IsTracedTo (suc r) m (step ∷ before) j i' = (i : ℕ) × IsStepBack r m i step × IsTracedTo r i before j i'

    -- No row before row j has its price in column i', and only row 0 is at the start.
    pub record IsOnWay (j i' : ℕ) : Type 0 where
      pub first : (k : ℕ) → 1 ≤ k → k < j → table_at rows k i' ≢ table_at rows j i'
      pub start : j ≡ 0 → i' ≡ 0
      pub go_on : i' ≡ 0 → j ≡ 0

    -- how a search from the last column backwards goes on, and that it finds what it looks for
    pub record IsFound : Type 0 where
      -- the search begins in the first row whose last price is the table's
      pub begins : (j : ℕ) → 1 ≤ j → j ≤ row_count levels unit limit n runs
          → ((k : ℕ) → 1 ≤ k → k < j → row_price levels unit limit n runs rows k ≢ row_price levels unit limit n runs rows j)
          → IsOnWay j (stretch_count levels unit limit n runs)
      -- some break adds up
      pub some_break : (j i' : ℕ) → suc j ≤ row_count levels unit limit n runs → i' ≤ stretch_count levels unit limit n runs → IsOnWay (suc j) i'
          → (i : ℕ) × (i < i') × (table_at rows j i + step_cost levels unit limit n runs i i' ≡ table_at rows (suc j) i')
      -- and the search goes on from the first one
      pub next : (j i' i : ℕ) → suc j ≤ row_count levels unit limit n runs → i' ≤ stretch_count levels unit limit n runs → IsOnWay (suc j) i' → i < i'
          → table_at rows j i + step_cost levels unit limit n runs i i' ≡ table_at rows (suc j) i'
          → ((k : ℕ) → k < i → table_at rows j k + step_cost levels unit limit n runs k i' ≢ table_at rows (suc j) i') → IsOnWay j i
      -- it ends at the start
      pub ends : (i' : ℕ) → IsOnWay 0 i' → i' ≡ 0

    -- The steps are read off the table, from the last column of the first row whose last price is the table's.
    pub record IsReadOff (steps : List (ℕ × V)) : Type 0 where
      pub inside : length steps ≤ row_count levels unit limit n runs
      pub price : row_price levels unit limit n runs rows (length steps) ≡ last_price levels unit limit n runs rows
      pub first_row : (j : ℕ) → 1 ≤ j → j < length steps → row_price levels unit limit n runs rows j ≢ last_price levels unit limit n runs rows
      pub back : IsTraceback (length steps) (stretch_count levels unit limit n runs) (reverse steps)

    -- some steps are
    pub record IsReadable : Type 0 where
      pub steps : List (ℕ × V)
      pub read : IsReadOff steps

module _ {V : Type 0} (levels : Levels V) where
  abbrev pub ShortestAreAtBreaks : Type 0
  ShortestAreAtBreaks = (unit limit n : ℕ) → 0 < unit → n % unit ≡ 0 → (runs : List (ℕ × V)) → IsTrackFunction levels n runs
      → (steps : List (ℕ × V)) → IsShortest levels unit limit n runs steps → AreAtBreaks levels unit limit n runs steps

  abbrev pub BestHaveFloors : Type 0
  BestHaveFloors = (unit limit n : ℕ) → 0 < unit → n % unit ≡ 0 → (runs : List (ℕ × V)) → IsTrackFunction levels n runs
      → (steps : List (ℕ × V)) → IsBestProfile levels unit limit n (value_at runs) steps → AreFloors levels unit limit n runs steps

  abbrev pub ChosenAreOne : Type 0
  ChosenAreOne = (unit limit n : ℕ) → 0 < unit → n % unit ≡ 0 → (runs : List (ℕ × V)) → IsTrackFunction levels n runs
      → (steps other : List (ℕ × V)) → IsChosenProfile levels unit limit n (value_at runs) steps → IsChosenProfile levels unit limit n (value_at runs) other → steps ≡ other

  abbrev pub SearchesAreFound : Type 0
  SearchesAreFound = (unit limit n : ℕ) → 0 < unit → n % unit ≡ 0 → (runs : List (ℕ × V)) → IsTrackFunction levels n runs
      → (rows : List (List ℕ)) → IsGreatestSoundTable levels unit limit n runs rows → IsFound levels unit limit n runs rows

  abbrev pub TablesAreReadable : Type 0
  TablesAreReadable = (unit limit n : ℕ) → 0 < unit → n % unit ≡ 0 → 0 < limit → (runs : List (ℕ × V)) → IsTrackFunction levels n runs
      → (rows : List (List ℕ)) → IsGreatestSoundTable levels unit limit n runs rows → IsReadable levels unit limit n runs rows

  abbrev pub ReadOffAreChosen : Type 0
  ReadOffAreChosen = (unit limit n : ℕ) → 0 < unit → n % unit ≡ 0 → (runs : List (ℕ × V)) → IsTrackFunction levels n runs
      → (rows : List (List ℕ)) → IsGreatestSoundTable levels unit limit n runs rows
      → (steps : List (ℕ × V)) → IsReadOff levels unit limit n runs rows steps → IsChosenProfile levels unit limit n (value_at runs) steps
