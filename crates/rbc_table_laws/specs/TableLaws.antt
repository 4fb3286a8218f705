-- What price tables show of profiles, for tracks over n metres, where n is a multiple of the unit.
use Rattle.std.specs.Prelude.{◌≡◌, ℕ, ◌%◌, ◌<◌, ◌≤◌, List, length}
use Rattle.rbc_model.specs.Levels.{Levels}
use Rattle.rbc_model.specs.Profiles.{value_at, loss, IsTrackFunction, Fits, IsBestProfile}
use Rattle.rbc_model.specs.PriceTables.{table_at, row_count, stretch_count, IsSoundTable, IsGreatestSoundTable}

module _ {V : Type 0} (levels : Levels V) (unit limit n : ℕ) (runs : List (ℕ × V)) (rows : List (List ℕ)) where
  -- the price in a row and the last column
  abbrev pub row_price : ℕ → ℕ
  row_price j = table_at rows j (stretch_count levels unit limit n runs)

  -- the price in the last row and the last column
  abbrev pub last_price : ℕ
  last_price = row_price (row_count levels unit limit n runs)

  -- no profile that fits loses less than the last price, and none of so few steps less than their row's
  pub record IsLowerBound : Type 0 where
    pub least : (steps : List (ℕ × V)) → Fits levels unit limit n (value_at runs) steps → last_price ≤ loss levels n (value_at runs) steps
    pub least_of_row : (steps : List (ℕ × V)) → Fits levels unit limit n (value_at runs) steps → (j : ℕ) → length steps ≤ j
        → j ≤ row_count levels unit limit n runs → row_price j ≤ loss levels n (value_at runs) steps
    pub best : (steps : List (ℕ × V)) → Fits levels unit limit n (value_at runs) steps → loss levels n (value_at runs) steps ≡ last_price
        → IsBestProfile levels unit limit n (value_at runs) steps

  -- some profile that fits loses just the last price, and so does each best one
  pub record IsLeastLoss : Type 0 where
    pub steps : List (ℕ × V)
    pub reached : IsBestProfile levels unit limit n (value_at runs) steps × (loss levels n (value_at runs) steps ≡ last_price)
    pub of_best : (other : List (ℕ × V)) → IsBestProfile levels unit limit n (value_at runs) other → loss levels n (value_at runs) other ≡ last_price

module _ {V : Type 0} (levels : Levels V) where
  abbrev pub SoundTablesBound : Type 0
  SoundTablesBound = (unit limit n : ℕ) → 0 < unit → n % unit ≡ 0 → (runs : List (ℕ × V)) → IsTrackFunction levels n runs
      → (rows : List (List ℕ)) → IsSoundTable levels unit limit n runs rows → IsLowerBound levels unit limit n runs rows

  abbrev pub GreatestTablesAreReached : Type 0
  GreatestTablesAreReached = (unit limit n : ℕ) → 0 < unit → n % unit ≡ 0 → 0 < limit → (runs : List (ℕ × V)) → IsTrackFunction levels n runs
      → (rows : List (List ℕ)) → IsGreatestSoundTable levels unit limit n runs rows → IsLeastLoss levels unit limit n runs rows
