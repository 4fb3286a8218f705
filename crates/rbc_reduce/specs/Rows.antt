-- Tables of prices, as they are filled column by column.
use Rattle.std.specs.Prelude.{◌≡◌, ℕ, suc, ◌<◌, ◌≤◌, List, [], ◌∷◌, ◌++◌, length, slice_get, slice_index}
use Rattle.std.specs.Option.{option_map_or}
use Rattle.std.specs.Global.{Vec}
use Rattle.rbc_model.specs.PriceTables.{table_at}
use Rattle.rbc_model.specs.declared.limits.TheConstants.{MOST_LOSS}
pub use Rattle.rbc_table_laws.specs.PriceRows.{prices_of}
pub use Rattle.rbc_costs.specs.Sums.{IsCheapest, price_up_to, row_in}

-- the price in row j and column i, both from 1
abbrev pub price_in : List (Vec ℕ) → ℕ → ℕ → ℕ
price_in rows j i = table_at (prices_of rows) j i

-- the row of an index
abbrev pub row_at : List (Vec ℕ) → ℕ → List ℕ
row_at rows index = option_map_or (λ row. row.items) (slice_get rows index) []

-- none is above what can be lost
abbrev pub AreSmall : (ℕ → ℕ) → Type 0
AreSmall price = (i : ℕ) → price i ≤ MOST_LOSS

-- The row behind the one of this index has one price more: the cheapest with one step more than the prices of this row have.
abbrev pub IsPriceMore : List ℕ → (ℕ → List ℕ) → (ℕ → List ℕ) → ℕ → Type 0
IsPriceMore costs old new j =
    (price : ℕ) × (new (suc j) ≡ old (suc j) ++ price ∷ []) × IsCheapest (price_up_to (old j)) (slice_index costs) (length costs) price

-- of `count` rows with `columns` columns, the rows of as many steps as columns, or more, are alike: no step is left for them
abbrev pub AreAlike : ℕ → ℕ → (ℕ → List ℕ) → Type 0
AreAlike columns count row = (j : ℕ) → columns ≤ suc j → suc j < count → row (suc j) ≡ row j

-- Each of the first `count` rows has one price more: in the first row it is what one step costs, and in each later one the
-- cheapest with one step more than the prices of the row before have.
pub record IsColumnMore (costs : List ℕ) (count : ℕ) (old new : ℕ → List ℕ) : Type 0 where
  pub first : new 0 ≡ old 0 ++ slice_index costs 0 ∷ []
  pub later : (j : ℕ) → suc j < count → IsPriceMore costs old new j

module _ (cost : ℕ → ℕ → ℕ) (count : ℕ) (row : ℕ → List ℕ) where
  -- The prices up to this break are the least.
  pub record IsColumn (to : ℕ) : Type 0 where
    pub one_step : price_up_to (row 0) to ≡ cost 0 to
    pub more_steps : (j : ℕ) → suc j < count → IsCheapest (price_up_to (row j)) (λ i. cost i to) to (price_up_to (row (suc j)) to)

  -- The first `columns` columns of the first `count` rows are filled, and nothing else is.
  pub record AreFilled (columns : ℕ) : Type 0 where
    pub wide : (j : ℕ) → j < count → length (row j) ≡ columns
    pub none : (j : ℕ) → count ≤ j → row j ≡ []
    pub each : (to : ℕ) → 1 ≤ to → to ≤ columns → IsColumn to
