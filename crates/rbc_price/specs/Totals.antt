-- Tables of prices that are kept as totals, and columns whose prices are not too high.
use Rattle.std.specs.Prelude.{◌≡◌, ℕ, suc, ◌+◌, ◌<◌, ◌≤◌, List, [], length, slice_index}
use Rattle.std.specs.List.{slice_index_or}
use Rattle.std.specs.Global.{Vec}
use Rattle.rbc_costs.specs.Sums.{price_up_to, row_in}

-- The table has these prices as totals, each within the most that one may be.
pub record AreTotals {N : Type 0} (number : N → ℕ) (most : ℕ) (prices : List (List ℕ)) (table : List (Vec N)) : Type 0 where
  pub count : length table ≡ length prices
  pub same : (j : ℕ) → row_in number table j ≡ slice_index_or prices j []
  pub small : (j i : ℕ) → slice_index (row_in number table j) i ≤ most

-- In the first `count` rows the price up to break `to` is not too high, where one step from break i up to there costs `costs i`.
pub record IsSoundColumn (row : ℕ → List ℕ) (count to : ℕ) (costs : ℕ → ℕ) : Type 0 where
  pub first : price_up_to (row 0) to ≤ costs 0
  pub later : (j : ℕ) → suc j < count → (i : ℕ) → i < to → price_up_to (row (suc j)) to ≤ price_up_to (row j) i + costs i
