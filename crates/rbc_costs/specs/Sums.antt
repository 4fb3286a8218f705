-- Prices with one step more.
use Rattle.std.specs.Prelude.{◌≡◌, ℕ, zero, suc, ◌+◌, ◌<◌, ◌≤◌, List, [], map, slice_get, slice_index}
use Rattle.std.specs.Option.{option_map_or}
use Rattle.std.specs.Global.{Vec}

-- the row of an index, whose totals are these numbers
abbrev pub row_in : {N : Type 0} → (N → ℕ) → List (Vec N) → ℕ → List ℕ
row_in number rows index = option_map_or (λ row. map number row.items) (slice_get rows index) []

-- the price up to a break, in a row that begins with the first break behind 0
abbrev pub price_up_to : List ℕ → ℕ → ℕ
price_up_to row zero = 0
price_up_to row (suc i) = slice_index row i

-- The price is the least with one step more, from one of the breaks before `to`.
pub record IsCheapest (before costs : ℕ → ℕ) (to price : ℕ) : Type 0 where
  pub lowest : (i : ℕ) → i < to → price ≤ before i + costs i
  pub from : ℕ
  pub inside : from < to
  pub reached : price ≡ before from + costs from
