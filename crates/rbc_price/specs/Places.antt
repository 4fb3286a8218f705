-- Places of a table of prices: a price, and one in the row before.
use Rattle.std.specs.Prelude.{◌≡◌, ℕ, suc, ◌+◌, ◌<◌, ◌≤◌, Bool, false, ◌&&◌, ◌||◌, nat_lt, ◌==◌, if◌then◌else◌, List, Option, Some, None, length}
use Rattle.rbc_model.specs.Levels.{Levels}
use Rattle.rbc_model.specs.Profiles.{StepFunction}
use Rattle.rbc_model.specs.PriceTables.{table_at}
use Rattle.rbc_model.specs.Scales.{unit_of}
use Rattle.rbc_table_laws.specs.Stretches.{cost_of_step}
use Rattle.rbc_price.specs.Columns.{stretches_of}
use Rattle.rbc_price.specs.declared.places.PricePlace.{PricePlace}

-- by the row, then by the break that the step leads to, then by the one that it starts at
abbrev pub comes_before : PricePlace → PricePlace → Bool
comes_before a b = nat_lt a.row b.row || (a.row == b.row) && (nat_lt a.to b.to || (a.to == b.to) && nat_lt a.from b.from)

-- the earlier of two places, where there are two
abbrev pub earlier : Option PricePlace → Option PricePlace → Option PricePlace
earlier None b = b
earlier (Some a) None = Some a
earlier (Some a) (Some b) = Some (if comes_before b a then b else a)

module _ (rows : List (List ℕ)) where
  -- The price is above the one in the row before with so much for one step more; the first step starts at break 0.
  pub record IsDearer (cost : ℕ) (place : PricePlace) : Type 0 where
    pub start : place.row ≡ 0 → place.from ≡ 0
    pub above : table_at rows place.row place.from + cost < table_at rows (suc place.row) place.to

  -- The place between two breaks in the first row in which the price is too high, where there is one.
  abbrev pub IsFirstRow : ℕ → ℕ → ℕ → Option PricePlace → Type 0
  IsFirstRow from to cost None = (row : ℕ) → row < length rows → IsDearer cost (record { row = row; from = from; to = to }) → ⊥
  IsFirstRow from to cost (Some place) =
      (place.from ≡ from) × (place.to ≡ to) × (place.row < length rows) × IsDearer cost place
      × ((row : ℕ) → row < place.row → IsDearer cost (record { row = row; from = from; to = to }) → ⊥)

module _ {V : Type 0} (levels : Levels V) (track : StepFunction V) (rows : List (List ℕ)) where
  -- The price at this place is too high.
  pub record IsTooHigh (place : PricePlace) : Type 0 where
    pub inside : place.row < length rows
    pub on : place.from < place.to
    pub column : place.to ≤ stretches_of track
    pub dearer : IsDearer rows (cost_of_step levels (unit_of track.end) track place.from place.to) place

  -- The price at this place is too high, and none before it is, of those between breaks that were judged; or none is.
  abbrev pub IsFirst : (ℕ → ℕ → Type 0) → Option PricePlace → Type 0
  IsFirst Judged None = (other : PricePlace) → Judged other.from other.to → IsTooHigh other → ⊥
  IsFirst Judged (Some place) =
      IsTooHigh place
      × ((other : PricePlace) → Judged other.from other.to → IsTooHigh other → comes_before other place ≡ false)
