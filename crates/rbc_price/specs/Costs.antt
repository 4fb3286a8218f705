-- What one step costs between two breaks of a track, as it is found by the lowest stretch between them.
use Rattle.std.specs.Prelude.{◌≡◌, ℕ, ◌+◌, ◌-◌, ◌*◌, ◌<◌, ◌≤◌, Bool, true, false, Option}
use Rattle.rbc_model.specs.Levels.{Levels}
use Rattle.rbc_model.specs.declared.limits.TheConstants.{MOST_PRICE}
use Rattle.rbc_model.specs.Profiles.{StepFunction, value_at, is_within}
use Rattle.rbc_model.specs.PriceTables.{least_value}
use Rattle.rbc_table_laws.specs.Breaks.{lost_below, IsLowest}
use Rattle.rbc_price.specs.Columns.{break_metre}

module _ {V : Type 0} (levels : Levels V) (track : StepFunction V) where
  -- The value is the least one between two metres, and its floor loses so much there.
  pub record IsCostAt (from to : ℕ) (least : V) (cost : ℕ) : Type 0 where
    pub lowest : IsLowest levels track from to least
    pub lost : lost_below levels track (levels.floor least) from + cost ≡ lost_below levels track (levels.floor least) to
    pub bound : from * MOST_PRICE + cost ≤ to * MOST_PRICE

  -- the least value of the stretch of an index
  abbrev pub stretch_value : ℕ → Option V
  stretch_value i = least_value levels (value_at track.steps) (break_metre track i) (break_metre track (i + 1) - break_metre track i)

  -- the stretch of one index is no higher than that of another
  abbrev pub is_stretch_at_most : ℕ → ℕ → Bool
  is_stretch_at_most i j = is_within levels (stretch_value j) (stretch_value i)

  -- The stretch of an index is the lowest one between two breaks, and the last such one.
  pub record IsLowestStretch (from to lowest : ℕ) : Type 0 where
    pub low : from ≤ lowest
    pub high : lowest < to
    pub before : (i : ℕ) → from ≤ i → i < lowest → is_stretch_at_most lowest i ≡ true
    pub behind : (i : ℕ) → lowest < i → i < to → is_stretch_at_most i lowest ≡ false
