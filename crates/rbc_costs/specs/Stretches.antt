-- The stretches of a track, each with its least value, and what the floor of a value loses.
use Rattle.std.specs.Prelude.{◌≡◌, ℕ, suc, ◌+◌, ◌*◌, ◌<◌, ◌≤◌, false, List, Some, length, slice_get, slice_index}
use Rattle.rbc_model.specs.Levels.{Levels}
use Rattle.rbc_model.specs.declared.limits.TheConstants.{MOST_PRICE}
use Rattle.rbc_model.specs.Profiles.{StepFunction}
use Rattle.rbc_table_laws.specs.Breaks.{IsLowest, lost_below}
use Rattle.rbc_table_laws.specs.Stretches.{AreBreaksFor, breaks_for}
use Rattle.rbc_stretches.specs.OnTracks.{IsStretch}
use Rattle.rbc_stretches.specs.declared.stretch.Stretch.{Stretch}

module _ {V : Type 0} (levels : Levels V) (unit : ℕ) (track : StepFunction V) where
  -- The list has the stretches of the track, one behind the other, each with its least value.
  pub record AreStretches (stretches : List (Stretch × V)) : Type 0 where
    pub breaks : AreBreaksFor unit track (breaks_for unit track)
    pub count : length stretches + 1 ≡ length (breaks_for unit track)
    pub stand : (i : ℕ) (stretch : Stretch × V) → slice_get stretches i ≡ Some stretch → IsStretch unit track i stretch.0
    pub least : (i : ℕ) (stretch : Stretch × V) → slice_get stretches i ≡ Some stretch → IsLowest levels track stretch.0.from stretch.0.to stretch.1

  module _ (stretches : List (Stretch × V)) where
    -- No stretch from the first of these indices up to the second is lower than the second one, and the one before is.
    pub record IsLowFrom (stretch first : ℕ) : Type 0 where
      pub inside : first ≤ stretch
      pub lowest : (s : Stretch × V) → slice_get stretches stretch ≡ Some s
          → IsLowest levels track (slice_index (breaks_for unit track) first) (slice_index (breaks_for unit track) (stretch + 1)) s.1
      pub lower : (s before : Stretch × V) → slice_get stretches stretch ≡ Some s → (i : ℕ) → first ≡ suc i
          → slice_get stretches i ≡ Some before → levels.at_most s.1 before.1 ≡ false

    -- each of the first stretches is low from the one of this index on
    abbrev pub AreLowFrom : ℕ → (ℕ → ℕ) → Type 0
    AreLowFrom count first = (stretch : ℕ) → stretch < count → IsLowFrom stretch (first stretch)

module _ {V : Type 0} (levels : Levels V) (track : StepFunction V) where
  -- The price is what the floor of a value loses from one metre up to another.
  pub record IsLostByFloor (from to : ℕ) (value : V) (price : ℕ) : Type 0 where
    pub lost : lost_below levels track (levels.floor value) from + price ≡ lost_below levels track (levels.floor value) to
    pub bound : from * MOST_PRICE + price ≤ to * MOST_PRICE

-- what one step costs from each break before that of a number up to there
abbrev pub AreCosts : (ℕ → ℕ → ℕ) → List ℕ → Type 0
AreCosts cost costs = (i : ℕ) → i < length costs → slice_index costs i ≡ cost i (length costs)
