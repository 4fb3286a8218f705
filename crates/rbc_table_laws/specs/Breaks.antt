-- A track at its breaks, which are the starts of its runs and its end: its values between them, and what they lose.
use Rattle.std.specs.Prelude.{◌≡◌, ℕ, suc, ◌+◌, ◌<◌, ◌≤◌, List, Some, length, slice_get, slice_index}
use Rattle.rbc_model.specs.Levels.{Levels, IsAtMost}
use Rattle.rbc_model.specs.Profiles.{StepFunction, value_at, starts_of, price_at, sum_below}
use Rattle.rbc_model.specs.PriceTables.{breaks_of}

-- the breaks of a track, at a unit of 1: the starts of its runs, and its end
abbrev pub breaks_in : {V : Type 0} → StepFunction V → List ℕ
breaks_in track = breaks_of 1 track.end (starts_of track.steps)

-- The numbers are the track's breaks: they rise from 0 to its end, and from one to the next lies one run.
pub record AreBreaks {V : Type 0} (track : StepFunction V) (breaks : List ℕ) : Type 0 where
  pub are : breaks ≡ breaks_in track
  pub count : length breaks ≡ suc (length track.steps)
  pub first : slice_index breaks 0 ≡ 0
  pub last : slice_index breaks (length track.steps) ≡ track.end
  pub rise : (i : ℕ) → i < length track.steps → slice_index breaks i < slice_index breaks (i + 1)
  pub flat : (i x : ℕ) (run : ℕ × V) → slice_get track.steps i ≡ Some run
      → slice_index breaks i ≤ x → x < slice_index breaks (i + 1) → value_at track.steps x ≡ Some run.1

module _ {V : Type 0} (levels : Levels V) (track : StepFunction V) where
  -- what one value loses over the metres below one
  abbrev pub lost_below : V → ℕ → ℕ
  lost_below given x = sum_below x (λ y. price_at levels (value_at track.steps y) (Some given))

  -- the value is above the track at no metre from one up to another
  abbrev pub IsBelowAll : ℕ → ℕ → V → Type 0
  IsBelowAll from to given =
      (x : ℕ) (v : V) → from ≤ x → x < to → value_at track.steps x ≡ Some v → IsAtMost levels given v

  -- The value is the track's least one from one metre up to another.
  pub record IsLowest (from to : ℕ) (v : V) : Type 0 where
    pub place : ℕ
    pub low : from ≤ place
    pub high : place < to
    pub there : value_at track.steps place ≡ Some v
    pub below : IsBelowAll from to v
