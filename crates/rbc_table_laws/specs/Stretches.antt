-- A track at its breaks for cuts at multiples of a unit: its stretches lie between one break and the next.
use Rattle.std.specs.Prelude.{◌≡◌, ℕ, ◌+◌, ◌-◌, ◌%◌, ◌<◌, ◌≤◌, List, Some, length, nat_lt, slice_get, slice_index, if◌then◌else◌}
use Rattle.rbc_model.specs.Levels.{Levels}
use Rattle.rbc_model.specs.Profiles.{StepFunction, IsTrackFunction, starts_of}
use Rattle.rbc_model.specs.PriceTables.{rounded_down, rounded_up, breaks_of, step_cost}
use Rattle.rbc_table_laws.specs.Breaks.{AreBreaks}

module _ {V : Type 0} (unit : ℕ) (track : StepFunction V) where
  -- the breaks of a track
  abbrev pub breaks_for : List ℕ
  breaks_for = breaks_of unit track.end (starts_of track.steps)

  -- The numbers are the track's breaks: they rise from 0 to its end, and are multiples of the unit.
  pub record AreBreaksFor (breaks : List ℕ) : Type 0 where
    pub are : breaks ≡ breaks_for
    pub some : 1 < length breaks
    pub first : slice_index breaks 0 ≡ 0
    pub last : slice_index breaks (length breaks - 1) ≡ track.end
    pub rise : (i : ℕ) → i + 1 < length breaks → slice_index breaks i < slice_index breaks (i + 1)
    pub whole : (i : ℕ) → i < length breaks → slice_index breaks i % unit ≡ 0

-- what one step costs from a break up to another
abbrev pub cost_of_step : {V : Type 0} → Levels V → ℕ → StepFunction V → ℕ → ℕ → ℕ
cost_of_step levels unit track i i' = step_cost levels unit 1 track.end track.steps i i'

-- ---- from break to break, by the run that lies there: its edges are where it starts and where it stops

-- the break behind a metre, by where the metre's run stops
abbrev pub break_behind : ℕ → ℕ → ℕ → ℕ
break_behind unit metre stop = if nat_lt metre (rounded_down unit stop) then rounded_down unit stop else rounded_up unit stop

-- the break before a metre, by where the run of the metre before it starts
abbrev pub break_before : ℕ → ℕ → ℕ → ℕ
break_before unit metre start = if nat_lt (rounded_up unit start) metre then rounded_up unit start else rounded_down unit start

module _ {V : Type 0} (unit : ℕ) (track : StepFunction V) where
  -- The breaks can be walked in both directions; `edges` are the breaks at a unit of 1.
  pub record AreWalked (edges breaks : List ℕ) : Type 0 where
    pub behind : (i r : ℕ) → i + 1 < length breaks → r < length track.steps
        → slice_index edges r ≤ slice_index breaks i → slice_index breaks i < slice_index edges (r + 1)
        → slice_index breaks (i + 1) ≡ break_behind unit (slice_index breaks i) (slice_index edges (r + 1))
    pub before : (i r : ℕ) → i + 1 < length breaks → r < length track.steps
        → slice_index edges r < slice_index breaks (i + 1) → slice_index breaks (i + 1) ≤ slice_index edges (r + 1)
        → slice_index breaks i ≡ break_before unit (slice_index breaks (i + 1)) (slice_index edges r)

-- on a part of one run
module _ {V : Type 0} (track : StepFunction V) (edges : List ℕ) where
  -- The metres from one to another are a part of the run of an index, which has one value there.
  pub record IsPart (r : ℕ) (run : ℕ × V) (from to : ℕ) : Type 0 where
    pub there : slice_get track.steps r ≡ Some run
    pub low : slice_index edges r ≤ from
    pub some : from < to
    pub high : to ≤ slice_index edges (r + 1)

-- ---- the laws

-- each track's breaks are breaks, and can be walked
module _ {V : Type 0} (levels : Levels V) where
  abbrev pub BreaksAreWalked : Type 0
  BreaksAreWalked = (unit : ℕ) → 0 < unit → (track : StepFunction V) → track.end % unit ≡ 0 → IsTrackFunction levels track.end track.steps
      → (edges : List ℕ) → AreBreaks track edges → AreBreaksFor unit track (breaks_for unit track) × AreWalked unit track edges (breaks_for unit track)
