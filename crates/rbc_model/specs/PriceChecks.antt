-- Checking a price table: whether it shows that a profile is best for a track, and else the first reason why not. Profiles are cut at any
-- metre where the track ends at 32,000 m or before, and else at multiples of ten.
use Rattle.std.specs.Prelude.{◌≡◌, ℕ, zero, suc, ◌+◌, ◌%◌, ◌≤◌, Bool, ◌&&◌, List, length, nat_le, ◌==◌, if◌then◌else◌, Option, Some, None, Result, Ok}
use Rattle.std.specs.List.{list_all}
use Rattle.std.specs.Option.{option_or}
use Rattle.rbc_model.specs.declared.limits.TheConstants.{MOST_STEPS}
use Rattle.rbc_model.specs.declared.prices.Reason.{Reason}
use Rattle.rbc_model.specs.declared.prices.Reason.TheVariants.{Shape, Above, Inequality, NotAttained, Steps}
use Rattle.rbc_model.specs.Results.{is_from_to, unless, demand, ◌>>◌}
use Rattle.rbc_model.specs.Levels.{Levels}
use Rattle.rbc_model.specs.Profiles.{StepFunction, value_at, starts_of, are_multiples, is_within, loss, Fits}
use Rattle.rbc_model.specs.Scales.{unit_of}
use Rattle.rbc_model.specs.PriceTables.{table_at, break_at, stretch_count, row_count, step_cost, IsSoundTable}

-- the first answer there is for this many numbers, from `start` on
abbrev pub first_from : {A : Type 0} → ℕ → ℕ → (ℕ → Option A) → Option A
first_from start zero answer = None
first_from start (suc count) answer = option_or (answer start) (first_from (suc start) count answer)

-- a refusal where there is a reason
abbrev pub unless_some : Option Reason → Result (Unit {0}) Reason
unless_some reason = unless reason (Ok tt)

-- for a track and a profile
module _ {V : Type 0} (levels : Levels V) (track profile : StepFunction V) where
  -- the profile is above the track at this metre
  abbrev pub above_at : ℕ → Option Reason
  above_at x = if is_within levels (value_at track.steps x) (value_at profile.steps x) then None else Some (Above x)

  -- the first such metre
  abbrev pub first_above : Option Reason
  first_above = first_from 0 track.end above_at

-- for a track, profiles of at most `limit` steps, and the rows of a table
module _ {V : Type 0} (levels : Levels V) (limit : ℕ) (track : StepFunction V) (rows : List (List ℕ)) where
  -- how many prices a row has, one for each break but the first, and how many rows there are, one for each step that can be of use
  abbrev pub columns : ℕ
  columns = stretch_count levels (unit_of track.end) limit track.end track.steps

  abbrev pub steps_of_use : ℕ
  steps_of_use = row_count levels (unit_of track.end) limit track.end track.steps

  -- the metre of a break
  abbrev pub metre_of : ℕ → ℕ
  metre_of i = break_at levels (unit_of track.end) limit track.end track.steps i

  -- The price of one step more than j, up to break i', is above that of j steps up to break i and of one step from there.
  abbrev pub too_high_at : ℕ → ℕ → ℕ → Option Reason
  too_high_at j i' i =
      if nat_le (table_at rows (suc j) i') (table_at rows j i + step_cost levels (unit_of track.end) limit track.end track.steps i i') then None
      else Some (Inequality (suc j) (metre_of i) (metre_of i'))

  -- At how many breaks one step more than j may start, of those before break i': the first step starts at break 0.
  abbrev pub starts_before : ℕ → ℕ → ℕ
  starts_before zero i' = 1
  starts_before (suc j) i' = i'

  -- the first price that is too high: by its row, then by its break, then by the break before
  abbrev pub first_too_high : Option Reason
  first_too_high =
      first_from 0 steps_of_use (λ j. first_from 1 columns (λ i'. first_from 0 (starts_before j i') (too_high_at j i')))

  -- the price of all steps up to the end
  abbrev pub last_price : ℕ
  last_price = table_at rows steps_of_use columns

-- for all of them
module _ {V : Type 0} (levels : Levels V) (limit : ℕ) (track profile : StepFunction V) (rows : List (List ℕ)) where
  -- the limit is one, track and profile have one end, it and the profile's cuts are multiples of the unit, and the table has its rows and columns
  abbrev pub has_shape : Bool
  has_shape =
      is_from_to 1 MOST_STEPS limit && (track.end == profile.end)
      && (track.end % unit_of track.end == 0) && are_multiples (unit_of track.end) (starts_of profile.steps)
      && (length rows == steps_of_use levels limit track rows)
      && list_all (λ row. length row == columns levels limit track rows) rows

  -- what the profile loses
  abbrev pub lost : ℕ
  lost = loss levels track.end (value_at track.steps) profile.steps

  -- What the table shows: the first reason against the profile, or none.
  abbrev pub price_check : Result (Unit {0}) Reason
  price_check = do
    demand has_shape Shape
    unless_some (first_above levels track profile)
    unless_some (first_too_high levels limit track rows)
    demand (lost == last_price levels limit track rows) NotAttained
    demand (nat_le (length profile.steps) limit) Steps

  -- A table without a reason against the profile: it is sound, and the profile fits and loses just the last price.
  pub record IsCertificate : Type 0 where
    pub some : 1 ≤ limit
    pub few : limit ≤ MOST_STEPS
    pub end : track.end ≡ profile.end
    pub whole : track.end % unit_of track.end ≡ 0
    pub fits : Fits levels (unit_of track.end) limit track.end (value_at track.steps) profile.steps
    pub sound : IsSoundTable levels (unit_of track.end) limit track.end track.steps rows
    pub attained : lost ≡ last_price levels limit track rows
