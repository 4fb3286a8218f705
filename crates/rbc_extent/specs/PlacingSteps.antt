-- How a report is placed, step by step: each step has an answer, or it is the first one at fault. `Placing` says the same by cases.
use Rattle.std.specs.Prelude.{ℕ, length, Option, Some, None, Result, Ok, Err}
use Rattle.std.specs.Result.{result_err}
use Rattle.rbc_model.specs.declared.places.Leg.{Leg}
use Rattle.rbc_model.specs.declared.tracks.BaliseGroup.{BaliseGroup}
use Rattle.rbc_model.specs.declared.refusals.Refusal.{Refusal}
use Rattle.rbc_model.specs.declared.refusals.Refusal.TheVariants.{UnknownGroup, Offline, Unplaced}
use Rattle.rbc_model.specs.Results.{◌>>=◌}
use Rattle.rbc_model.specs.Reports.{Report}
use Rattle.rbc_model.specs.Tracks.{Track, group_named}
use Rattle.rbc_model.specs.Lines.{Line}
use Rattle.rbc_model.specs.Locks.{Locks, longer_ahead, longer_back, lengthened}
use Rattle.rbc_model.specs.Placing.{Placed, leg_told, located, without_legs_behind, has_rear, has_front, placed_on, origin_on}

-- what was looked for, or the refusal where it was not found
abbrev pub found_or : {X : Type 0} → Refusal → Option X → Result X Refusal
found_or refusal None = Err refusal
found_or refusal (Some x) = Ok x

-- the line that has the leg told
unfoldable pub locating_step : Track → Locks → Leg → Option Line → Result Line Refusal
locating_step track locks leg known = found_or Offline (located track locks leg known)

-- the line lengthened behind until it has the rear
unfoldable pub rear_step : Track → Locks → BaliseGroup → Report → Line → Result Line Refusal
rear_step track locks group report line = found_or Unplaced (lengthened (length track.sections) (longer_back locks) (has_rear track group report) line)

-- the line lengthened ahead until it has the metre before the front
unfoldable pub front_step : Track → Locks → BaliseGroup → Report → Line → Result Line Refusal
front_step track locks group report line = found_or Unplaced (lengthened (length track.sections) (longer_ahead locks) (has_front track group report) line)

-- the line that has all metres that the train may stand on, without the legs that the train has left
unfoldable pub covering_step : Track → Locks → BaliseGroup → Report → Line → Result Line Refusal
covering_step track locks group report line = do
  longer ← rear_step track locks group report (without_legs_behind track group report line)
  front_step track locks group report longer

-- what a report came to: the place of its group on the line that was known, and where it places the train
pub record Finding : Type 0 where
  pub old_origin : ℕ
  pub placed : Placed

-- from the group on
unfoldable pub finding_from : Track → Locks → Option Line → Report → BaliseGroup → Result Finding Refusal
finding_from track locks known report group = do
  start ← locating_step track locks (leg_told group report) known
  line ← covering_step track locks group report start
  placed ← placed_on track group report line
  Ok (record { old_origin = origin_on track group report start; placed = placed })

-- the whole
unfoldable pub finding : Track → Locks → Option Line → Report → Result Finding Refusal
finding track locks known report = found_or UnknownGroup (group_named track report.group) >>= finding_from track locks known report

-- ---- refusals

-- why a report is not placed from a line on that has the leg told, if it is not
abbrev pub refusal_from : Track → Locks → BaliseGroup → Report → Line → Option Refusal
refusal_from track locks group report start = result_err (covering_step track locks group report start >>= placed_on track group report)

-- why it is not placed from the group on, if it is not
abbrev pub refusal_beyond : Track → Locks → Option Line → Report → BaliseGroup → Option Refusal
refusal_beyond track locks known report group = result_err (finding_from track locks known report group)
