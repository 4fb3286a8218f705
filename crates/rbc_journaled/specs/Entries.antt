-- Which entry of a desk's history a line tells.
use Rattle.std.specs.Prelude.{◌≡◌, ◌≤◌, ℕ, List, length, take, slice_get, Some}
use Rattle.rbc_journal.specs.Journal.{recovered}
use Rattle.rbc_journaled.specs.Adds.{Adds}
use Rattle.rbc_sessions.specs.Records.{begin_of, HistoryOnTrack}
use Rattle.rbc_model.specs.Histories.{Entry}

-- the line adds the entry at this place, behind those before it
pub record TellsEntry (history : HistoryOnTrack) (place : ℕ) (line : List ℕ) : Type 0 where
  pub entry : Entry
  pub stands : slice_get history.entries place ≡ Some entry
  pub adds : Adds (begin_of history) (take place history.entries) line entry

-- A file that tells the first entries of a history, at least the number given: no more than there are, each by its own line, and none is skipped.
pub record TellsFirst (history : HistoryOnTrack) (least : ℕ) (file : List ℕ) : Type 0 where
  pub enough : least ≤ length (recovered file)
  pub fits : length (recovered file) ≤ length history.entries
  pub each : (place : ℕ) (line : List ℕ) → slice_get (recovered file) place ≡ Some line → TellsEntry history place line
