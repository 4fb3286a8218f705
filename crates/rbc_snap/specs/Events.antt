-- The events of a history, one for each entry.
use Rattle.std.specs.Prelude.{◌≡◌, ℕ, slice_get, Option, Some, option_map}
use Rattle.logbook.specs.Pages.{Book}
use Rattle.rbc_model.specs.declared.reports.Event.{Event}
use Rattle.rbc_model.specs.Histories.{event_of}
use Rattle.rbc_record.specs.Records.{HistoryOnTrack}
use Rattle.rbc_snap.specs.declared.events.PlacedEvent.{PlacedEvent}
use Rattle.rbc_snap.specs.Sights.{latest, AreMoments}

-- the event that the entry at this place of a history stands for; None where it has no such entry
abbrev pub event_at : HistoryOnTrack → ℕ → Option Event
event_at history place = option_map event_of (slice_get history.entries place)

-- the event is that at its place, in the history of this book as it was seen
pub record IsPlaced (book : Book) (placed : PlacedEvent) : Type 0 where
  pub of_book : placed.seen.book ≡ book
  pub moments : AreMoments placed.seen.log
  pub there : event_at (latest placed.seen.log) placed.place ≡ Some placed.event
