-- The lines of a history, from a place on.
use Rattle.std.specs.Prelude.{◌≡◌, ℕ, ◌+◌, min, List, ◌++◌, drop, take, length, Some}
use Rattle.rbc_model.specs.declared.reports.Event.{Event}
use Rattle.rbc_model.specs.declared.reports.Event.TheVariants.{Tell, Grant}
use Rattle.rbc_model.specs.HistoryText.{history_text, told_request}
use Rattle.rbc_model.specs.SessionText.{SessionLine, Ask, said_words}
use Rattle.rbc_model.specs.Tracks.{Track}
use Rattle.rbc_model.specs.Words.{line_of}
use Rattle.rbc_desk.specs.Events.{event_at}
use Rattle.rbc_desk.specs.Records.{HistoryOnTrack}
use Rattle.rbc_page.specs.declared.history.TheConstants.{MOST_TOLD}

-- the request that leads to an event: what was granted is asked for again
abbrev pub event_request : Track → Event → SessionLine
event_request track (Tell told) = told_request track told
event_request track (Grant train end) = Ask train

-- the line of a request
abbrev pub request_line : SessionLine → List ℕ
request_line request = line_of (said_words request)

-- what was written behind a text is the line of the entry at this place of the history
abbrev pub IsLineOf : Track → HistoryOnTrack → ℕ → List ℕ → List ℕ → Type 0
IsLineOf track history place old new = (event : Event) × (event_at history place ≡ Some event) × (new ≡ old ++ request_line (event_request track event))

-- the text of the entries from one place up to another
unfoldable pub lines_between : HistoryOnTrack → ℕ → ℕ → List ℕ
lines_between history from end = history_text history.track (drop from (take end history.entries))

-- up to which place the lines of a history with so many entries are told, from a place on
abbrev pub end_of : ℕ → ℕ → ℕ
end_of from version = min version (from + MOST_TOLD)

-- the text of the history from this place on, of so many entries at most as are told at once; empty from the history's end on
abbrev pub lines_from : HistoryOnTrack → ℕ → List ℕ
lines_from history from = lines_between history from (end_of from (length history.entries))
