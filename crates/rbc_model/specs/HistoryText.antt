-- A history as a text: for each entry the line that leads to it.
use Rattle.std.specs.Prelude.{ℕ, ◌<◌, List, [], length, slice_get}
use Rattle.std.specs.Option.{option_map_or}
use Rattle.std.specs.List.{flat_map}
use Rattle.rbc_model.specs.declared.reports.Told.{Told}
use Rattle.rbc_model.specs.declared.reports.Told.TheVariants.{Report as ToldReport, Lock as ToldLock, Free as ToldFree, Leave as ToldLeave, GiveBack as ToldGiveBack}
use Rattle.rbc_model.specs.Tracks.{Track}
use Rattle.rbc_model.specs.Words.{line_of}
use Rattle.rbc_model.specs.SessionText.{SessionLine, Report, Lock, Free, Leave, GiveBack, Ask, said_words, said_line}
use Rattle.rbc_model.specs.SessionReply.{section_word}
use Rattle.rbc_model.specs.Histories.{Entry, Heard, Granted}

-- the name of a route
abbrev pub route_word : Track → ℕ → List ℕ
route_word track route = option_map_or (λ r. r.name) (slice_get track.routes route) []

-- the request that tells this, its route or section by the name
abbrev pub told_request : Track → Told → SessionLine
told_request track (ToldReport report) = Report report
told_request track (ToldLock route) = Lock (route_word track route)
told_request track (ToldFree section) = Free (section_word track section)
told_request track (ToldLeave train) = Leave train
told_request track (ToldGiveBack train end) = GiveBack train end

-- the route or the section that is told is one of the track's
abbrev pub IsToldOfTrack : Track → Told → Type 0
IsToldOfTrack track (ToldLock route) = route < length track.routes
IsToldOfTrack track (ToldFree section) = section < length track.sections
IsToldOfTrack track _ = Unit {0}

-- the request that leads to an entry: what was granted is asked for again
abbrev pub entry_request : Track → Entry → SessionLine
entry_request track (Heard told) = told_request track told
entry_request track (Granted grant) = Ask grant.train

-- its line, without its line feed
abbrev pub entry_line : Track → Entry → List ℕ
entry_line track entry = said_line (entry_request track entry)

-- the text of a history: the lines of its entries, in order
abbrev pub history_text : Track → List Entry → List ℕ
history_text track entries = flat_map (λ entry. line_of (said_words (entry_request track entry))) entries
