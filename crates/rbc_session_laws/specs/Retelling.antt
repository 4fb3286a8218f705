-- A history is a session: the line of each entry leads to that entry again.
use Rattle.std.specs.Prelude.{◌≡◌, ◌≤◌, ℕ, List, [], length, map, take, slice_get, Option, Some, Result, Ok}
use Rattle.rbc_model.specs.declared.sessions.SessionFault.{SessionFault}
use Rattle.rbc_model.specs.Levels.{speed_levels, grade_levels}
use Rattle.rbc_model.specs.Profiles.{IsChosenProfile, value_at}
use Rattle.rbc_model.specs.Scales.{unit_of}
use Rattle.rbc_model.specs.Sessions.{lines_of}
use Rattle.rbc_model.specs.Tracks.{Track}
use Rattle.rbc_model.specs.SoundTracks.{IsInForm, IsSound}
use Rattle.rbc_model.specs.Views.{View, view}
use Rattle.rbc_model.specs.Histories.{Beginning, Entry, Heard, Granted, Grants, IsLegal, replay}
use Rattle.rbc_model.specs.SessionText.{SessionLine, parse_session, said_line, IsSayable}
use Rattle.rbc_model.specs.HistoryText.{IsToldOfTrack, entry_request, entry_line, history_text}
use Rattle.rbc_session_laws.specs.SessionRuns.{IsSession}
use Rattle.rbc_session_laws.specs.Answers.{line_answer, turns_of, entries_after}

-- ---- requests

-- the line of a request is read back
abbrev pub RequestsAreReadBack : Type 0
RequestsAreReadBack = (said : SessionLine) → IsSayable said → parse_session (said_line said) ≡ Ok said

-- and what is read of a line can be said
abbrev pub ReadsAreSayable : Type 0
ReadsAreSayable = (line : List ℕ) (said : SessionLine) → parse_session line ≡ Ok said → IsSayable said

-- ---- lines

-- a line that adds an entry is answered as the entry's own line is
abbrev pub EntriesAreToldAgain : Type 0
EntriesAreToldAgain = (begin : Beginning) (before : List Entry) (line : List ℕ) (entry : Entry)
    → (line_answer begin before line).added ≡ Some entry → line_answer begin before (entry_line begin.track entry) ≡ line_answer begin before line

-- ---- histories

-- each entry is what its line adds after the entries before it
abbrev pub IsRetold : Beginning → List Entry → Type 0
IsRetold begin entries = (place : ℕ) (entry : Entry) → slice_get entries place ≡ Some entry → (line_answer begin (take place entries) (entry_line begin.track entry)).added ≡ Some entry

-- what was told names a route or a section of the track
abbrev pub IsEntryOfTrack : Track → Entry → Type 0
IsEntryOfTrack track (Heard told) = IsToldOfTrack track told
IsEntryOfTrack track (Granted grant) = Unit {0}

-- so it is with each entry of a history that is retold
abbrev pub RetoldEntriesAreOfTrack : Type 0
RetoldEntriesAreOfTrack = (begin : Beginning) (entries : List Entry) → IsRetold begin entries
    → (place : ℕ) (entry : Entry) → slice_get entries place ≡ Some entry → IsEntryOfTrack begin.track entry

-- The session over the text of a history, from no entry on: each line adds its entry, so none is refused, and all of them make the history again.
pub record IsItsSession (begin : Beginning) (entries : List Entry) : Type 0 where
  pub each : map (λ turn. turn.added) (turns_of begin [] (lines_of (history_text begin.track entries))) ≡ map Some entries
  pub all : entries_after begin [] (history_text begin.track entries) ≡ entries

abbrev pub RetoldHistoriesAreSessions : Type 0
RetoldHistoriesAreSessions = (begin : Beginning) (entries : List Entry) → IsRetold begin entries → IsItsSession begin entries

-- what a session makes of a history that is retold is retold, however it ended, and where memory was refused too
abbrev pub SessionsAreRetold : Type 0
SessionsAreRetold = (begin : Beginning) (before after : List Entry) (input : List ℕ) (old new : Option (List ℕ)) (result : Result (Unit {0}) SessionFault) → IsInForm begin.track
    → IsSession begin before after input old new result → IsRetold begin before → IsRetold begin after

-- so the entries that an input leads to are those that their own lines lead to
abbrev pub HistoriesAreSessions : Type 0
HistoriesAreSessions = (begin : Beginning) (input : List ℕ) → IsItsSession begin (entries_after begin [] input)

-- ---- legal histories

-- of several best profiles the grant has those that the rules choose, for what its train was shown
pub record IsChosen (grant : Grants) (shown : View) : Type 0 where
  pub speeds : IsChosenProfile speed_levels (unit_of grant.authority.end) shown.speed_steps grant.authority.end (value_at shown.speeds) grant.authority.speeds
  pub grades : IsChosenProfile grade_levels (unit_of grant.authority.end) shown.grade_steps grant.authority.end (value_at shown.grades) grant.authority.grades

abbrev pub HasChosen : Beginning → List Entry → Grants → Type 0
HasChosen begin before grant = (shown : View) → view begin.track (replay begin before) grant.train ≡ Ok shown → IsChosen grant shown

-- A legal history on a sound track is retold, if lines can tell its entries and each grant has the chosen profiles. That it is legal says only that
-- each grant has best profiles.
abbrev pub LegalHistoriesAreRetold : Type 0
LegalHistoriesAreRetold = (begin : Beginning) (entries : List Entry) → IsInForm begin.track → IsSound begin.track → IsLegal begin entries → length entries ≤ begin.most
    → ((place : ℕ) (entry : Entry) → slice_get entries place ≡ Some entry → IsSayable (entry_request begin.track entry))
    → ((place : ℕ) (grant : Grants) → slice_get entries place ≡ Some (Granted grant) → HasChosen begin (take place entries) grant)
    → IsRetold begin entries
