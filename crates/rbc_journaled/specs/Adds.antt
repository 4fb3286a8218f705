-- Which entry a line adds to the history of a centre.
use Rattle.std.specs.Prelude.{◌≡◌, ℕ, Bool, List, Some, None, Ok, MatchBool}
use Rattle.rbc_model.specs.Histories.{Beginning, Entry}
use Rattle.rbc_sessions.specs.Records.{begin_of, HistoryOnTrack, with_entry}
use Rattle.rbc_session_laws.specs.declared.command.Command.{Command}
use Rattle.rbc_session_laws.specs.Commands.{command_in}
use Rattle.rbc_session_laws.specs.Answers.{line_answer}

-- behind these entries the line adds this one
abbrev pub Adds : Beginning → List Entry → List ℕ → Entry → Type 0
Adds begin before line entry = (line_answer begin before line).added ≡ Some entry

-- a line has led from the one history to the other
abbrev pub Gains : HistoryOnTrack → List ℕ → HistoryOnTrack → Type 0
Gains before line after = (entry : Entry) × Adds (begin_of before) before.entries line entry × (after ≡ with_entry before entry)

-- behind these entries the line adds none
abbrev pub AddsNone : Beginning → List Entry → List ℕ → Type 0
AddsNone begin before line = (line_answer begin before line).added ≡ None

-- a line was treated, and it is told whether it added an entry
abbrev pub Follows : Bool → HistoryOnTrack → List ℕ → HistoryOnTrack → Type 0
Follows is_added before line after = MatchBool is_added (Gains before line after) (AddsNone (begin_of before) before.entries line × (after ≡ before))

-- each line that says this is treated so, and it is told whether it added an entry
abbrev pub FollowsSaid : Bool → HistoryOnTrack → Command → HistoryOnTrack → Type 0
FollowsSaid is_added before command after = (line : List ℕ) → command_in before.track line ≡ Ok command → Follows is_added before line after
