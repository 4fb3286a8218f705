-- The program `rbc show`: what it writes, as one function of the track and of the text read.
use Rattle.std.specs.Prelude.{◌≡◌, ◌≤◌, ◌⊎◌, ℕ, ◌+◌, Bool, true, false, if◌then◌else◌, min, List, [], ◌∷◌, ◌++◌, length, Option, Some, None, Result, Ok, codes, decimal}
use Rattle.std.specs.Io.KnownBytes.{Appends}
use Rattle.rbc_sessions.specs.Records.{begin_of}
use Rattle.rbc_model.specs.declared.limits.TheConstants.{LONGEST_LINE}
use Rattle.rbc_model.specs.Histories.{Beginning, Entry, replay}
use Rattle.rbc_model.specs.SceneLines.{scene_lines}
use Rattle.rbc_model.specs.SessionReply.{SessionRefusal}
use Rattle.rbc_model.specs.Sessions.{lines_of}
use Rattle.rbc_model.specs.TrackLines.{track_lines}
use Rattle.rbc_model.specs.Words.{line_of, without_return}
use Rattle.rbc_session_laws.specs.declared.command.Command.{Command}
use Rattle.rbc_session_laws.specs.declared.command.Command.TheVariants.{Nothing}
use Rattle.rbc_session_laws.specs.Answers.{line_answer, entries_after}
use Rattle.rbc_session_laws.specs.Commands.{command_in}
use Rattle.rbc_session_laws.specs.Laws.{SaysNoMemory}
use Rattle.rbc_session_laws.specs.SessionRuns.{entries_of}
use Rattle.rbc_session_laws.specs.Turns.{AnswersLine}
use Rattle.rbc_journaled.specs.Adds.{Follows}
use Rattle.rbc_show.specs.declared.each.Telling.{Telling}
use Rattle.rbc_show.specs.declared.last.Following.{Following}

-- ---- the last scene

-- the scene that these entries lead to, as lines
abbrev pub scene_text : Beginning → List Entry → List ℕ
scene_text begin entries = scene_lines begin.track (length entries) (replay begin entries)

-- The track, and the scene that an input leads to.
abbrev pub shown_text : Beginning → List Entry → List ℕ → List ℕ
shown_text begin before input = track_lines begin.track ++ scene_text begin (entries_after begin before input)

-- ---- each line

-- a line as it is told, with its number; of one that is too long nothing is told but that
abbrev pub request_text : ℕ → List ℕ → List ℕ
request_text number line = line_of (codes "request" ∷ decimal number ∷ without_return line ∷ [])

-- the scene behind an entry, if a line adds one to those before it
abbrev pub change_text : Beginning → List Entry → Option Entry → List ℕ
change_text begin before None = []
change_text begin before (Some entry) = scene_text begin (before ++ entry ∷ [])

-- whether a line has a reply
abbrev pub has_reply : Result Command SessionRefusal → Bool
has_reply (Ok Nothing) = false
has_reply _ = true

-- the line of this number, its reply, and the scene that it leads to, if it adds an entry
abbrev pub told_text : ℕ → Beginning → List Entry → List ℕ → List ℕ → Option Entry → List ℕ
told_text number begin before line reply added =
    if has_reply (command_in begin.track line) then request_text number line ++ (reply ++ change_text begin before added) else []

-- lines in order, each behind the entries of those before it
abbrev pub lines_text : ℕ → Beginning → List Entry → List (List ℕ) → List ℕ
lines_text number begin before [] = []
lines_text number begin before (line ∷ lines) =
    told_text number begin before line (line_answer begin before line).reply (line_answer begin before line).added
    ++ lines_text (number + 1) begin (before ++ entries_of (line_answer begin before line).added) lines

-- The track, the scene before the first line of an input, and its lines.
abbrev pub each_text : Beginning → List Entry → List ℕ → List ℕ
each_text begin before input = track_lines begin.track ++ (scene_text begin before ++ lines_text 1 begin before (lines_of input))

-- ---- all of an input

-- Where what was left to read is known, this text of it was written, and nothing else.
abbrev pub Shows : (List ℕ → List ℕ) → Option (List ℕ) → Option (List ℕ) → Option (List ℕ) → Type 0
Shows text_of left old new = (input : List ℕ) → left ≡ Some input → Appends old new (text_of input)

-- One text was written, and it is this one unless a line of it says that memory was refused.
abbrev pub ShowsEach : (List ℕ → List ℕ) → Option (List ℕ) → Option (List ℕ) → Option (List ℕ) → Type 0
ShowsEach text_of left old new =
    (input : List ℕ) → left ≡ Some input → (text : List ℕ) × Appends old new text × (SaysNoMemory text → text ≡ text_of input)

-- ---- from line to line

-- The line was followed, and nothing was written.
pub record IsFollowed (before : Following) (line reply : List ℕ) (after : Following) : Type 0 where
  pub followed : (is_added : Bool) × Follows is_added before.history line after.history
  pub silent : reply ≡ []

-- So it is unless memory was refused, or the line is too long.
abbrev pub FollowsLine : Following → List ℕ → List ℕ → Following → Type 0
FollowsLine before line reply after =
    (before.lost ≡ false) × ((after.lost ≡ true) ⊎ ((after.lost ≡ false) × (length line ≤ LONGEST_LINE → IsFollowed before line reply after)))

-- the number of the next line; there are fewer lines than the greatest one
abbrev pub next_number : ℕ → ℕ
next_number number = min (number + 1) 0xffff_ffff

-- The line was answered, and told with its reply and with the scene behind the entry that it added.
pub record IsTold (before : Telling) (line text : List ℕ) (after : Telling) : Type 0 where
  pub reply : List ℕ
  pub added : Option Entry
  pub answers : AnswersLine (begin_of before.history) before.history.entries line reply added
  pub begin : begin_of after.history ≡ begin_of before.history
  pub entries : after.history.entries ≡ before.history.entries ++ entries_of added
  pub number : after.number ≡ next_number before.number
  pub told : text ≡ told_text before.number (begin_of before.history) before.history.entries line reply added

-- So it is unless memory was refused for a scene, or the line is too long.
abbrev pub TellsLine : Telling → List ℕ → List ℕ → Telling → Type 0
TellsLine before line text after =
    (before.lost ≡ false) × ((after.lost ≡ true) ⊎ ((after.lost ≡ false) × (length line ≤ LONGEST_LINE → IsTold before line text after)))
