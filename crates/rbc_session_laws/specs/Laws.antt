-- What sessions on a track in form answer, where memory is not refused.
use Rattle.std.specs.Prelude.{◌≡◌, ◌≢◌, ◌↔◌, ℕ, not, List, ◌++◌, Option, Some, Result, Ok, All, filter, bytes_eq, codes}
use Rattle.rbc_model.specs.declared.places.Format.TheVariants.{Far}
use Rattle.rbc_model.specs.declared.sessions.SessionFault.{SessionFault}
use Rattle.rbc_model.specs.Messages.{Authority, IsAuthority, message_bytes}
use Rattle.rbc_model.specs.Reading.{read_message}
use Rattle.rbc_model.specs.Sessions.{lines_of}
use Rattle.rbc_model.specs.Tracks.{Track}
use Rattle.rbc_model.specs.SoundTracks.{IsInForm}
use Rattle.rbc_model.specs.Scenes.{Scene}
use Rattle.rbc_model.specs.Views.{View, view}
use Rattle.rbc_model.specs.Histories.{Beginning, Entry, Grants}
use Rattle.rbc_model.specs.SessionReply.{Memory, refused_reply}
use Rattle.rbc_session_laws.specs.Turns.{IsGrantFor, AnswersLine}
use Rattle.rbc_session_laws.specs.SessionRuns.{Turn, entries_added, lines_treated, IsSession}
use Rattle.rbc_session_laws.specs.Answers.{grant_of, speed_prices_of, grade_prices_of, line_answer, turns_of, answers_of, entries_after}

-- what a train is granted is the one grant for what it is shown, with the one table of prices for each profile
pub record IsTheGrant (shown : View) (grant : Grants) (speed_rows grade_rows : List (List ℕ)) : Type 0 where
  pub granted : grant ≡ grant_of shown
  pub speeds : speed_rows ≡ speed_prices_of shown
  pub grades : grade_rows ≡ grade_prices_of shown

abbrev pub GrantsAreOne : Type 0
GrantsAreOne = (track : Track) (scene : Scene) (number : ℕ) (shown : View) (grant : Grants) (speed_rows grade_rows : List (List ℕ)) → IsInForm track
    → view track scene number ≡ Ok shown → IsGrantFor track scene number shown grant speed_rows grade_rows → IsTheGrant shown grant speed_rows grade_rows

-- A message can give an authority exactly where reading its message gives this authority. So what a train is granted is what its message is read as.
abbrev pub GrantsAreReadBack : Type 0
GrantsAreReadBack = (authority : Authority) → IsAuthority Far authority ↔ (read_message Far (message_bytes authority) ≡ Ok authority)

-- a line is answered so, unless memory was refused in its treatment
abbrev pub LinesAreAnswered : Type 0
LinesAreAnswered = (begin : Beginning) (before : List Entry) (line reply : List ℕ) (added : Option Entry) → IsInForm begin.track
    → AnswersLine begin before line reply added → reply ≢ refused_reply begin.track Memory
    → (let answer = line_answer begin before line in (reply ≡ answer.reply) × (added ≡ answer.added))

-- the turns in which memory was not refused
abbrev pub heard : Track → List Turn → List Turn
heard track turns = filter (λ turn. not (bytes_eq turn.reply (refused_reply track Memory))) turns

-- The turns in which memory was not refused are those that the function makes of their lines, and the others added nothing.
pub record AreAnswered (begin : Beginning) (before after : List Entry) (turns : List Turn) : Type 0 where
  pub turns_are : heard begin.track turns ≡ turns_of begin before (lines_treated (heard begin.track turns))
  pub entries : after ≡ before ++ entries_added (heard begin.track turns)

-- so it is in each session, however it ended
abbrev pub SessionsAreAnswered : Type 0
SessionsAreAnswered = (begin : Beginning) (before after : List Entry) (input : List ℕ) (old new : Option (List ℕ)) (result : Result (Unit {0}) SessionFault) → IsInForm begin.track
    → (session : IsSession begin before after input old new result) → AreAnswered begin before after session.turns

-- ---- told by the bytes that were written

-- no line of these bytes says that memory was refused
abbrev pub SaysNoMemory : List ℕ → Type 0
SaysNoMemory text = All (λ line. line ≢ codes "refused Memory") (lines_of text)

-- A session up to the end of its input that wrote no line `refused Memory` wrote what the function answers to the input, and left the entries that it adds.
abbrev pub WrittenIsAnswered : Type 0
WrittenIsAnswered = (begin : Beginning) (before after : List Entry) (input old text : List ℕ) → IsInForm begin.track
    → IsSession begin before after input (Some old) (Some (old ++ text)) (Ok tt) → SaysNoMemory text
    → (text ≡ answers_of begin before input) × (after ≡ entries_after begin before input)

-- So two such sessions over one track, from one record on and over one input wrote the same, and left the same entries.
abbrev pub SessionsAreOne : Type 0
SessionsAreOne = (begin : Beginning) (before after other_after : List Entry) (input old other_old text other : List ℕ) → IsInForm begin.track
    → IsSession begin before after input (Some old) (Some (old ++ text)) (Ok tt) → SaysNoMemory text
    → IsSession begin before other_after input (Some other_old) (Some (other_old ++ other)) (Ok tt) → SaysNoMemory other
    → (text ≡ other) × (after ≡ other_after)
