-- A whole session of the centre, line by line.
use Rattle.std.specs.Prelude.{◌≡◌, ℕ, ◌≤◌, List, [], ◌∷◌, ◌++◌, length, map, take, slice_get, Option, Some, None, Result}
use Rattle.std.specs.List.{flat_map}
use Rattle.rbc_model.specs.declared.limits.TheConstants.{LONGEST_LINE, MOST_LINES}
use Rattle.rbc_model.specs.declared.sessions.SessionFault.{SessionFault}
use Rattle.rbc_model.specs.Sessions.{lines_of}
use Rattle.rbc_model.specs.Talks.{Ends}
use Rattle.rbc_model.specs.Histories.{Beginning, Entry}
use Rattle.rbc_session_laws.specs.Turns.{AnswersLine}

-- A line that was treated, the reply to it, and the entry that it added, or none.
pub record Turn : Type 0 where
  pub line : List ℕ
  pub reply : List ℕ
  pub added : Option Entry

-- the entries that a turn, and turns in order, added
abbrev pub entries_of : Option Entry → List Entry
entries_of None = []
entries_of (Some entry) = entry ∷ []

abbrev pub entries_added : List Turn → List Entry
entries_added turns = flat_map (λ turn. entries_of turn.added) turns

-- the lines and the replies of turns
abbrev pub lines_treated : List Turn → List (List ℕ)
lines_treated turns = map (λ turn. turn.line) turns

abbrev pub replies_to : List Turn → List ℕ
replies_to turns = flat_map (λ turn. turn.reply) turns

-- A session over this input, from these entries to those, that ended so: its first lines were treated, each after the entries of those before it;
-- the entries that they added stand behind the old ones; and what was written is made of their replies.
pub record IsSession (begin : Beginning) (before after : List Entry) (input : List ℕ) (old new : Option (List ℕ)) (result : Result (Unit {0}) SessionFault) : Type 0 where
  pub turns : List Turn
  pub rest : List (List ℕ)
  pub lines : lines_of input ≡ lines_treated turns ++ rest
  pub few : length turns ≤ MOST_LINES
  pub each : (place : ℕ) (turn : Turn) → slice_get turns place ≡ Some turn
      → AnswersLine begin (before ++ entries_added (take place turns)) turn.line turn.reply turn.added
  pub entries : after ≡ before ++ entries_added turns
  pub ends : Ends LONGEST_LINE input old new (lines_treated turns) rest (replies_to turns) result
