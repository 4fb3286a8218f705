-- A session whose record is kept in a journal.
use Rattle.std.specs.Prelude.{◌≡◌, ◌<◌, ◌≤◌, ◌+◌, ℕ, List, ◌++◌, length, take, slice_get, Option, Some, Result, Ok, Err}
use Rattle.rbc_model.specs.declared.limits.TheConstants.{MOST_LINES}
use Rattle.rbc_model.specs.Sessions.{lines_of, WritesPart}
use Rattle.rbc_model.specs.Histories.{Beginning, Entry}
use Rattle.rbc_session_laws.specs.Turns.{AnswersLine}
use Rattle.rbc_session_laws.specs.SessionRuns.{Turn, entries_added, lines_treated, replies_to, IsSession}
use Rattle.rbc_journaled.specs.Adds.{Adds}
use Rattle.rbc_journaled.specs.Journaled.{IsBetween}
use Rattle.rbc_journaled.specs.declared.fault.RunFault.{RunFault}
use Rattle.rbc_journaled.specs.declared.journaled_record.TheConstants.{MOST_TOGETHER}
use Rattle.rbc_journaled.specs.declared.fault.RunFault.TheVariants.{Session, Journal}

-- A session over this input, from these entries to those, that the journal ended, where a crash from then on leaves such files. Its first lines were treated, each
-- after the entries of those before it. All that they added is on the disk, and what was written is made of the replies to them. So were the next lines, at most 64,
-- but these have no reply.
pub record IsCutShort (begin : Beginning) (before after : List Entry) (input : List ℕ) (old new : Option (List ℕ)) (left : List ℕ → Type 0) : Type 0 where
  pub turns : List Turn
  pub lost : List Turn
  pub rest : List (List ℕ)
  pub lines : lines_of input ≡ lines_treated turns ++ (lines_treated lost ++ rest)
  pub few : length turns + length lost ≤ MOST_LINES
  pub some_lost : 0 < length lost
  pub few_lost : length lost ≤ MOST_TOGETHER
  pub each : (place : ℕ) (turn : Turn) → slice_get turns place ≡ Some turn
      → AnswersLine begin (before ++ entries_added (take place turns)) turn.line turn.reply turn.added
  pub each_lost : (place : ℕ) (turn : Turn) → slice_get lost place ≡ Some turn
      → AnswersLine begin ((before ++ entries_added turns) ++ entries_added (take place lost)) turn.line turn.reply turn.added
  pub entries : after ≡ (before ++ entries_added turns) ++ entries_added lost
  pub written : WritesPart old new (replies_to turns)
  pub on_disk : (c : List ℕ) → left c → IsBetween (Adds begin) (before ++ entries_added turns) after c

-- A session that ended so: as one without a journal, or cut short by it.
abbrev pub IsKeptSession : Beginning → List Entry → List Entry → List ℕ → Option (List ℕ) → Option (List ℕ) → (List ℕ → Type 0) → Result (Unit {0}) RunFault → Type 0
IsKeptSession begin before after input old new left (Ok done) = IsSession begin before after input old new (Ok done)
IsKeptSession begin before after input old new left (Err (Session fault)) = IsSession begin before after input old new (Err fault)
IsKeptSession begin before after input old new left (Err Journal) = IsCutShort begin before after input old new left
