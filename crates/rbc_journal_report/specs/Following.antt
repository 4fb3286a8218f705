-- A journal that is followed: what is written of it, look by look.
use Rattle.std.specs.Prelude.{◌≡◌, ℕ, Bool, true, false, List, [], length, take, drop, Option, Some, None, Result, Ok, Err, bytes_eq, if◌then◌else◌}
use Rattle.std.specs.Io.KnownBytes.{Appends}
use Rattle.rbc_journal.specs.Gates.{text}
use Rattle.rbc_journal.specs.Journal.{told_of}
use Rattle.rbc_journal.specs.declared.reading.ReadFault.{ReadFault}
use Rattle.rbc_journal.specs.declared.reading.ReadFault.TheVariants.{Damaged}
use Rattle.rbc_journal_report.specs.Telling.{Telling, text_of}
use Rattle.rbc_journal_report.specs.declared.telling.FileState.{FileState}
use Rattle.rbc_journal_report.specs.declared.telling.FileState.TheVariants.{Whole, Cut, Damaged as DamagedAt}
use Rattle.rbc_journal_report.specs.declared.following.LookFailed.{LookFailed}
use Rattle.rbc_journal_report.specs.declared.following.LookFailed.TheVariants.{Unreadable, Memory}
use Rattle.rbc_journal_report.specs.declared.following.FollowFault.{FollowFault}
use Rattle.rbc_journal_report.specs.declared.following.FollowFault.TheVariants.{Unreadable as Unseen, Memory as NoMemory, Write}
use Rattle.rbc_journal_report.specs.declared.following.Doubt.{Doubt}
use Rattle.rbc_journal_report.specs.declared.following.Doubt.TheVariants.{Unread, Another}

-- ---- one look

-- the lines that a file tells, comments and seals among them, as far as right seals vouch for them
abbrev pub standing : Result Telling ReadFault → List (List ℕ)
standing (Ok told) = told.lines
standing (Err fault) = []

-- whether lines begin with those from before, gates and all
abbrev pub go_on : List (List ℕ) → List (List ℕ) → Bool
go_on before lines = bytes_eq (take (length (text before)) (text lines)) (text before)

-- the lines that are written by then: all that the file tells, if they begin with those from before
abbrev pub shown_after : List (List ℕ) → List (List ℕ) → List (List ℕ)
shown_after before lines = if go_on before lines then lines else before

-- what is written at this look
abbrev pub text_behind : List (List ℕ) → List (List ℕ) → List ℕ
text_behind before lines = if go_on before lines then text_of (told_of (drop (length before) lines)) else []

abbrev pub doubt_by : Bool → FileState → Option Doubt
doubt_by goes_on Whole = if goes_on then None else Some Another
doubt_by goes_on (Cut bytes) = if goes_on then None else Some Another
doubt_by goes_on (DamagedAt line) = Some (Unread (Damaged line))

-- why the file can't be followed, if it can't: it is no journal, is damaged, or does not go on from what was written
abbrev pub doubt_of : List (List ℕ) → Result Telling ReadFault → Option Doubt
doubt_of before (Ok told) = doubt_by (go_on before told.lines) told.state
doubt_of before (Err fault) = Some (Unread fault)

-- ---- all looks

-- All that the last look told is written, if that goes on from what was written before, and this is why it is followed no further.
pub record EndsIn (old new : Option (List ℕ)) (last : Result Telling ReadFault) (why : Doubt) : Type 0 where
  pub before : List (List ℕ)
  pub written : Appends old new (text_of (told_of (shown_after before (standing last))))
  pub is_why : doubt_of before last ≡ Some why

-- ---- faults

abbrev pub fault_of_look : LookFailed → FollowFault
fault_of_look Unreadable = Unseen
fault_of_look Memory = NoMemory

-- whether it was the writer that failed
abbrev pub is_write_fault : {X : Type 0} → Result X FollowFault → Bool
is_write_fault (Ok x) = false
is_write_fault (Err Unseen) = false
is_write_fault (Err NoMemory) = false
is_write_fault (Err Write) = true
