-- What a line makes of a record and its journal.
use Rattle.std.specs.Prelude.{◌≡◌, ◌<◌, ◌≤◌, ◌+◌, ◌⊎◌, ℕ, Bool, List, [], ◌++◌, length, true, false, Result, OnErr}
use Rattle.rbc_journal.specs.Device.{LeavesOnly}
use Rattle.rbc_journal.specs.Journal.{recovered, IsBeforeOrAfter}
use Rattle.rbc_journal.specs.Settled.{IsSettled, staged}
use Rattle.rbc_model.specs.SessionText.{parse_session}
use Rattle.rbc_sessions.specs.Changes.{Goes}
use Rattle.rbc_sessions.specs.Records.{begin_of, HistoryOnTrack}
use Rattle.rbc_journaled.specs.Adds.{Adds}
use Rattle.rbc_journaled.specs.Journaled.{IsFrom, IsBetween, IsGoing}
use Rattle.rbc_journaled.specs.declared.journaled_record.JournaledRecord.{JournaledRecord}
use Rattle.rbc_journaled.specs.declared.journaled_record.TheConstants.{MOST_TOGETHER}

-- ---- the reply to a line

-- It is held back behind those that rested before it.
abbrev pub Holds : {D : Type 0} → JournaledRecord D → List ℕ → JournaledRecord D → Type 0
Holds before reply after = (after.replies.bytes.items ≡ before.replies.bytes.items ++ reply) × (after.batch ≡ before.batch + 1)

-- It rests so, and nothing is written.
pub record Rests {D : Type 0} (before : JournaledRecord D) (reply text : List ℕ) (after : JournaledRecord D) : Type 0 where
  pub silent : text ≡ []
  pub device : after.journal.device ≡ before.journal.device
  pub holds : Holds before reply after

-- It is written behind those that rested.
pub record Writes {D : Type 0} (before : JournaledRecord D) (reply text : List ℕ) (after : JournaledRecord D) : Type 0 where
  pub text_is : text ≡ before.replies.bytes.items ++ reply
  pub none_held : after.replies.bytes.items ≡ []
  pub none_rests : after.batch ≡ 0

-- A reply rests only where a further line has been read, and not behind a fault.
abbrev pub RestsOnly : {D E : Type 0} → Bool → Result (Unit {0}) E → JournaledRecord D → Type 0
RestsOnly more result kept = (more ≡ false → kept.batch ≡ 0) × OnErr result (kept.batch ≡ 0)

-- ---- a line

module _ {D : Type 0} (seen : D → List ℕ) (may_leave : D → List ℕ → Type 0) (moment : D → ℕ) (left_since : D → ℕ → List ℕ → Type 0) (faults : D → ℕ) where
  -- A crash at any moment between leaves a file that stands for the entries from before, or for some of those that came since too.
  abbrev pub Leaves : JournaledRecord D → JournaledRecord D → Type 0
  Leaves before after = LeavesOnly moment left_since before.journal.device after.journal.device (IsBetween (Adds (begin_of before.history)) before.history.entries after.history.entries)

  -- A crash at any moment between leaves a file that stands for the entries that were on the disk before, or for some of those that came since too.
  abbrev pub LeavesWritten : JournaledRecord D → JournaledRecord D → Type 0
  LeavesWritten before after =
      LeavesOnly moment left_since before.journal.device after.journal.device (IsFrom (Adds (begin_of before.history)) (length (recovered (seen before.journal.device))) after.history.entries)

  -- The reply to a line, whose entry is staged, rests; or all lines that are staged are put, and then the reply is written behind those that rested. Where the
  -- journal failed instead, nothing is written.
  pub record IsSaid (before : JournaledRecord D) (reply text : List ℕ) (after : JournaledRecord D) : Type 0 where
    pub history : after.history ≡ before.history
    pub settled : after.has_failed ≡ false → IsSettled seen may_leave after.journal × (after.replies.failed ≡ false)
    pub said : after.has_failed ≡ false
        → (Rests before reply text after × (staged after.journal ≡ staged before.journal) × (after.batch < MOST_TOGETHER))
        ⊎ (Writes before reply text after × (recovered (seen after.journal.device) ≡ recovered (seen before.journal.device) ++ staged before.journal) × (staged after.journal ≡ []))
    pub unsaid : after.has_failed ≡ true → (text ≡ []) × (faults before.journal.device < faults after.journal.device)
    pub any_moment : LeavesOnly moment left_since before.journal.device after.journal.device (IsBeforeOrAfter (recovered (seen before.journal.device)) (staged before.journal))
    pub later : faults before.journal.device ≤ faults after.journal.device

  -- The line is answered as by the record alone, by a reply that rests, or that is written behind those that rested. Where the journal failed instead, nothing
  -- is written.
  pub record Advances (before : JournaledRecord D) (line text : List ℕ) (after : JournaledRecord D) : Type 0 where
    pub going : IsGoing seen may_leave before
    pub answered : after.has_failed ≡ false
        → (reply : List ℕ) × Goes before.history line reply after.history × IsGoing seen may_leave after × (Rests before reply text after ⊎ Writes before reply text after)
    pub unanswered : after.has_failed ≡ true → (text ≡ []) × (said : List ℕ) × Goes before.history line said after.history × (faults before.journal.device < faults after.journal.device)
    pub any_moment : LeavesWritten before after
    pub stays : after.has_failed ≡ false → length (recovered (seen before.journal.device)) ≤ length (recovered (seen after.journal.device))
    pub later : faults before.journal.device ≤ faults after.journal.device

  pub goes_on : (before after : JournaledRecord D) (line text : List ℕ) → Advances before line text after → after.has_failed ≡ false → IsGoing seen may_leave after
  goes_on before after line text advances whole = (advances.answered whole).2

-- The line is answered so, and this text says the same as it.
pub record IsTreated (first now : HistoryOnTrack) (line text said : List ℕ) : Type 0 where
  pub goes : Goes first line said now
  pub says : parse_session text ≡ parse_session line
