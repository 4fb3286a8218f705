-- A history and its journal.
use Rattle.std.specs.Prelude.{◌≡◌, ◌<◌, ◌≤◌, ℕ, List, [], ◌++◌, length, take, false}
use Rattle.rbc_journal.specs.Journal.{recovered}
use Rattle.rbc_journal.specs.Settled.{IsSettled, staged}
use Rattle.rbc_journal.specs.declared.journal.Journal.{Journal}
use Rattle.rbc_sessions.specs.Records.{begin_of, HistoryOnTrack}
use Rattle.rbc_journaled.specs.Tells.{Tells}
use Rattle.rbc_journaled.specs.Adds.{Adds}
use Rattle.rbc_journaled.specs.declared.journaled_record.JournaledRecord.{JournaledRecord}
use Rattle.rbc_journaled.specs.declared.journaled_record.TheConstants.{MOST_TOGETHER}

-- a file stands for these entries
abbrev pub StandsFor : {Entry : Type 0} → (List Entry → List ℕ → Entry → Type 0) → List ℕ → List Entry → Type 0
StandsFor adds file entries = Tells adds [] (recovered file) entries

-- a file stands for the first n of these entries, n being at least the number given
abbrev pub IsFrom : {Entry : Type 0} → (List Entry → List ℕ → Entry → Type 0) → ℕ → List Entry → List ℕ → Type 0
IsFrom adds least entries file = (n : ℕ) × (least ≤ n) × (n ≤ length entries) × StandsFor adds file (take n entries)

-- a file stands for the first n entries of the later history, n being at least the number of the earlier ones
abbrev pub IsBetween : {Entry : Type 0} → (List Entry → List ℕ → Entry → Type 0) → List Entry → List Entry → List ℕ → Type 0
IsBetween adds before after file = IsFrom adds (length before) after file

-- All of the journal is on the disk, nothing waits to be written, and the file stands for the history.
pub record IsKept {D : Type 0} (seen : D → List ℕ) (may_leave : D → List ℕ → Type 0) (history : HistoryOnTrack) (journal : Journal D) : Type 0 where
  pub settled : IsSettled seen may_leave journal
  pub none_waits : staged journal ≡ []
  pub told : StandsFor (Adds (begin_of history)) (seen journal.device) history.entries

-- The journal has not failed, and tells the record. No reply rests.
pub record IsReady {D : Type 0} (seen : D → List ℕ) (may_leave : D → List ℕ → Type 0) (kept : JournaledRecord D) : Type 0 where
  pub whole : kept.has_failed ≡ false
  pub is_kept : IsKept seen may_leave kept.history kept.journal
  pub none_rests : kept.batch ≡ 0
  pub none_held : kept.replies.bytes.items ≡ []
  pub holds : kept.replies.failed ≡ false

-- the file and the lines that are staged tell the record
abbrev pub TellsRecord : {D : Type 0} → (D → List ℕ) → JournaledRecord D → Type 0
TellsRecord seen kept = Tells (Adds (begin_of kept.history)) [] (recovered (seen kept.journal.device) ++ staged kept.journal) kept.history.entries

-- Between two lines of a session: the journal has not failed, and the file and the lines that are staged tell the record. Fewer replies rest than may, and
-- lines are staged only where one does.
pub record IsGoing {D : Type 0} (seen : D → List ℕ) (may_leave : D → List ℕ → Type 0) (kept : JournaledRecord D) : Type 0 where
  pub whole : kept.has_failed ≡ false
  pub settled : IsSettled seen may_leave kept.journal
  pub told : TellsRecord seen kept
  pub few : kept.batch < MOST_TOGETHER
  pub holds : kept.replies.failed ≡ false
  pub none_rests : kept.batch ≡ 0 → (staged kept.journal ≡ []) × (kept.replies.bytes.items ≡ [])
