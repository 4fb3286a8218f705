-- A journal between two calls.
use Rattle.std.specs.Prelude.{◌≡◌, ℕ, ◌+◌, ◌^◌, ◌<◌, ◌≤◌, List, length, All, vec_len, vec_capacity}
use Rattle.rbc_journal.specs.Device.{Only}
use Rattle.rbc_journal.specs.Gates.{counted, text, at_rest, behind, staged_in}
use Rattle.rbc_journal.specs.Seals.{AreSealed}
use Rattle.rbc_journal.specs.Journal.{told_of, IsPutLine}
use Rattle.rbc_journal.specs.declared.journal.Journal.{Journal}
use Rattle.rbc_journal.specs.declared.fault.JournalFault.{JournalFault}
use Rattle.rbc_journal.specs.declared.fault.JournalFault.TheVariants.{Memory, Full, Device as File}

-- all lines that are staged, and not yet in the file: lines that are told, and the notes behind them
abbrev pub staged_lines : {D : Type 0} → Journal D → List (List ℕ)
staged_lines journal = staged_in journal.pending.items

-- the staged lines that are told
abbrev pub staged : {D : Type 0} → Journal D → List (List ℕ)
staged journal = told_of (staged_lines journal)

-- there is room behind the staged lines for that of their seal, with its gate and its line feed
pub record SealFits {D : Type 0} (journal : Journal D) : Type 0 where
  pub memory : vec_len journal.pending + 20 ≤ vec_capacity journal.pending
  pub file : journal.gate + vec_len journal.pending + 20 ≤ 2 ^ 60

-- The file is at rest, all of it on the disk, its lines stand in whole puts, and the staged lines wait to be written behind its closed gate.
pub record IsSettled {D : Type 0} (seen : D → List ℕ) (may_leave : D → List ℕ → Type 0) (journal : Journal D) : Type 0 where
  pub file : seen journal.device ≡ at_rest (counted (seen journal.device))
  pub are_sealed : AreSealed (counted (seen journal.device)) journal.seal
  pub gate : journal.gate ≡ length (text (counted (seen journal.device)))
  pub durable : Only (seen journal.device) (may_leave journal.device)
  pub waiting : journal.pending.items ≡ behind (staged_lines journal)
  pub put : All IsPutLine (staged_lines journal)
  pub fits : journal.gate + vec_len journal.pending ≤ 2 ^ 60
  pub seal_fits : 0 < length journal.pending.items → SealFits journal

-- there is room to stage a line of this many bytes, and for the seal behind it
pub record HasRoom {D : Type 0} (journal : Journal D) (bytes : ℕ) : Type 0 where
  pub memory : vec_len journal.pending + bytes + 22 ≤ vec_capacity journal.pending
  pub file : journal.gate + vec_len journal.pending + bytes + 22 ≤ 2 ^ 60

-- A file at rest, its closed gate where it is said to be, all of it on the disk; and these bytes are what is to be written behind the gate.
pub record Waits {D : Type 0} (seen : D → List ℕ) (may_leave : D → List ℕ → Type 0) (device : D) (gate : ℕ) (bytes : List ℕ) : Type 0 where
  pub file : seen device ≡ at_rest (counted (seen device))
  pub at : gate ≡ length (text (counted (seen device)))
  pub durable : Only (seen device) (may_leave device)
  pub waiting : bytes ≡ behind (staged_in bytes)
  pub some : 0 < length bytes

-- why a file is not opened: the disk has failed, or the file is too long
abbrev pub HasCause : ℕ → ℕ → List ℕ → JournalFault → Type 0
HasCause before now text Memory = ⊥
HasCause before now text Full = 2 ^ 60 < length text + 1
HasCause before now text File = before < now
