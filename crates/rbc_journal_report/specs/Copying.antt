-- New journals with lines of an old one.
use Rattle.std.specs.Prelude.{◌≡◌, ℕ, Bool, true, List, [], ◌++◌, Option, Some, None, Result, Ok, Err, nat_le, bytes_eq, if◌then◌else◌}
use Rattle.rbc_journal.specs.Beginnings.{beginning_of}
use Rattle.rbc_journal.specs.Gates.{counted}
use Rattle.rbc_journal.specs.Journal.{recovered}
use Rattle.rbc_journal.specs.Settled.{IsSettled, staged}
use Rattle.rbc_journal.specs.declared.journal.Journal.{Journal}
use Rattle.rbc_journal.specs.declared.reading.ReadFault.{ReadFault}
use Rattle.rbc_journal.specs.declared.reading.ReadFault.TheVariants.{Damaged, OtherTrack}
use Rattle.rbc_journal_report.specs.Telling.{Telling, named_in}
use Rattle.rbc_journal_report.specs.declared.telling.FileState.{FileState}
use Rattle.rbc_journal_report.specs.declared.telling.FileState.TheVariants.{Whole, Cut, Damaged as DamagedAt}

-- The journal is on the disk, and a crash at any later moment leaves a file that tells these lines.
pub record Tells {D : Type 0} (seen : D → List ℕ) (may_leave : D → List ℕ → Type 0) (journal : Journal D) (lines : List (List ℕ)) : Type 0 where
  pub settled : IsSettled seen may_leave journal
  pub told : recovered (seen journal.device) ≡ lines
  pub none_staged : staged journal ≡ []

-- the lines of a journal, with those that are staged
abbrev pub all_lines : {D : Type 0} → (D → List ℕ) → Journal D → List (List ℕ)
all_lines seen journal = recovered (seen journal.device) ++ staged journal

-- what the file of a journal begins with
abbrev pub begins_with : {D : Type 0} → (D → List ℕ) → Journal D → List (List ℕ)
begins_with seen journal = beginning_of (counted (seen journal.device))

-- The first damaged line, where it stands in the header or in the put behind it: then it isn't known what the journal begins with.
abbrev pub damage_in_front : FileState → Option ℕ
damage_in_front (DamagedAt line) = if nat_le line 4 then Some line else None
damage_in_front Whole = None
damage_in_front (Cut bytes) = None

-- whether a digest is the one that is given, if one is
abbrev pub is_of : List ℕ → Option (List ℕ) → Bool
is_of own None = true
is_of own (Some given) = bytes_eq given own

abbrev pub refusal_by : Option (List ℕ) → Option (List ℕ) → Option ℕ → Option ReadFault
refusal_by given None damage = Some (Damaged 1)
refusal_by given (Some own) (Some line) = Some (Damaged line)
refusal_by given (Some own) None = if is_of own given then None else Some (OtherTrack own)

-- why nothing is taken over from a file beside the digest that is given, if nothing is
abbrev pub refusal : Option (List ℕ) → Result Telling ReadFault → Option ReadFault
refusal given (Ok told) = refusal_by given (named_in told.lines) (damage_in_front told.state)
refusal given (Err fault) = Some fault
