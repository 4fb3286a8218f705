-- A journal that is written for many.
use Rattle.std.specs.Prelude.{◌≡◌, ◌≤◌, ◌+◌, ◌++◌, ℕ, Bool, List, [], ◌∷◌, length, slice_get, Option, Some, None}
use Rattle.rbc_journal.specs.Journal.{recovered}
use Rattle.rbc_journal.specs.Settled.{IsSettled, staged}
use Rattle.rbc_journal.specs.declared.journal.Journal.{Journal}
use Rattle.rbc_group_commit.specs.Told.{AreTold}
use Rattle.rbc_group_commit.specs.Stamps.{Lasts}
use Rattle.rbc_group_commit.specs.declared.stamp.Stamp.{Stamp}

-- The file, what was told of the history, how many lines are on the disk, how many with those that are staged, whether the journal has failed, and how many
-- bytes there is room for in the put.
pub record PageOf (D T : Type 0) : Type 0 where
  pub device : D
  pub told : T
  pub lines : ℕ
  pub next : ℕ
  pub has_failed : Bool
  pub room : ℕ

abbrev pub page_of : {D T : Type 0} → D → T → ℕ → ℕ → Bool → ℕ → PageOf D T
page_of device told lines next has_failed room = record { device = device; told = told; lines = lines; next = next; has_failed = has_failed; room = room }

-- a line, and the note behind it, if there is one
abbrev pub with_note : List ℕ → Option (List ℕ) → List (List ℕ)
with_note line None = line ∷ []
with_note line (Some note) = line ∷ note ∷ []

module _ {D : Type 0} (seen : D → List ℕ) (may_leave : D → List ℕ → Type 0) where
  -- The journal is settled. Its file has the first number of lines, and with the staged ones there are the second. Each tells the entry at its place.
  pub record IsWhole (tells : ℕ → List ℕ → Type 0) (journal : Journal D) (lines next : ℕ) : Type 0 where
    pub settled : IsSettled seen may_leave journal
    pub count : lines ≡ length (recovered (seen journal.device))
    pub counts_staged : next ≡ lines + length (staged journal)
    pub told : AreTold tells (recovered (seen journal.device) ++ staged journal)

module _ {D : Type 0} (moment : D → ℕ) (left_since : D → ℕ → List ℕ → Type 0) where
  -- each of these stamps has at most this number of lines, and lasts
  abbrev pub AllLast : (ℕ → List ℕ → Type 0) → D → ℕ → List Stamp → Type 0
  AllLast tells device lines stamps =
      (place : ℕ) (stamp : Stamp) → slice_get stamps place ≡ Some stamp → (stamp.lines ≤ lines) × Lasts moment left_since tells device stamp
