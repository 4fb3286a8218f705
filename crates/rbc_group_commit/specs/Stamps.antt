-- What a crash leaves since a stamp.
use Rattle.std.specs.Prelude.{◌≡◌, ◌≤◌, ℕ, List, length, slice_get, Some}
use Rattle.rbc_journal.specs.Journal.{recovered}
use Rattle.rbc_journal.specs.declared.journal.Journal.{Journal}
use Rattle.rbc_group_commit.specs.Told.{HasLines}
use Rattle.rbc_group_commit.specs.declared.stamp.Stamp.{Stamp}

-- a journal at this moment, and how many lines its file stands for
abbrev pub stamp_of : {D : Type 0} → (D → List ℕ) → (D → ℕ) → Journal D → Stamp
stamp_of seen moment journal = record { moment = moment journal.device; lines = length (recovered (seen journal.device)) }

-- A crash at any moment since the stamp, during a call or between two, left a file with the stamp's lines at least, each of which tells its entry.
pub record Lasts {D : Type 0} (moment : D → ℕ) (left_since : D → ℕ → List ℕ → Type 0) (tells : ℕ → List ℕ → Type 0) (device : D) (stamp : Stamp) : Type 0 where
  pub past : stamp.moment ≤ moment device
  pub leaves : (file : List ℕ) → left_since device stamp.moment file → HasLines tells stamp.lines file

-- so does each of these stamps
abbrev pub EachLasts : {D : Type 0} → (D → ℕ) → (D → ℕ → List ℕ → Type 0) → (ℕ → List ℕ → Type 0) → D → List Stamp → Type 0
EachLasts moment left_since tells device stamps = (at : ℕ) (stamp : Stamp) → slice_get stamps at ≡ Some stamp → Lasts moment left_since tells device stamp
