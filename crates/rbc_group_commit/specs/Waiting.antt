-- The lines that wait to be written, each in the slot of its place.
use Rattle.std.specs.Prelude.{◌≡◌, ◌%◌, ℕ, List, Option, Some, slice_get}
use Rattle.rbc_group_commit.specs.Marks.{latest}
use Rattle.rbc_group_commit.specs.declared.stamp.Stamp.{Stamp}
use Rattle.rbc_group_commit.specs.declared.waiting_lines.TheConstants.{MOST_WAITING}

-- the line of this place lies in none of these slots
abbrev pub Lacks : List (Option ℕ) → ℕ → Type 0
Lacks slots place = (at : ℕ) → slice_get slots at ≡ Some (Some place) → ⊥

-- each line lies in the slot of its place: the slots are a ring
abbrev pub AreInPlace : List (Option ℕ) → Type 0
AreInPlace slots = (at place : ℕ) → slice_get slots at ≡ Some (Some place) → at ≡ place % MOST_WAITING

-- the place of the line behind those that are on the disk, by these stamps
abbrev pub next_place : List Stamp → ℕ
next_place stamps = (latest stamps).lines
