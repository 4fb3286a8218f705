-- Files whose lines tell the entries of one history.
use Rattle.std.specs.Prelude.{◌≡◌, ◌≤◌, ℕ, List, length, slice_get, Some}
use Rattle.rbc_journal.specs.Journal.{recovered}

-- each line tells the entry at its place
abbrev pub AreTold : (ℕ → List ℕ → Type 0) → List (List ℕ) → Type 0
AreTold tells lines = (place : ℕ) (line : List ℕ) → slice_get lines place ≡ Some line → tells place line

-- A file that stands for lines each of which tells the entry at its place, at least the number given: the first entries, and none is skipped.
pub record HasLines (tells : ℕ → List ℕ → Type 0) (least : ℕ) (file : List ℕ) : Type 0 where
  pub enough : least ≤ length (recovered file)
  pub told : AreTold tells (recovered file)
