-- The stamps of a journal: the last one, and how many lines they stand for.
use Rattle.std.specs.Prelude.{ℕ, ◌≡◌, ◌<◌, List, [], ◌∷◌, slice_get, Some}
use Rattle.rbc_group_commit.specs.declared.stamp.Stamp.{Stamp}

-- the last of these stamps
abbrev pub last_of : Stamp → List Stamp → Stamp
last_of first [] = first
last_of first (next ∷ more) = last_of next more

-- before there is any
abbrev pub no_stamp : Stamp
no_stamp = record { moment = 0; lines = 0 }

abbrev pub latest : List Stamp → Stamp
latest stamps = last_of no_stamp stamps

-- By one of these stamps the line of this place is on the disk, counted from 0.
pub record HasLine (stamps : List Stamp) (place : ℕ) : Type 0 where
  pub at : ℕ
  pub stamp : Stamp
  pub given : slice_get stamps at ≡ Some stamp
  pub more : place < stamp.lines
