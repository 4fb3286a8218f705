-- Tables of prices that are held row by row.
use Rattle.std.specs.Prelude.{◌≡◌, ℕ, ◌≤◌, List, Some, length, map, slice_get}
use Rattle.std.specs.Global.{Vec}

-- the prices that rows hold
abbrev pub prices_of : List (Vec ℕ) → List (List ℕ)
prices_of rows = map (λ row. row.items) rows

-- each row has `width` prices
abbrev pub AreWide : ℕ → List (Vec ℕ) → Type 0
AreWide width rows = (j : ℕ) (row : Vec ℕ) → slice_get rows j ≡ Some row → length row.items ≡ width

-- The rows are equally wide, and at least so wide.
pub record AreAsWideAs (least : ℕ) (rows : List (Vec ℕ)) : Type 0 where
  pub width : ℕ
  pub wide : AreWide width rows
  pub room : least ≤ width
