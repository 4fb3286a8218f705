-- A profile beside its track, metre by metre.
use Rattle.std.specs.Prelude.{◌≡◌, ℕ, ◌<◌, false, List, Option, Some, None, IsTrue}
use Rattle.rbc_model.specs.Levels.{Levels}
use Rattle.rbc_model.specs.Profiles.{value_at, is_within}

module _ {V : Type 0} (levels : Levels V) (runs steps : List (ℕ × V)) where
  -- the steps are above the runs at none of the first n metres
  abbrev pub AreWithin : ℕ → Type 0
  AreWithin n = (x : ℕ) → x < n → IsTrue (is_within levels (value_at runs x) (value_at steps x))

  -- The metre is the first of these n at which they are above, where there is one.
  abbrev pub IsFirstAbove : ℕ → Option ℕ → Type 0
  IsFirstAbove n None = AreWithin n
  IsFirstAbove n (Some x) = (x < n) × (is_within levels (value_at runs x) (value_at steps x) ≡ false) × AreWithin x
