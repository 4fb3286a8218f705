-- What the prices of a kind of level may allow, beyond the laws of levels.
use Rattle.std.specs.Prelude.{ℕ, ◌≤◌}
use Rattle.rbc_model.specs.Levels.{Levels, IsInRange, IsAtMost}

module _ {V : Type 0} (levels : Levels V) where
  -- no price is above this one
  abbrev pub ArePricesAtMost : ℕ → Type 0
  ArePricesAtMost most = (v given : V) → IsInRange levels v → IsInRange levels given → IsAtMost levels given v → levels.price v given ≤ most
