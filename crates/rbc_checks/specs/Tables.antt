-- Steps that are held, as the definitions have them.
use Rattle.std.specs.Prelude.{ℕ, if◌then◌else◌, List, Option, Some, None, option_and_then, ℤ}
use Rattle.std.specs.Global.{Vec}
use Rattle.rbc_model.specs.Levels.{Levels}

-- the value of a kind that a number is, if it is in range
abbrev pub value_in : {V : Type 0} → Levels V → (ℤ → Option V) → ℤ → Option V
value_in levels value_of number = option_and_then (λ value. if levels.in_range value then Some value else None) (value_of number)

-- steps that are held
abbrev pub steps_view : {V : Type 0} → Vec (ℕ × V) → List (ℕ × V)
steps_view steps = steps.items
