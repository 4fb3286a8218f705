-- Levels as words of a line.
use Rattle.std.specs.Prelude.{ℕ, List, Option, Some, None, if◌then◌else◌}
use Rattle.std.specs.Option.{option_and_then}
use Rattle.rbc_model.specs.Kinds.{Kind}

-- the value that a word writes, if it is in range
abbrev pub value_in : {V : Type 0} → Kind V → List ℕ → Option V
value_in kind word = option_and_then (λ value. if kind.levels.in_range value then Some value else None) (kind.read word)
