-- Steps run the other way.
use Rattle.std.specs.Prelude.{ℕ, ◌-◌, List, [], ◌∷◌, ◌++◌}

-- where the first step starts, or the end if there is none
abbrev pub start_or : {V : Type 0} → ℕ → List (ℕ × V) → ℕ
start_or n [] = n
start_or n (s ∷ later) = s.0

-- the steps run the other way: each starts where it stopped, counted from the end
abbrev pub mirrored : {V : Type 0} → ℕ → List (ℕ × V) → List (ℕ × V)
mirrored n [] = []
mirrored n (s ∷ later) = mirrored n later ++ (n - start_or n later, s.1) ∷ []
