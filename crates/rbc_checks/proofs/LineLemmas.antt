-- What is read of the words that are left, with what was read before them in front.
use Rattle.std.proofs.Common.{ℕ, List, ◌++◌, Option, ℤ}
use Rattle.std.specs.Option.{option_map}

-- steps in front of a profile's steps
abbrev pub with_steps : List (ℕ × ℤ) → Option (List (ℕ × ℤ) × ℕ) → Option (List (ℕ × ℤ) × ℕ)
with_steps front read = option_map (λ r. (front ++ r.0, r.1)) read

-- numbers, or rows, in front of others
abbrev pub with_front : {A : Type 0} → List A → Option (List A) → Option (List A)
with_front front read = option_map (λ rest. front ++ rest) read
