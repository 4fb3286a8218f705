-- What is printed once the port is open.
use Rattle.std.specs.Prelude.{ℕ, List, [], ◌∷◌, codes, decimal}
use Rattle.rbc_model.specs.Words.{line_of}

abbrev pub listening_line : ℕ → List ℕ
listening_line port = line_of (codes "listening" ∷ decimal port ∷ [])
