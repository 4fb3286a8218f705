-- Lines that ask for help at a terminal, and what is taken of an input for some bytes that the session is given.
use Rattle.std.specs.Prelude.{◌≡◌, ℕ, List, [], ◌∷◌, ◌++◌, Option, Some, None, All, codes}
use Rattle.std.specs.List.{concat}
use Rattle.std.specs.Io.KnownBytes.{Consumes}
use Rattle.rbc_model.specs.Words.{words_of, without_return}

-- one line, whose only word is `help`
abbrev pub AsksForHelp : List ℕ → Type 0
AsksForHelp piece = (line : List ℕ) × (piece ≡ line ++ 10 ∷ []) × (words_of (without_return line) ≡ codes "help" ∷ [])

-- these bytes are given, and nothing else is taken but lines before them that ask for help
abbrev pub Passes : Option (List ℕ) → Option (List ℕ) → List ℕ → Type 0
Passes old new given = (asked : List (List ℕ)) × All AsksForHelp asked × Consumes old new (concat asked ++ given)

-- what is known, where there is no terminal
abbrev pub unless_at : {A : Type 0} → Option A → Option (List ℕ) → Option (List ℕ)
unless_at None known = known
unless_at (Some terminal) known = None
