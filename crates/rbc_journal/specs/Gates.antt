-- What a journal file stands for. A line stands in it as a gate, its bytes, and a line feed (10). A space (32) is an open gate; a line with any
-- other byte at its gate does not count, nor does what stands behind it. At rest the file ends with a closed gate, a `#` (35).
use Rattle.std.specs.Prelude.{◌≡◌, ◌≢◌, ◌⊎◌, ℕ, List, [], ◌∷◌, ◌++◌, All, Option, Some, None, if◌then◌else◌, ◌==◌}

-- ---- the file

-- The lines that count, from a gate on, or from inside a line of which these bytes were read.
abbrev pub lines_from : Option (List ℕ) → List ℕ → List (List ℕ)
lines_from None [] = []
lines_from None (gate ∷ rest) = if gate == 32 then lines_from (Some []) rest else []
lines_from (Some line) [] = []
lines_from (Some line) (byte ∷ rest) = if byte == 10 then line ∷ lines_from None rest else lines_from (Some (line ++ byte ∷ [])) rest

-- the lines that a file stands for, whatever a crash made of it
abbrev pub counted : List ℕ → List (List ℕ)
counted file = lines_from None file

-- a line has no line feed
abbrev pub IsLine : List ℕ → Type 0
IsLine line = All (λ byte. byte ≢ 10) line

-- lines, each behind an open gate
abbrev pub text : List (List ℕ) → List ℕ
text [] = []
text (line ∷ lines) = 32 ∷ line ++ 10 ∷ text lines

-- such lines, and then a closed gate
abbrev pub at_rest : List (List ℕ) → List ℕ
at_rest lines = text lines ++ 35 ∷ []

-- what is written behind a closed gate for such lines: they at rest, without the first gate
abbrev pub behind : List (List ℕ) → List ℕ
behind [] = []
behind (line ∷ lines) = line ++ 10 ∷ at_rest lines

-- the lines that such bytes are for
abbrev pub staged_in : List ℕ → List (List ℕ)
staged_in pending = counted (32 ∷ pending)

-- the file stands for these lines, with all of those behind them or with none
abbrev pub CountsBeforeOrAfter : List (List ℕ) → List (List ℕ) → List ℕ → Type 0
CountsBeforeOrAfter lines more file = (counted file ≡ lines) ⊎ (counted file ≡ lines ++ more)
