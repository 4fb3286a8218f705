-- A file at rest as the input of a session.
use Rattle.std.specs.Prelude.{◌≡◌, ℕ, List, [], ◌∷◌, ◌++◌, map, All, if◌then◌else◌, ◌==◌}
use Rattle.rbc_journal.specs.Gates.{IsLine, at_rest}

-- a byte in front of the first line
abbrev pub with_front : ℕ → List (List ℕ) → List (List ℕ)
with_front byte [] = (byte ∷ []) ∷ []
with_front byte (line ∷ lines) = (byte ∷ line) ∷ lines

-- the lines of some bytes: each ends with a line feed (10), the last one perhaps with the input, if it isn't empty
abbrev pub lines_of : List ℕ → List (List ℕ)
lines_of [] = []
lines_of (byte ∷ bytes) = if byte == 10 then [] ∷ lines_of bytes else with_front byte (lines_of bytes)

-- The lines of a file at rest are those that it stands for, each behind a space, and then a comment.
abbrev pub FilesAtRestAreSessions : Type 0
FilesAtRestAreSessions = (lines : List (List ℕ)) → All IsLine lines → lines_of (at_rest lines) ≡ map (λ line. 32 ∷ line) lines ++ (35 ∷ []) ∷ []
