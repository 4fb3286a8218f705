-- The mark of the lines with which a journal begins.
use Rattle.std.specs.Prelude.{ℕ, Bool, false, List, [], ◌∷◌, ◌++◌, length, take, codes, Option, Some, None, bytes_eq}
use Rattle.rbc_journal.specs.Headers.{behind_mark}

-- behind this mark each of a beginning's lines stands
abbrev pub mark : List ℕ
mark = codes "##"

-- such a line
abbrev pub marked : List ℕ → List ℕ
marked line = mark ++ line

-- a line behind its mark, if it has one, and what follows it
abbrev pub with_marked : Option (List ℕ) → List (List ℕ) → List (List ℕ)
with_marked None rest = []
with_marked (Some line) rest = line ∷ rest

-- the marked lines with which lines begin, each without its mark
abbrev pub marked_front : List (List ℕ) → List (List ℕ)
marked_front [] = []
marked_front (line ∷ lines) = with_marked (behind_mark mark line) (marked_front lines)

-- whether the first of some lines is a marked one
abbrev pub begins_marked : List (List ℕ) → Bool
begins_marked [] = false
begins_marked (line ∷ lines) = bytes_eq (take (length mark) line) mark
