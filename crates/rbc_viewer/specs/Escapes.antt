-- Text within a page of HTML: none of it can end the place where it stands, or begin a line that is not one of its own.
use Rattle.std.specs.Prelude.{◌≡◌, ℕ, zero, suc, Bool, true, not, ◌&&◌, List, [], ◌∷◌, ◌==◌, if◌then◌else◌, take, flat_map, codes, bytes_eq}
use Rattle.std.specs.List.{list_all}

-- what is written for a byte: `&` (38), `<` (60), `>` (62) and the carriage return (13) are named, and each other byte stands for itself
abbrev pub escape : ℕ → List ℕ
escape byte =
    if byte == 38 then codes "&amp;"
    else if byte == 60 then codes "&lt;"
    else if byte == 62 then codes "&gt;"
    else if byte == 13 then codes "&#13;"
    else byte ∷ []

-- what is written for a text
abbrev pub escaped : List ℕ → List ℕ
escaped text = flat_map escape text

-- whether a byte is none that HTML reads as more than text: no `<`, no `>` and no carriage return
abbrev pub is_plain : ℕ → Bool
is_plain byte = not (byte == 60) && not (byte == 62) && not (byte == 13)

-- the byte that a name behind `&` stands for, and how many bytes the name has
abbrev pub named : List ℕ → ℕ × ℕ
named bytes =
    if bytes_eq (take 4 bytes) (codes "amp;") then (38, 4)
    else if bytes_eq (take 3 bytes) (codes "lt;") then (60, 3)
    else if bytes_eq (take 3 bytes) (codes "gt;") then (62, 3)
    else if bytes_eq (take 4 bytes) (codes "#13;") then (13, 4)
    else (38, 0)

-- what is read in a page behind so many bytes of it: each name as its byte
abbrev pub read_behind : ℕ → List ℕ → List ℕ
read_behind n [] = []
read_behind (suc n) (byte ∷ bytes) = read_behind n bytes
read_behind zero (byte ∷ bytes) = if byte == 38 then (named bytes).0 ∷ read_behind (named bytes).1 bytes else byte ∷ read_behind 0 bytes

abbrev pub unescaped : List ℕ → List ℕ
unescaped bytes = read_behind 0 bytes

-- ---- laws

-- no escaped text has a byte that HTML reads as more than text
abbrev pub EscapesArePlain : Type 0
EscapesArePlain = (text : List ℕ) → list_all is_plain (escaped text) ≡ true

-- and it is read as what it was
abbrev pub EscapesAreReadBack : Type 0
EscapesAreReadBack = (text : List ℕ) → unescaped (escaped text) ≡ text
