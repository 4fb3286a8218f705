-- What a journal begins with: the lines of a scene, each as a comment, in one put of their own behind the header.
use Rattle.std.specs.Prelude.{◌≡◌, ℕ, List, [], ◌∷◌, ◌++◌, drop, map, flat_map}
use Rattle.rbc_journal.specs.Gates.{at_rest}
use Rattle.rbc_journal.specs.Seals.{seal_of}
use Rattle.rbc_journal.specs.Headers.{named_in_header, header}
use Rattle.rbc_journal.specs.Marks.{marked, marked_front}
use Rattle.rbc_journal.specs.Puts.{with_its_seal}

-- ---- what stands in it

-- the put of these lines, each marked, behind a put with this seal; no line has no put
abbrev pub beginning_put : List ℕ → List (List ℕ) → List (List ℕ)
beginning_put seal [] = []
beginning_put seal (line ∷ lines) = with_its_seal seal (map marked (line ∷ lines))

-- the seal of a track's header
abbrev pub header_seal : List ℕ → List ℕ
header_seal digest = seal_of [] (named_in_header digest)

-- a journal that begins with these lines, and tells none: its header, and their put
abbrev pub begun_lines : List ℕ → List (List ℕ) → List (List ℕ)
begun_lines digest lines = header digest ++ beginning_put (header_seal digest) lines

-- its last seal
abbrev pub begun_seal : List ℕ → List (List ℕ) → List ℕ
begun_seal digest [] = header_seal digest
begun_seal digest (line ∷ lines) = seal_of (header_seal digest) (map marked (line ∷ lines))

-- it, at rest; that which begins with no line is `new_file`
abbrev pub begun_file : List ℕ → List (List ℕ) → List ℕ
begun_file digest lines = at_rest (begun_lines digest lines)

-- ---- how it is read

-- the beginning that a journal's lines tell: those marked ones that stand directly behind the three of its header
abbrev pub beginning_of : List (List ℕ) → List (List ℕ)
beginning_of lines = marked_front (drop 3 lines)

-- lines as a text: each, and a line feed behind it
abbrev pub joined : List (List ℕ) → List ℕ
joined lines = flat_map (λ line. line ++ 10 ∷ []) lines

-- What is put later leaves it as it is: what stands behind the beginning, and does not go on with a marked line itself.
abbrev pub BeginningStays : Type 0
BeginningStays =
    (digest : List ℕ) (lines more : List (List ℕ)) → marked_front more ≡ [] → beginning_of (begun_lines digest lines ++ more) ≡ lines
