-- The header of a journal file of format 2: its first put, of two comments that name the format and the track.
use Rattle.std.specs.Prelude.{ℕ, ◌+◌, ◌-◌, ◌*◌, Bool, List, [], ◌∷◌, ◌++◌, length, take, drop, codes, Option, Some, None, nat_le, bytes_eq, if◌then◌else◌, ◌&&◌, ◌==◌}
use Rattle.hex.specs.Hex.{encode_lower}
use Rattle.sha2.specs.Sha256.{sha256}
use Rattle.rbc_journal.specs.Gates.{at_rest}
use Rattle.rbc_journal.specs.Seals.{seal_line, seal_of}

-- the digest of a track: the 64 hex digits of SHA-256 of its file's bytes
abbrev pub digest_of_track : List ℕ → List ℕ
digest_of_track file = encode_lower (sha256 file)

-- ---- what stands in it

-- the first line is this, and then the format's number
abbrev pub title : List ℕ
title = codes "# rbc journal "

-- the second is this, and then the track's digest
abbrev pub track_mark : List ℕ
track_mark = codes "# track "

-- the two lines of a header of format 2
abbrev pub named_in_header : List ℕ → List (List ℕ)
named_in_header digest = (title ++ codes "2") ∷ (track_mark ++ digest) ∷ []

-- those, and their seal behind nothing
abbrev pub header : List ℕ → List (List ℕ)
header digest = named_in_header digest ++ seal_line (seal_of [] (named_in_header digest)) ∷ []

-- a new journal: its header, at rest
abbrev pub new_file : List ℕ → List ℕ
new_file digest = at_rest (header digest)

-- ---- how it is read

-- what stands in a line behind this mark
abbrev pub behind_mark : List ℕ → List ℕ → Option (List ℕ)
behind_mark mark line = if bytes_eq (take (length mark) line) mark then Some (drop (length mark) line) else None

-- the number of decimal digits, behind digits of this value
abbrev pub number_from : ℕ → List ℕ → Option ℕ
number_from value [] = Some value
number_from value (digit ∷ digits) = if nat_le 48 digit && nat_le digit 57 then number_from (value * 10 + (digit - 48)) digits else None

-- a number of 1 to 10 digits
abbrev pub number_of : List ℕ → Option ℕ
number_of digits = if nat_le 1 (length digits) && nat_le (length digits) 10 then number_from 0 digits else None

abbrev pub number_in : Option (List ℕ) → Option ℕ
number_in None = None
number_in (Some digits) = number_of digits

-- the format that the first of a file's lines names
abbrev pub format_in : List (List ℕ) → Option ℕ
format_in [] = None
format_in (first ∷ lines) = number_in (behind_mark title first)

abbrev pub sized : ℕ → Option (List ℕ) → Option (List ℕ)
sized size None = None
sized size (Some bytes) = if length bytes == size then Some bytes else None

-- whether lines are a header of format 2 but for the digest: the first names the format, and the third is the right seal of both
abbrev pub is_header : List ℕ → List ℕ → List ℕ → Bool
is_header first second third = bytes_eq first (title ++ codes "2") && bytes_eq third (seal_line (seal_of [] (first ∷ second ∷ [])))

-- the digest that a file's lines name, if they begin with a header of format 2: 64 bytes
abbrev pub digest_in : List (List ℕ) → Option (List ℕ)
digest_in [] = None
digest_in (first ∷ []) = None
digest_in (first ∷ second ∷ []) = None
digest_in (first ∷ second ∷ third ∷ lines) = if is_header first second third then sized 64 (behind_mark track_mark second) else None
