-- The lines of an input, and what a call that prints writes.
use Rattle.std.specs.Prelude.{◌≡◌, ℕ, suc, List, [], ◌∷◌, ◌++◌, Bool, Option, Result, Ok, Err, is_err, ◌==◌, if◌then◌else◌}
use Rattle.std.specs.Io.KnownBytes.{Appends}

-- ---- lines

-- a byte in front of the first line
abbrev pub with_front : ℕ → List (List ℕ) → List (List ℕ)
with_front byte [] = (byte ∷ []) ∷ []
with_front byte (line ∷ lines) = (byte ∷ line) ∷ lines

-- the lines of some bytes: each ends with a line feed (10), the last one perhaps with the input, if it isn't empty
abbrev pub lines_of : List ℕ → List (List ℕ)
lines_of [] = []
lines_of (byte ∷ bytes) = if byte == 10 then [] ∷ lines_of bytes else with_front byte (lines_of bytes)

-- how many line feeds are among some bytes, which is how many of their lines have ended
abbrev pub line_feeds : List ℕ → ℕ
line_feeds [] = 0
line_feeds (byte ∷ bytes) = if byte == 10 then suc (line_feeds bytes) else line_feeds bytes

-- ---- what is written

-- A part of the text, from its start, is what was written.
abbrev pub WritesPart : Option (List ℕ) → Option (List ℕ) → List ℕ → Type 0
WritesPart old new text = (part : List ℕ) × (rest : List ℕ) × (text ≡ part ++ rest) × Appends old new part

-- A text is written: the whole of it, or a part from its start where the writer failed.
abbrev pub WritesText : {E : Type 0} → Option (List ℕ) → Option (List ℕ) → List ℕ → Result (Unit {0}) E → Type 0
WritesText old new text (Ok done) = Appends old new text
WritesText old new text (Err fault) = WritesPart old new text

-- A call that prints: it wrote this text, and the writer has failed if the call says so, and only then.
pub record Prints {E : Type 0} (old new : Option (List ℕ)) (has_failed : Bool) (words : List ℕ) (result : Result (Unit {0}) E) : Type 0 where
  pub text : WritesText old new words result
  pub failed : has_failed ≡ is_err result
