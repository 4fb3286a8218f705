-- Texts that tell a track or a scene: rows of words, a line each, and how they are read.
use Rattle.std.specs.Prelude.{ℕ, ◌+◌, List, [], ◌∷◌, map, Option, Some, None, Result, Ok, if◌then◌else◌, bytes_eq}
use Rattle.std.specs.List.{flat_map}
use Rattle.std.specs.Option.{ok_or}
use Rattle.rbc_model.specs.declared.refusals.LineFault.{LineFault}
use Rattle.rbc_model.specs.declared.refusals.LineFault.TheVariants.{Name}
use Rattle.rbc_model.specs.Results.{◌>>=◌}
use Rattle.rbc_model.specs.Names.{LegName, leg_text, leg_in}
use Rattle.rbc_model.specs.Sessions.{lines_of}
use Rattle.rbc_model.specs.Words.{line_of, words_of}

-- a row: the words of a line, of which the first says what the others tell
abbrev pub Row : Type 0
Row = List (List ℕ)

-- rows as a text
abbrev pub rows_text : List Row → List ℕ
rows_text rows = flat_map line_of rows

-- the rows of a text
abbrev pub rows_of : List ℕ → List Row
rows_of text = map words_of (lines_of text)

-- ---- legs

-- a leg that may be absent: `-` (45) stands for none, since no leg has one character
abbrev pub leg_or_none : Option LegName → List ℕ
leg_or_none None = 45 ∷ []
leg_or_none (Some leg) = leg_text leg

-- word i as a leg
abbrev pub leg_at : ℕ → List ℕ → Result LegName LineFault
leg_at i word = ok_or (leg_in word) (Name i)

-- word i as a leg, or as none
abbrev pub leg_or_none_at : ℕ → List ℕ → Result (Option LegName) LineFault
leg_or_none_at i word = if bytes_eq word (45 ∷ []) then Ok None else leg_at i word >>= (λ leg. Ok (Some leg))

-- ---- rows that are read

-- each of the words, counted from word i on
abbrev pub each_word : {A : Type 0} → (ℕ → List ℕ → Result A LineFault) → ℕ → List (List ℕ) → Result (List A) LineFault
each_word read i [] = Ok []
each_word read i (word ∷ words) = do
  first ← read i word
  rest ← each_word read (i + 1) words
  Ok (first ∷ rest)

-- what the rows up to the first that begins with another word tell, each by the words behind its first, and the rows from that one on
abbrev pub told_by : {A : Type 0} → List ℕ → (List (List ℕ) → Result A LineFault) → List Row → Result (List A × List Row) LineFault
told_by command read ((first ∷ words) ∷ rows) =
    if bytes_eq first command then read words >>= (λ told. told_by command read rows >>= (λ rest. Ok (told ∷ rest.0, rest.1)))
    else Ok ([], (first ∷ words) ∷ rows)
told_by command read rows = Ok ([], rows)
