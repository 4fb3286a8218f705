-- The rows of a scene are read back, one after another.
use Rattle.std.proofs.Common.{◌≡◌, ℕ, zero, suc, ◌+◌, ◌-◌, ◌<◌, ◌≤◌, ◌^◌, Bool, true, false, cond, List, [], ◌∷◌, ◌++◌, length, map, Option, Some, None, Result, Ok, Err, ℤ, pos, negsuc, nat_abs, refl, sym, ap, ◌∙◌, subst, arith, append_assoc, ltb, codes}
use Rattle.std.specs.Prelude.{◌==◌, ◌-ℤ◌, ◌+ℤ◌, slice_index, slice_get, decimal, bytes_eq}
use Rattle.std.specs.Fmt.{signed_decimal}
use Rattle.std.specs.List.{AllByRecursion, join_with_byte}
use Rattle.std.specs.Option.{ok_or, option_and_then, option_map_or}
use Rattle.std.proofs.Math.IntN.{ -ℤ-+ℤ_cancel}
use Rattle.std.proofs.lemmas.Bool.{ltb-true, ltb-false}
use Rattle.rbc_model.specs.declared.refusals.LineFault.{LineFault}
use Rattle.rbc_model.specs.declared.refusals.LineFault.TheVariants.{Command, Words, Number, Name}
use Rattle.rbc_model.specs.Names.{is_name}
use Rattle.rbc_model.specs.Results.{demand, ◌>>=◌, ◌>>◌}
use Rattle.rbc_model.specs.Rows.{Row, rows_text}
use Rattle.rbc_model.specs.Sessions.{lines_of}
use Rattle.rbc_model.specs.Tracks.{Track}
use Rattle.rbc_model.specs.Scenes.{Scene}
use Rattle.rbc_model.specs.Words.{number_in, integer_in}
use Rattle.rbc_model.specs.SceneLines.{after_row, place_in, read_lines, row_in}
use Rattle.rbc_model.proofs.RowLemmas.{first_line}
use Rattle.rbc_model.proofs.WordLemmas.{IsWord, text_of_joined, request_words-joined, integer_in-signed}

-- ---- lines

-- the words of a line, of which the first does not begin a comment, and which are not too many
abbrev pub IsLineRow : Row → Type 0
IsLineRow [] = ⊥
IsLineRow (word ∷ words) = AllByRecursion IsWord (word ∷ words) × ((slice_index word 0 == 35) ≡ false) × (length words ≤ 100)

-- a row as a line
abbrev pub line_text : Row → List ℕ
line_text row = join_with_byte 32 row

pub row_in-read : (row : Row) → IsLineRow row → row_in (line_text row) ≡ Ok row
row_in-read [] is = absurd is
row_in-read (word ∷ words) is = ap (λ read. read >>= (λ found. ok_or found Words)) (request_words-joined word words is.0 is.1 is.2)

-- the lines of rows that are written
pub lines_are : (rows : List Row) → AllByRecursion IsLineRow rows → lines_of (rows_text rows) ≡ map line_text rows
lines_are [] are = refl
lines_are ([] ∷ rows) are = absurd are.0
lines_are ((word ∷ words) ∷ rows) are =
    let line = line_text (word ∷ words) in
    ap lines_of (append_assoc line (10 ∷ []) (rows_text rows))
    ∙ first_line line (rows_text rows) (text_of_joined word words are.0.0)
    ∙ ap (λ lines. line ∷ lines) (lines_are rows are.1)

-- ---- rows

module _ (track : Track) where
  -- the rows lead from one scene to another
  abbrev pub Tells : Scene → List Row → Scene → Type 0
  Tells scene [] after = scene ≡ after
  Tells scene (row ∷ rows) after = (next : Scene) × IsLineRow row × (after_row track scene row ≡ Ok next) × Tells next rows after

  pub tells_then : (scene middle after : Scene) (rows more : List Row) → Tells scene rows middle → Tells middle more after → Tells scene (rows ++ more) after
  tells_then scene middle after [] more told next = subst (λ (s : Scene). Tells s more after) (sym told) next
  tells_then scene middle after (row ∷ rows) more told next = (told.0, told.1, told.2, tells_then told.0 middle after rows more told.3 next)

  pub rows_are : (scene after : Scene) (rows : List Row) → Tells scene rows after → AllByRecursion IsLineRow rows
  rows_are scene after [] told = tt
  rows_are scene after (row ∷ rows) told = (told.1, rows_are told.0 after rows told.3)

  read_step : (version : ℕ) (scene next : Scene) (row : Row) (line : List ℕ) (lines : List (List ℕ)) → IsLineRow row → after_row track scene row ≡ Ok next
      → read_lines track version scene (line_text row ∷ line ∷ lines) ≡ read_lines track version next (line ∷ lines)
  read_step version scene next row line lines is goes =
      ap (λ read. read >>= (λ words. after_row track scene words >>= (λ s. read_lines track version s (line ∷ lines)))) (row_in-read row is)
      ∙ ap (λ read. read >>= (λ s. read_lines track version s (line ∷ lines))) goes

  -- they are read, up to `done`
  pub rows_read : (version : ℕ) (scene after : Scene) (rows : List Row) → Tells scene rows after
      → read_lines track version scene (map line_text rows ++ codes "done" ∷ []) ≡ Ok (version, after)
  rows_read version scene after [] told = ap (λ (s : Scene). let r : Result (ℕ × Scene) LineFault = Ok (version, s) in r) told
  rows_read version scene after (row ∷ []) told =
      read_step version scene told.0 row (codes "done") [] told.1 told.2 ∙ rows_read version told.0 after [] told.3
  rows_read version scene after (row ∷ more ∷ rows) told =
      read_step version scene told.0 row (line_text more) (map line_text rows ++ codes "done" ∷ []) told.1 told.2 ∙ rows_read version told.0 after (more ∷ rows) told.3

-- ---- names

-- each entry of a table whose names are names has one
pub named_in : {X : Type 0} (name_of : X → List ℕ) (xs : List X) (place : ℕ) → AllByRecursion (λ x. is_name (name_of x) ≡ true) xs → place < length xs
    → is_name (option_map_or name_of (slice_get xs place) []) ≡ true
named_in name_of [] place all inside = absurd (omega (arith, inside))
named_in name_of (x ∷ xs) zero all inside = all.0
named_in name_of (x ∷ xs) (suc place) all inside = named_in name_of xs place all.1 (omega (arith, inside))

-- ---- places

-- a distance between small places is small
pub distance_small : (place origin : ℕ) → place < 10 ^ 10 → origin < 10 ^ 10 → nat_abs (pos place -ℤ pos origin) < 10 ^ 10
distance_small place zero near far = omega arith
distance_small place (suc origin) near far = by_test (ltb place (suc origin)) refl
  where
    by_test : (less : Bool) → ltb place (suc origin) ≡ less → nat_abs (cond less (negsuc (suc origin - suc place)) (pos (place - suc origin))) < 10 ^ 10
    by_test true e = omega (arith, ltb-true place (suc origin) e)
    by_test false e = omega (arith, ltb-false place (suc origin) e)

-- the place of a distance from the group is read back
pub place_back : (origin place i : ℕ) → place < 10 ^ 10 → origin < 10 ^ 10
    → ok_or (option_and_then (λ distance. place_in (distance +ℤ pos origin)) (integer_in (signed_decimal (pos place -ℤ pos origin)))) (Number i) ≡ Ok place
place_back origin place i near far =
    let found : Option ℤ → Result ℕ LineFault = λ o. ok_or (option_and_then (λ distance. place_in (distance +ℤ pos origin)) o) (Number i) in
    let placed : ℤ → Result ℕ LineFault = λ z. ok_or (place_in z) (Number i) in
    ap found (integer_in-signed (pos place -ℤ pos origin) (distance_small place origin near far))
    ∙ ap placed (-ℤ-+ℤ_cancel (pos place) (pos origin))
