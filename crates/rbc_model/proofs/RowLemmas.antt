-- Rows that are written as a text are read back, and so are their words: names, legs, numbers and runs.
use Rattle.std.proofs.Common.{◌≡◌, ℕ, ◌+◌, ◌-◌, ◌^◌, ◌<◌, ◌≤◌, Bool, true, false, ◌&&◌, cond, List, [], ◌∷◌, ◌++◌, length, take, drop, map, Option, Some, None, Result, Ok, Err, ℤ, pos, negsuc, nat_abs, refl, ap, ap₂, ◌∙◌, arith, nat_le, int_le, lit≤, lit<, append_assoc, length-append}
use Rattle.std.specs.Prelude.{◌==◌, decimal, bytes_eq}
use Rattle.std.specs.List.{AllByRecursion, list_all, join_with_byte, after_first}
use Rattle.std.specs.Option.{ok_or}
use Rattle.std.proofs.Math.Seq.{take-append_seam, drop-append_seam}
use Rattle.std.proofs.lemmas.Bool.{leb-true, and_from}
use Rattle.std.proofs.lemmas.List.Folds.{list_all-append}
use Rattle.std.proofs.lemmas.Slice.Eq.{bytes_eq-Decides}
use Rattle.rbc_model.specs.declared.limits.TheConstants.{LONGEST_TRACK}
use Rattle.rbc_model.specs.declared.places.Direction.{Direction}
use Rattle.rbc_model.specs.declared.places.Direction.TheVariants.{Rising, Falling}
use Rattle.rbc_model.specs.declared.refusals.LineFault.{LineFault}
use Rattle.rbc_model.specs.declared.refusals.LineFault.TheVariants.{Number, Name}
use Rattle.rbc_model.specs.Results.{is_from_to, allowed_value, ◌>>=◌}
use Rattle.rbc_model.specs.Kinds.{Kind, speed_kind, grade_kind}
use Rattle.rbc_model.specs.Levels.{IsInRange}
use Rattle.rbc_model.specs.Names.{LegName, is_name, name_in, direction_text, direction_in, leg_text, leg_in, leg_with}
use Rattle.rbc_model.specs.Sessions.{lines_of, with_front}
use Rattle.rbc_model.specs.StepsText.{run_in_word}
use Rattle.rbc_model.specs.Words.{words_of, is_text, number_in}
use Rattle.rbc_model.specs.Rows.{Row, rows_text, rows_of, leg_or_none, leg_at, leg_or_none_at, each_word, told_by}
use Rattle.rbc_model.proofs.CountingLemmas.{both_of}
use Rattle.rbc_model.proofs.SaidLineLemmas.{name_is_word}
use Rattle.rbc_model.proofs.WordLemmas.{is_visible, IsWord, words_of_joined, text_of_joined, number_is_word, number_short, number_in-decimal, signed_short, signed_is_word, integer_in-signed, allowed-decimal, no_colon, before_mark, after_mark}

-- ---- lines

-- text has no line feed
no_feed : (byte : ℕ) → (nat_le 0x20 byte && nat_le byte 0x7e) ≡ true → (byte == 10) ≡ false
no_feed byte h = let low = leb-true 32 byte (both_of (nat_le 32 byte) (nat_le byte 126) h).0 in grind arith

-- so a line of text ends with the first line feed
pub first_line : (line rest : List ℕ) → is_text line ≡ true → lines_of (line ++ 10 ∷ rest) ≡ line ∷ lines_of rest
first_line [] rest text = refl
first_line (byte ∷ line) rest text =
    let b = both_of (nat_le 0x20 byte && nat_le byte 0x7e) (is_text line) text in
    ap (λ feed. cond feed ([] ∷ lines_of (line ++ 10 ∷ rest)) (with_front byte (lines_of (line ++ 10 ∷ rest)))) (no_feed byte b.0)
    ∙ ap (with_front byte) (first_line line rest b.1)

-- ---- rows

-- a row has a word, and its words are short and visible
abbrev pub IsRow : Row → Type 0
IsRow [] = ⊥
IsRow (word ∷ words) = AllByRecursion IsWord (word ∷ words)

-- rows that are written are read back
pub rows_read : (rows : List Row) → AllByRecursion IsRow rows → rows_of (rows_text rows) ≡ rows
rows_read [] are = refl
rows_read ([] ∷ rows) are = absurd are.0
rows_read ((word ∷ words) ∷ rows) are =
    let line = join_with_byte 32 (word ∷ words) in
    ap rows_of (append_assoc line (10 ∷ []) (rows_text rows))
    ∙ ap (map words_of) (first_line line (rows_text rows) (text_of_joined word words are.0))
    ∙ ap₂ (λ (row : Row) (rest : List Row). row ∷ rest) (words_of_joined word words are.0) (rows_read rows are.1)

-- ---- legs

signed_name_read : (name : List ℕ) (sign : ℕ) (direction : Direction) → is_name name ≡ true → direction_in (sign ∷ []) ≡ Some direction
    → leg_in (name ++ sign ∷ []) ≡ Some (record { section = name; direction = direction })
signed_name_read name sign direction named signed =
    let text = name ++ sign ∷ [] in
    let size = length-append name (sign ∷ []) in
    let cut : length text - 1 ≡ length name = omega arith in
    ap (λ n. leg_with (name_in (take n text)) (direction_in (drop n text))) cut
    ∙ ap (λ front. leg_with (name_in front) (direction_in (drop (length name) text))) (take-append_seam name (sign ∷ []))
    ∙ ap (λ back. leg_with (name_in name) (direction_in back)) (drop-append_seam name (sign ∷ []))
    ∙ ap (λ is. leg_with (cond is (Some name) None) (direction_in (sign ∷ []))) named
    ∙ ap (leg_with (Some name)) signed

-- a leg is read back
pub leg_read : (leg : LegName) → is_name leg.section ≡ true → leg_in (leg_text leg) ≡ Some leg
leg_read leg named = by_direction leg.section leg.direction named
  where
    by_direction : (name : List ℕ) (direction : Direction) → is_name name ≡ true → leg_in (name ++ direction_text direction) ≡ Some (record { section = name; direction = direction })
    by_direction name Rising named = signed_name_read name 43 Rising named refl
    by_direction name Falling named = signed_name_read name 45 Falling named refl

signed_name_is_word : (name : List ℕ) (sign : ℕ) → is_name name ≡ true → is_visible sign ≡ true → IsWord (name ++ sign ∷ [])
signed_name_is_word name sign named visible =
    let word = name_is_word name named in
    let size = both_of (nat_le 1 (length name)) (nat_le (length name) 16) (both_of (is_from_to 1 16 (length name)) _ named).0 in
    let short = leb-true (length name) 16 size.1 in
    let sum = length-append name (sign ∷ []) in
    record {
      some = omega arith;
      short = omega arith;
      visible = list_all-append is_visible name (sign ∷ []) ∙ and_from (list_all is_visible name) (list_all is_visible (sign ∷ [])) word.visible (and_from (is_visible sign) true visible refl);
    }

-- and is a word
pub leg_is_word : (leg : LegName) → is_name leg.section ≡ true → IsWord (leg_text leg)
leg_is_word leg named = by_direction leg.section leg.direction named
  where
    by_direction : (name : List ℕ) (direction : Direction) → is_name name ≡ true → IsWord (name ++ direction_text direction)
    by_direction name Rising named = signed_name_is_word name 43 named refl
    by_direction name Falling named = signed_name_is_word name 45 named refl

pub leg_at-read : (i : ℕ) (leg : LegName) → is_name leg.section ≡ true → leg_at i (leg_text leg) ≡ Ok leg
leg_at-read i leg named = ap (λ found. ok_or found (Name i)) (leg_read leg named)

-- the leg that may be absent has a name
abbrev pub IsNamedIfAny : Option LegName → Type 0
IsNamedIfAny None = Unit {0}
IsNamedIfAny (Some leg) = is_name leg.section ≡ true

-- no leg has one character
no_dash : (leg : LegName) → is_name leg.section ≡ true → bytes_eq (leg_text leg) (45 ∷ []) ≡ false
no_dash leg named = by_test (bytes_eq (leg_text leg) (45 ∷ [])) refl
  where
    longer : (name : List ℕ) (direction : Direction) → 0 < length name → 1 < length (name ++ direction_text direction)
    longer name Rising some = let sum = length-append name (43 ∷ []) in omega arith
    longer name Falling some = let sum = length-append name (45 ∷ []) in omega arith

    by_test : (same : Bool) → bytes_eq (leg_text leg) (45 ∷ []) ≡ same → same ≡ false
    by_test false e = refl
    by_test true e =
        let long = longer leg.section leg.direction (name_is_word leg.section named).some in
        let one = ap length ((bytes_eq-Decides (leg_text leg) (45 ∷ [])).0 e) in
        absurd (omega arith)

pub leg_or_none-read : (i : ℕ) (leg : Option LegName) → IsNamedIfAny leg → leg_or_none_at i (leg_or_none leg) ≡ Ok leg
leg_or_none-read i None named = refl
leg_or_none-read i (Some leg) named =
    ap (λ dash. cond dash (Ok None) (leg_at i (leg_text leg) >>= (λ leg. Ok (Some leg)))) (no_dash leg named)
    ∙ ap (λ read. read >>= (λ leg. Ok (Some leg))) (leg_at-read i leg named)

pub leg_or_none-is_word : (leg : Option LegName) → IsNamedIfAny leg → IsWord (leg_or_none leg)
leg_or_none-is_word None named = record { some = lit< tt; short = lit≤ tt; visible = refl }
leg_or_none-is_word (Some leg) named = leg_is_word leg named

-- ---- runs

-- what is known of how a kind of level is written: its values are short visible words, and are read back
pub record IsReadBack {V : Type 0} (kind : Kind V) : Type 0 where
  pub read : (value : V) → IsInRange kind.levels value → kind.read (kind.print value) ≡ Some value
  pub word : (value : V) → IsInRange kind.levels value → IsWord (kind.print value)
  pub short : (value : V) → IsInRange kind.levels value → length (kind.print value) ≤ 11

speed_small : (value : ℕ) → IsInRange speed_kind.levels value → value < 10 ^ 10
speed_small value h = let high = leb-true value 600 (both_of (nat_le 5 value) (nat_le value 600) h).1 in omega arith

pub speeds_read : IsReadBack speed_kind
speeds_read = record {
  read = λ value h. number_in-decimal value (speed_small value h);
  word = λ value h. number_is_word value (speed_small value h);
  short = λ value h. let short = number_short value (speed_small value h) in omega arith;
}

grade_small : (value : ℤ) → IsInRange grade_kind.levels value → nat_abs value < 10 ^ 10
grade_small (pos n) h = let high = leb-true n 254 (both_of (int_le (negsuc 253) (pos n)) (int_le (pos n) (pos 254)) h).1 in omega arith
grade_small (negsuc n) h = let high = leb-true n 253 (both_of (int_le (negsuc 253) (negsuc n)) (int_le (negsuc n) (pos 254)) h).0 in omega arith

pub grades_read : IsReadBack grade_kind
grades_read = record {
  read = λ value h. integer_in-signed value (grade_small value h);
  word = λ value h. signed_is_word value (grade_small value h);
  short = λ value h. signed_short value (grade_small value h);
}

-- the word of a run
abbrev pub run_word : {V : Type 0} → Kind V → ℕ × V → List ℕ
run_word kind run = decimal run.0 ++ 58 ∷ kind.print run.1

-- a run that a track may have
pub record IsRun {V : Type 0} (kind : Kind V) (run : ℕ × V) : Type 0 where
  pub start : run.0 ≤ LONGEST_TRACK
  pub value : IsInRange kind.levels run.1

module _ {V : Type 0} (kind : Kind V) (back : IsReadBack kind) (run : ℕ × V) (is : IsRun kind run) where
  start_small : run.0 < 10 ^ 10
  start_small = let near = is.start in omega arith

  pub run_is_word : IsWord (run_word kind run)
  run_is_word =
      let front = number_is_word run.0 start_small in
      let value = back.word run.1 is.value in
      let short = number_short run.0 start_small in
      let little = back.short run.1 is.value in
      let sum = length-append (decimal run.0) (58 ∷ kind.print run.1) in
      record {
        some = omega arith;
        short = omega arith;
        visible = list_all-append is_visible (decimal run.0) (58 ∷ kind.print run.1)
            ∙ and_from (list_all is_visible (decimal run.0)) (list_all is_visible (58 ∷ kind.print run.1)) front.visible value.visible;
      }

  abbrev is_colon : ℕ → Bool
  is_colon byte = byte == 58

  abbrev run_from : Result ℕ LineFault → Result V LineFault → Result (ℕ × V) LineFault
  run_from start value = start >>= (λ start. value >>= (λ value. Ok (start, value)))

  pub run_read : (i : ℕ) → run_in_word kind i (run_word kind run) ≡ Ok run
  run_read i =
      let colonless = no_colon run.0 start_small in
      let start = allowed_value (is_from_to 0 LONGEST_TRACK) (Number i) in
      let value = allowed_value kind.levels.in_range (Number i) in
      ap (λ word. run_from (start (number_in word)) (value (kind.read (after_first is_colon (run_word kind run))))) (before_mark is_colon 58 (kind.print run.1) refl (decimal run.0) colonless)
      ∙ ap (λ word. run_from (start (number_in (decimal run.0))) (value (kind.read word))) (after_mark is_colon 58 (kind.print run.1) refl (decimal run.0) colonless)
      ∙ ap (λ read. run_from read (value (kind.read (kind.print run.1)))) (allowed-decimal 0 LONGEST_TRACK run.0 (Number i) (omega arith) is.start (lit< tt))
      ∙ ap (λ read. run_from (Ok run.0) (value read)) (back.read run.1 is.value)
      ∙ ap (λ fits. run_from (Ok run.0) (cond fits (Ok run.1) (Err (Number i)))) is.value

-- ---- words and rows one after another

module _ {A : Type 0} (read : ℕ → List ℕ → Result A LineFault) (write : A → List ℕ) where
  -- words that are read back one by one are read back together
  pub each_word-read : (i : ℕ) (xs : List A) → AllByRecursion (λ x. (i : ℕ) → read i (write x) ≡ Ok x) xs → each_word read i (map write xs) ≡ Ok xs
  each_word-read i [] each = refl
  each_word-read i (x ∷ xs) each =
      ap (λ first. first >>= (λ first. each_word read (i + 1) (map write xs) >>= (λ rest. Ok (first ∷ rest)))) (each.0 i)
      ∙ ap (λ rest. rest >>= (λ rest. Ok (x ∷ rest))) (each_word-read (i + 1) xs each.1)

-- words that are all words
pub words_are : {A : Type 0} (write : A → List ℕ) (xs : List A) → AllByRecursion (λ x. IsWord (write x)) xs → AllByRecursion IsWord (map write xs)
words_are write [] are = tt
words_are write (x ∷ xs) are = (are.0, words_are write xs are.1)

module _ {A : Type 0} (command : List ℕ) (read : List (List ℕ) → Result A LineFault) (write : A → List (List ℕ)) (rest : List Row) (ends : told_by command read rest ≡ Ok ([], rest)) where
  -- rows that are read back one by one are read back together, up to the rest, which begins with another word
  pub told_by-read : (xs : List A) → AllByRecursion (λ x. read (write x) ≡ Ok x) xs → told_by command read (map (λ x. command ∷ write x) xs ++ rest) ≡ Ok (xs, rest)
  told_by-read [] each = ends
  told_by-read (x ∷ xs) each =
      let later = told_by command read (map (λ x. command ∷ write x) xs ++ rest) in
      ap (λ same. cond same (read (write x) >>= (λ told. later >>= (λ rest. Ok (told ∷ rest.0, rest.1)))) (Ok ([], (command ∷ write x) ∷ (map (λ x. command ∷ write x) xs ++ rest))))
      ((bytes_eq-Decides command command).1 refl)
      ∙ ap (λ told. told >>= (λ told. later >>= (λ rest. Ok (told ∷ rest.0, rest.1)))) each.0
      ∙ ap (λ read. read >>= (λ rest. Ok (x ∷ rest.0, rest.1))) (told_by-read xs each.1)

-- rows that are all rows
pub rows_are : {A : Type 0} (write : A → Row) (xs : List A) → AllByRecursion (λ x. IsRow (write x)) xs → AllByRecursion IsRow (map write xs)
rows_are write [] are = tt
rows_are write (x ∷ xs) are = (are.0, rows_are write xs are.1)

pub rows_behind : (front back : List Row) → AllByRecursion IsRow front → AllByRecursion IsRow back → AllByRecursion IsRow (front ++ back)
rows_behind [] back a b = b
rows_behind (row ∷ front) back a b = (a.0, rows_behind front back a.1 b)
