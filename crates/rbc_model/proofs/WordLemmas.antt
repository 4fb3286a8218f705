-- Words that are joined to a line are its words, and the numbers among them are read back.
use Rattle.std.proofs.Common.{◌≡◌, ℕ, zero, suc, ◌+◌, ◌-◌, ◌*◌, ◌^◌, ◌<◌, ◌≤◌, Bool, true, false, not, ◌&&◌, cond, List, [], ◌∷◌, ◌++◌, length, take, drop, Option, Some, None, Result, Ok, Err, refl, ap, ◌∙◌, arith, nat_le, nat_lt, lit<}
use Rattle.std.specs.Prelude.{◌==◌, All, decimal, filter, slice_index, option_map, ℤ, pos, negsuc, neg_ℤ, nat_abs}
use Rattle.std.specs.Fmt.{signed_decimal}
use Rattle.std.specs.Char.{is_ascii_digit}
use Rattle.std.specs.List.{AllByRecursion, list_all, join_with_byte, slice_split, position_or_len, before_first, after_first}
use Rattle.std.specs.Str.Parse.{digits_value}
use Rattle.std.proofs.Math.Seq.{take-append_seam, drop-append-add}
use Rattle.std.proofs.lemmas.Bool.{le-leb, leb-true, and_from, not-true}
use Rattle.std.proofs.lemmas.Fmt.{digits_decimal, digits_value-decimal, decimal_nonempty, length-decimal-le}
use Rattle.std.proofs.lemmas.List.{length-append}
use Rattle.std.proofs.lemmas.List.Elements.{All-nil, All-cons}
use Rattle.std.proofs.lemmas.List.Folds.{list_all-append}
use Rattle.std.proofs.lemmas.List.Splits.{slice_split_none, slice_split_at}
use Rattle.std.proofs.lemmas.Str.Parse.{IsDigitsTest, IsNumeralModel, numerals_by_value}
use Rattle.rbc_model.specs.declared.limits.TheConstants.{LONGEST_LINE}
use Rattle.rbc_model.specs.declared.refusals.LineFault.{LineFault}
use Rattle.rbc_model.specs.declared.refusals.LineFault.TheVariants.{Overlong, NotText}
use Rattle.rbc_model.specs.Results.{is_from_to, allowed_value}
use Rattle.rbc_model.specs.Words.{without_return, words_of, is_blank, is_text, is_numeral, number_in, integer_in}
use Rattle.rbc_model.specs.RequestText.{request_words}
use Rattle.rbc_model.proofs.CountingLemmas.{both_of}

-- ---- words

-- a byte that a word may have: visible, and no space
abbrev pub is_visible : ℕ → Bool
is_visible byte = nat_le 0x21 byte && nat_le byte 0x7e

abbrev is_space : ℕ → Bool
is_space byte = byte == 32

abbrev has_letters : List ℕ → Bool
has_letters word = not (length word == 0)

abbrev is_text_byte : ℕ → Bool
is_text_byte byte = nat_le 0x20 byte && nat_le byte 0x7e

-- a short word of a line
pub record IsWord (word : List ℕ) : Type 0 where
  pub some : 0 < length word
  pub short : length word ≤ 32
  pub visible : list_all is_visible word ≡ true

visible_from : (byte : ℕ) → is_visible byte ≡ true → (33 ≤ byte) × (byte ≤ 126)
visible_from byte h = let b = both_of (nat_le 33 byte) (nat_le byte 126) h in (leb-true 33 byte b.0, leb-true byte 126 b.1)

pub visible_is : (byte : ℕ) → 33 ≤ byte → byte ≤ 126 → is_visible byte ≡ true
visible_is byte low high = and_from (nat_le 33 byte) (nat_le byte 126) (le-leb 33 byte low) (le-leb byte 126 high)

not_space : (byte : ℕ) → is_visible byte ≡ true → is_space byte ≡ false
not_space byte h = let low = (visible_from byte h).0 in grind arith

text_of : (byte : ℕ) → is_visible byte ≡ true → is_text_byte byte ≡ true
text_of byte h =
    let v = visible_from byte h in
    and_from (nat_le 32 byte) (nat_le byte 126) (le-leb 32 byte (let low = v.0 in omega arith)) (le-leb byte 126 v.1)

no_spaces : (word : List ℕ) → list_all is_visible word ≡ true → All (λ byte. is_space byte ≡ false) word
no_spaces [] h = All-nil (λ byte. is_space byte ≡ false)
no_spaces (byte ∷ word) h =
    let b = both_of (is_visible byte) (list_all is_visible word) h in
    All-cons (λ byte. is_space byte ≡ false) byte word (not_space byte b.0) (no_spaces word b.1)

all_text : (word : List ℕ) → list_all is_visible word ≡ true → list_all is_text_byte word ≡ true
all_text [] h = refl
all_text (byte ∷ word) h =
    let b = both_of (is_visible byte) (list_all is_visible word) h in
    and_from (is_text_byte byte) (list_all is_text_byte word) (text_of byte b.0) (all_text word b.1)

-- ---- joined words

-- a line of one word or more
abbrev joined : List ℕ → List (List ℕ) → List ℕ
joined word words = join_with_byte 32 (word ∷ words)

split_of_joined : (word : List ℕ) (words : List (List ℕ)) → AllByRecursion IsWord (word ∷ words) → slice_split is_space (joined word words) ≡ word ∷ words
split_of_joined word [] are = slice_split_none is_space word (no_spaces word are.0.visible)
split_of_joined word (next ∷ words) are =
    slice_split_at is_space word 32 (joined next words) (no_spaces word are.0.visible) refl ∙ ap (λ parts. word ∷ parts) (split_of_joined next words are.1)

kept_words : (words : List (List ℕ)) → AllByRecursion IsWord words → filter has_letters words ≡ words
kept_words [] are = refl
kept_words (word ∷ words) are =
    let some = are.0.some in
    let e : (length word == 0) ≡ false = grind arith in
    with_word e ∙ ap (λ rest. word ∷ rest) (kept_words words are.1)
  where
    with_word : (length word == 0) ≡ false → filter has_letters (word ∷ words) ≡ word ∷ filter has_letters words
    with_word e = rw e refl

-- and these are its words
pub words_of_joined : (word : List ℕ) (words : List (List ℕ)) → AllByRecursion IsWord (word ∷ words) → words_of (joined word words) ≡ word ∷ words
words_of_joined word words are = ap (filter has_letters) (split_of_joined word words are) ∙ kept_words (word ∷ words) are

-- the line is text
pub text_of_joined : (word : List ℕ) (words : List (List ℕ)) → AllByRecursion IsWord (word ∷ words) → is_text (joined word words) ≡ true
text_of_joined word [] are = all_text word are.0.visible
text_of_joined word (next ∷ words) are =
    list_all-append is_text_byte word (32 ∷ joined next words)
    ∙ and_from (list_all is_text_byte word) (list_all is_text_byte (32 ∷ joined next words)) (all_text word are.0.visible) (text_of_joined next words are.1)

length_of_joined : (word : List ℕ) (words : List (List ℕ)) → AllByRecursion IsWord (word ∷ words) → length (joined word words) ≤ 33 * length (word ∷ words)
length_of_joined word [] are = let short = are.0.short in omega arith
length_of_joined word (next ∷ words) are =
    let short = are.0.short in
    let rest = length_of_joined next words are.1 in
    let sum = length-append word (32 ∷ joined next words) in
    omega arith

-- text does not end with a carriage return
no_return : (line : List ℕ) (at : ℕ) → is_text line ≡ true → (slice_index line at == 13) ≡ false
no_return [] at h = refl
no_return (byte ∷ line) zero h =
    let low = leb-true 32 byte (both_of (nat_le 32 byte) (nat_le byte 126) (both_of (is_text_byte byte) (is_text line) h).0).0 in
    grind arith
no_return (byte ∷ line) (suc at) h = no_return line at (both_of (is_text_byte byte) (is_text line) h).1

without_return_is : (line : List ℕ) → is_text line ≡ true → without_return line ≡ line
without_return_is line h = rw (no_return line (length line - 1) h) refl

-- what the tests of a line come to
abbrev tested : Bool → Bool → Bool → List (List ℕ) → Result (Option (List (List ℕ))) LineFault
tested long blank text words = cond long (Err Overlong) (cond blank (Ok None) (cond (not text) (Err NotText) (Ok (Some words))))

not_long : (line : List ℕ) → length line ≤ 4096 → nat_lt LONGEST_LINE (length line) ≡ false
not_long line h = grind arith

-- a line of a few words, of which the first does not begin with `#`, has these words
pub request_words-joined : (word : List ℕ) (words : List (List ℕ)) → AllByRecursion IsWord (word ∷ words) → (slice_index word 0 == 35) ≡ false → length words ≤ 100
    → request_words (joined word words) ≡ Ok (Some (word ∷ words))
request_words-joined word words are begins few =
    let line = joined word words in
    let text = text_of_joined word words are in
    let size = length_of_joined word words are in
    ap (λ kept. tested (nat_lt LONGEST_LINE (length line)) (is_blank (words_of kept)) (is_text kept) (words_of kept)) (without_return_is line text)
    ∙ ap (λ found. tested (nat_lt LONGEST_LINE (length line)) (is_blank found) (is_text line) found) (words_of_joined word words are)
    ∙ ap (λ long. tested long (slice_index word 0 == 35) (is_text line) (word ∷ words)) (not_long line (omega arith))
    ∙ ap (λ blank. tested false blank (is_text line) (word ∷ words)) begins
    ∙ ap (λ t. tested false false t (word ∷ words)) text

-- ---- numbers

abbrev AreDigits : List ℕ → Type 0
AreDigits text = list_all is_ascii_digit text ≡ true

digit_test : IsDigitsTest AreDigits
digit_test = record {
  empty = refl;
  parts = λ byte text h.
      let b = both_of (is_ascii_digit byte) (list_all is_ascii_digit text) h in
      let r = both_of (nat_le 48 byte) (nat_le byte 57) b.0 in
      ((leb-true 48 byte r.0, leb-true byte 57 r.1), b.1);
  more = λ byte text r h.
      and_from (is_ascii_digit byte) (list_all is_ascii_digit text) (and_from (nat_le 48 byte) (nat_le byte 57) (le-leb 48 byte r.0) (le-leb byte 57 r.1)) h;
}

numerals : IsNumeralModel AreDigits (digits_value 10)
numerals = numerals_by_value AreDigits digit_test

visible_digits : (text : List ℕ) → AreDigits text → list_all is_visible text ≡ true
visible_digits [] h = refl
visible_digits (byte ∷ text) h =
    let b = both_of (is_ascii_digit byte) (list_all is_ascii_digit text) h in
    let r = both_of (nat_le 48 byte) (nat_le byte 57) b.0 in
    let low = leb-true 48 byte r.0 in
    let high = leb-true byte 57 r.1 in
    and_from (is_visible byte) (list_all is_visible text) (visible_is byte (omega arith) (omega arith)) (visible_digits text b.1)

-- a byte that is no digit is not among digits
digits_without : (mark : ℕ) → ((byte : ℕ) → 48 ≤ byte → byte ≤ 57 → (byte == mark) ≡ false) → (text : List ℕ) → AreDigits text → list_all (λ byte. not (byte == mark)) text ≡ true
digits_without mark other [] h = refl
digits_without mark other (byte ∷ text) h =
    let b = both_of (is_ascii_digit byte) (list_all is_ascii_digit text) h in
    let r = both_of (nat_le 48 byte) (nat_le byte 57) b.0 in
    and_from (not (byte == mark)) (list_all (λ byte. not (byte == mark)) text) (ap not (other byte (leb-true 48 byte r.0) (leb-true byte 57 r.1))) (digits_without mark other text b.1)

not_slash : (byte : ℕ) → 48 ≤ byte → byte ≤ 57 → (byte == 47) ≡ false
not_slash byte low high = grind arith

not_colon : (byte : ℕ) → 48 ≤ byte → byte ≤ 57 → (byte == 58) ≡ false
not_colon byte low high = grind arith

not_minus : (byte : ℕ) → 48 ≤ byte → byte ≤ 57 → (byte == 45) ≡ false
not_minus byte low high = grind arith

first_without : (mark : ℕ) (text : List ℕ) → 0 < length text → list_all (λ byte. not (byte == mark)) text ≡ true → (slice_index text 0 == mark) ≡ false
first_without mark [] some h = absurd (omega arith)
first_without mark (byte ∷ text) some h = not-true (byte == mark) (both_of (not (byte == mark)) (list_all (λ byte. not (byte == mark)) text) h).0

module _ (n : ℕ) (small : n < 10 ^ 10) where
  fits : n < 2 ^ 64
  fits = omega arith

  digits : AreDigits (decimal n)
  digits = digits_decimal numerals n fits

  pub number_short : length (decimal n) ≤ 10
  number_short = length-decimal-le 10 n (lit< tt) small fits

  -- a number of up to ten digits is a word
  pub number_is_word : IsWord (decimal n)
  number_is_word =
      let short = number_short in
      record { some = decimal_nonempty n fits; short = omega arith; visible = visible_digits (decimal n) digits }

  numeral : is_numeral (decimal n) ≡ true
  numeral =
      let some = decimal_nonempty n fits in
      and_from (nat_le 1 (length (decimal n)) && nat_le (length (decimal n)) 10) (list_all is_ascii_digit (decimal n))
      (and_from (nat_le 1 (length (decimal n))) (nat_le (length (decimal n)) 10) (le-leb 1 (length (decimal n)) (omega arith)) (le-leb (length (decimal n)) 10 number_short))
      digits

  -- and is read back
  pub number_in-decimal : number_in (decimal n) ≡ Some n
  number_in-decimal = ap (λ b. cond b (Some (digits_value 10 (decimal n))) None) numeral ∙ ap Some (digits_value-decimal numerals n fits)

  -- no digit is a slash, a colon or a minus
  pub no_slash : list_all (λ byte. not (byte == 47)) (decimal n) ≡ true
  no_slash = digits_without 47 not_slash (decimal n) digits

  pub no_colon : list_all (λ byte. not (byte == 58)) (decimal n) ≡ true
  no_colon = digits_without 58 not_colon (decimal n) digits

  no_minus : (slice_index (decimal n) 0 == 45) ≡ false
  no_minus = first_without 45 (decimal n) (decimal_nonempty n fits) (digits_without 45 not_minus (decimal n) digits)

-- a whole number of up to ten digits is read back, with its sign
pub integer_in-signed : (z : ℤ) → nat_abs z < 10 ^ 10 → integer_in (signed_decimal z) ≡ Some z
integer_in-signed (pos n) small =
    ap (λ minus. cond minus (option_map (λ n. neg_ℤ (pos n)) (number_in (drop 1 (decimal n)))) (option_map pos (number_in (decimal n)))) (no_minus n small)
    ∙ ap (option_map pos) (number_in-decimal n small)
integer_in-signed (negsuc n) small = ap (option_map (λ n. neg_ℤ (pos n))) (number_in-decimal (suc n) small)

-- and is a word
pub signed_short : (z : ℤ) → nat_abs z < 10 ^ 10 → length (signed_decimal z) ≤ 11
signed_short (pos n) small = let short = number_short n small in omega arith
signed_short (negsuc n) small = let short = number_short (suc n) small in omega arith

pub signed_is_word : (z : ℤ) → nat_abs z < 10 ^ 10 → IsWord (signed_decimal z)
signed_is_word (pos n) small = number_is_word n small
signed_is_word (negsuc n) small =
    let short = number_short (suc n) small in
    record { some = omega arith; short = omega arith; visible = (number_is_word (suc n) small).visible }

-- a number in a range is read back where that range is asked for
pub allowed-decimal : {E : Type 0} (low high n : ℕ) (e : E) → low ≤ n → n ≤ high → high < 10 ^ 10 → allowed_value (is_from_to low high) e (number_in (decimal n)) ≡ Ok n
allowed-decimal low high n e above below small =
    ap (allowed_value (is_from_to low high) e) (number_in-decimal n (omega arith))
    ∙ ap (λ b. cond b (Ok n) (Err e)) (and_from (nat_le low n) (nat_le n high) (le-leb low n above) (le-leb n high below))

-- ---- what stands before and behind a mark

module _ (mark : ℕ → Bool) (byte : ℕ) (back : List ℕ) (here : mark byte ≡ true) where
  place_of : (front : List ℕ) → list_all (λ b. not (mark b)) front ≡ true → position_or_len mark (front ++ byte ∷ back) ≡ length front
  place_of [] none = rw here refl
  place_of (b ∷ front) none =
      let h = both_of (not (mark b)) (list_all (λ b. not (mark b)) front) none in
      let rest = place_of front h.1 in
      ap (λ m. cond m (1 + position_or_len mark (front ++ byte ∷ back)) 0) h.0 ∙ omega arith

  pub before_mark : (front : List ℕ) → list_all (λ b. not (mark b)) front ≡ true → before_first mark (front ++ byte ∷ back) ≡ front
  before_mark front none = ap (λ place. take place (front ++ byte ∷ back)) (place_of front none) ∙ take-append_seam front (byte ∷ back)

  pub after_mark : (front : List ℕ) → list_all (λ b. not (mark b)) front ≡ true → after_first mark (front ++ byte ∷ back) ≡ back
  after_mark front none = ap (λ place. drop (place + 1) (front ++ byte ∷ back)) (place_of front none) ∙ drop-append-add front (byte ∷ back) 1
