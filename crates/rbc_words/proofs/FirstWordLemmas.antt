-- The words of a text, by its first word.
use Rattle.std.proofs.Common.{◌≡◌, ℕ, suc, ◌+◌, ◌-◌, ◌<◌, ◌≤◌, ◌==◌, Bool, true, false, not, cond, ltb, List, [], ◌∷◌, length, take, drop, slice_index, refl, sym, ap, subst, ◌∙◌, arith}
use Rattle.std.specs.Prelude.{filter, Some, None}
use Rattle.std.specs.Option.{unwrap_or}
use Rattle.std.specs.List.{position, position_or_len, slice_split}
use Rattle.std.proofs.lemmas.Grind.{common_steps}
use Rattle.std.proofs.lemmas.List.{nil_from_length}
use Rattle.std.proofs.lemmas.List.Folds.{length-prefix_len}
use Rattle.std.proofs.lemmas.List.Sums.{prefix_len-le-length}
use Rattle.rbc_model.specs.Words.{words_of, is_blank}
use Rattle.rbc_streams.proofs.PieceLemmas.{rest_from}

abbrev is_space : ℕ → Bool
is_space byte = byte == 32

abbrev pub is_letter : ℕ → Bool
is_letter byte = not (byte == 32)

abbrev has_letters : List ℕ → Bool
has_letters word = not (length word == 0)

-- ---- a place that may be the end

place_at : (i n : ℕ) (b : Bool) → ltb i n ≡ b → i ≤ n → unwrap_or (cond b (Some i) None) n ≡ i
place_at i n true e le = refl
place_at i n false e le = grind arith

pub place_or_end : (p : ℕ → Bool) (xs : List ℕ) → unwrap_or (position p xs) (length xs) ≡ position_or_len p xs
place_or_end p xs = place_at (position_or_len p xs) (length xs) (ltb (position_or_len p xs) (length xs)) refl (prefix_len-le-length (λ x. not (p x)) xs)

-- ---- one more byte in front

drop_next : (n x : ℕ) (xs : List ℕ) → drop (1 + n) (x ∷ xs) ≡ drop n xs
drop_next n x xs =
    let e : 1 + n ≡ suc n = omega arith in
    rw e refl

take_next : (n x : ℕ) (xs : List ℕ) → take (1 + n) (x ∷ xs) ≡ x ∷ take n xs
take_next n x xs =
    let e : 1 + n ≡ suc n = omega arith in
    rw e refl

-- ---- leading spaces

spaces_drop_at : (x : ℕ) (xs : List ℕ) (b : Bool) → is_space x ≡ b → words_of (drop (position_or_len is_letter xs) xs) ≡ words_of xs
    → words_of (drop (cond (not (not b)) (1 + position_or_len is_letter xs) 0) (x ∷ xs)) ≡ words_of (x ∷ xs)
spaces_drop_at x xs true e h = rw e (ap words_of (drop_next (position_or_len is_letter xs) x xs) ∙ h)
spaces_drop_at x xs false e h = refl

-- a text has the words that it has without its leading spaces
pub spaces_drop : (text : List ℕ) → words_of (drop (position_or_len is_letter text) text) ≡ words_of text
spaces_drop [] = refl
spaces_drop (x ∷ xs) = spaces_drop_at x xs (is_space x) refl (spaces_drop xs)

-- what follows leading spaces does not begin with one
abbrev BeginsAWord : List ℕ → Type 0
BeginsAWord text = 0 < length text → 0 < position_or_len is_space text

letter_at : (x : ℕ) (xs : List ℕ) (b : Bool) → is_space x ≡ b → BeginsAWord (drop (position_or_len is_letter xs) xs)
    → BeginsAWord (drop (cond (not (not b)) (1 + position_or_len is_letter xs) 0) (x ∷ xs))
letter_at x xs true e h = subst BeginsAWord (sym (drop_next (position_or_len is_letter xs) x xs)) h
letter_at x xs false e h = λ some. rw e (omega arith)

pub letter_first : (text : List ℕ) → BeginsAWord (drop (position_or_len is_letter text) text)
letter_first [] = λ some. some
letter_first (x ∷ xs) = letter_at x xs (is_space x) refl (letter_first xs)

-- ---- the first word

-- the part up to the first space, and the words behind it
record IsFirst (text : List ℕ) (end : ℕ) (others : List (List ℕ)) : Type 0 where
  parts : slice_split is_space text ≡ take end text ∷ others
  words : filter has_letters others ≡ words_of (drop end text)

first_at : (x : ℕ) (xs : List ℕ) (b : Bool) → is_space x ≡ b → (others : List (List ℕ)) × IsFirst xs (position_or_len is_space xs) others
    → (others : List (List ℕ)) × IsFirst (x ∷ xs) (cond (not b) (1 + position_or_len is_space xs) 0) others
first_at x xs true e h = (slice_split is_space xs, record { parts = rw e refl; words = rw e refl })
first_at x xs false e (others, h) = (
  others,
  record {
    parts = rw (e, h.parts) (ap (λ (word : List ℕ). word ∷ others) (sym (take_next (position_or_len is_space xs) x xs)));
    words = h.words ∙ ap words_of (sym (drop_next (position_or_len is_space xs) x xs));
  },
)

is_first : (text : List ℕ) → (others : List (List ℕ)) × IsFirst text (position_or_len is_space text) others
is_first [] = ([], record { parts = refl; words = refl })
is_first (x ∷ xs) = first_at x xs (is_space x) refl (is_first xs)

with_word : (word : List ℕ) (others : List (List ℕ)) → 0 < length word → filter has_letters (word ∷ others) ≡ word ∷ filter has_letters others
with_word word others some =
    let e : (length word == 0) ≡ false = grind arith in
    rw e refl

-- a text that does not begin with a space begins with its first word
pub word_first : (text : List ℕ) → 0 < length (take (position_or_len is_space text) text)
    → words_of text ≡ take (position_or_len is_space text) text ∷ words_of (drop (position_or_len is_space text) text)
word_first text some =
    let first = is_first text in
    ap (filter has_letters) first.1.parts ∙ with_word (take (position_or_len is_space text) text) first.0 some ∙ ap (λ (others : List (List ℕ)). take (position_or_len is_space text) text ∷ others) first.1.words

-- ---- the first byte of the first word

front_byte : (n : ℕ) (word : List ℕ) → 0 < n → slice_index (take n word) 0 ≡ slice_index word 0
front_byte n word some = grind (arith, common_steps)

pub blank_by_byte : (text : List ℕ) (start : ℕ) → start ≡ position_or_len is_letter text → start < length text
    → is_blank (words_of text) ≡ (slice_index text start == 35)
blank_by_byte text start place inside =
    let words = drop start text in
    let cut : words ≡ drop (position_or_len is_letter text) text = ap (λ (k : ℕ). drop k text) place in
    let begins : BeginsAWord words = subst BeginsAWord (sym cut) (letter_first text) in
    let some : 0 < position_or_len is_space words = begins (grind (arith, common_steps)) in
    let first : words_of text ≡ take (position_or_len is_space words) words ∷ words_of (drop (position_or_len is_space words) words) =
    sym (spaces_drop text) ∙ ap words_of (sym cut) ∙ word_first words (rw (length-prefix_len (λ byte. not (is_space byte)) words) some) in
    ap is_blank first ∙ ap (λ (byte : ℕ). byte == 35) (front_byte (position_or_len is_space words) words some ∙ grind (arith, common_steps))

-- ---- both, as a slice is cut

pub no_word : (text : List ℕ) (start : ℕ) → start ≡ position_or_len is_letter text → length (take (length text - start) (drop start text)) ≡ 0 → words_of text ≡ []
no_word text start e none =
    let nothing : drop start text ≡ [] = sym (rest_from start text) ∙ nil_from_length _ none in
    sym (spaces_drop text) ∙ ap words_of (ap (λ (k : ℕ). drop k text) (sym e) ∙ nothing)

pub one_word : (text words : List ℕ) (start : ℕ) → start ≡ position_or_len is_letter text → words ≡ take (length text - start) (drop start text) → 0 < length words
    → words_of text ≡ take (position_or_len is_space words) words ∷ words_of (drop (position_or_len is_space words) words)
one_word text words start place e some =
    let cut : words ≡ drop (position_or_len is_letter text) text = e ∙ rest_from start text ∙ ap (λ (k : ℕ). drop k text) place in
    let begins : BeginsAWord words = subst BeginsAWord (sym cut) (letter_first text) in
    sym (spaces_drop text) ∙ ap words_of (sym cut) ∙ word_first words (rw (length-prefix_len (λ byte. not (is_space byte)) words) (begins some))
