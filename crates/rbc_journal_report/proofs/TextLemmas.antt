-- The first lines of a file.
use Rattle.std.proofs.Common.{◌≡◌, ◌≢◌, inl, inr, ℕ, suc, ◌+◌, ◌-◌, ◌≤◌, List, [], ◌∷◌, ◌++◌, length, All, Option, Some, None, take, refl, sym, ◌∙◌, ap, subst, arith, append_assoc, length-append}
use Rattle.std.proofs.lemmas.List.{append-nil, take_all, take-append-le}
use Rattle.std.proofs.lemmas.List.Elements.{All-nil, All-head, All-tail, All-cons, All-append}
use Rattle.std.proofs.lemmas.Bool.{cases_eq}
use Rattle.std.proofs.lemmas.Bool.Decides.{nat_tests}
use Rattle.rbc_journal.specs.Gates.{lines_from, counted, text, IsLine}
use Rattle.rbc_journal_report.specs.Telling.{IsText}

abbrev pub NotFeed : ℕ → Type 0
NotFeed byte = byte ≢ 10

text-append : (a b : List (List ℕ)) → text (a ++ b) ≡ text a ++ text b
text-append [] b = refl
text-append (line ∷ a) b =
    ap (λ (l : List ℕ). 32 ∷ line ++ 10 ∷ l) (text-append a b) ∙ ap (λ (l : List ℕ). 32 ∷ l) (sym (append_assoc line (10 ∷ text a) (text b)))

-- ---- what lines stand for

no_feed : (line rest : List ℕ) (byte : ℕ) → byte ≢ 10 → lines_from (Some line) (byte ∷ rest) ≡ lines_from (Some (line ++ byte ∷ [])) rest
no_feed line rest byte differs = grind (arith, nat_tests)

closed : (gate : ℕ) (rest : List ℕ) → gate ≢ 32 → counted (gate ∷ rest) ≡ []
closed gate rest shut = grind (arith, nat_tests)

lines_inside : (front line rest : List ℕ) → IsLine line → lines_from (Some front) (line ++ 10 ∷ rest) ≡ (front ++ line) ∷ counted rest
lines_inside front [] rest is = ap (λ (l : List ℕ). l ∷ counted rest) (sym (append-nil front))
lines_inside front (byte ∷ line) rest is =
    no_feed front (line ++ 10 ∷ rest) byte (All-head NotFeed byte line is) ∙ lines_inside (front ++ byte ∷ []) line rest (All-tail NotFeed byte line is)
    ∙ ap (λ (l : List ℕ). l ∷ counted rest) (append_assoc front (byte ∷ []) line)

-- lines, and what stands behind them
pub counted-front : (lines : List (List ℕ)) (rest : List ℕ) → All IsLine lines → counted (text lines ++ rest) ≡ lines ++ counted rest
counted-front [] rest are = refl
counted-front (line ∷ lines) rest are =
    ap (λ (l : List ℕ). counted (32 ∷ l)) (append_assoc line (10 ∷ text lines) rest)
    ∙ lines_inside [] line (text lines ++ rest) (All-head IsLine line lines are)
    ∙ ap (λ (ls : List (List ℕ)). line ∷ ls) (counted-front lines rest (All-tail IsLine line lines are))

-- ---- they are lines

snoc_line : (front : List ℕ) (byte : ℕ) → IsLine front → (byte ≡ 10 → ⊥) → IsLine (front ++ byte ∷ [])
snoc_line front byte is differs = All-append NotFeed front (byte ∷ []) is (All-cons NotFeed byte [] differs (All-nil NotFeed))

-- what was read of the line that one is inside of
abbrev SoFar : Option (List ℕ) → Type 0
SoFar None = Unit {0}
SoFar (Some front) = IsLine front

are_from : (so_far : Option (List ℕ)) (file : List ℕ) → SoFar so_far → All IsLine (lines_from so_far file)
are_from None [] is = All-nil IsLine
are_from None (gate ∷ file) is = elim (cases_eq gate 32) [
  | inl is_open ↦ subst (λ (g : ℕ). All IsLine (counted (g ∷ file))) (sym is_open) (are_from (Some []) file (All-nil NotFeed))
  | inr shut ↦ subst (All IsLine) (sym (closed gate file shut)) (All-nil IsLine)
]
are_from (Some front) [] is = All-nil IsLine
are_from (Some front) (byte ∷ file) is = elim (cases_eq byte 10) [
  | inl ends ↦ subst (λ (b : ℕ). All IsLine (lines_from (Some front) (b ∷ file))) (sym ends) (All-cons IsLine front (counted file) is (are_from None file tt))
  | inr differs ↦ subst (All IsLine) (sym (no_feed front file byte differs)) (are_from (Some (front ++ byte ∷ [])) file (snoc_line front byte is differs))
]

pub are_lines : (file : List ℕ) → All IsLine (counted file)
are_lines file = are_from None file tt

counted-text : (lines : List (List ℕ)) → All IsLine lines → counted (text lines) ≡ lines
counted-text lines are = ap counted (sym (append-nil (text lines))) ∙ counted-front lines [] are ∙ append-nil lines

-- ---- the first lines

take_front : (a b : List ℕ) (n : ℕ) → n ≡ length a → take n (a ++ b) ≡ a
take_front a b n is = take-append-le n a b (omega (arith, is)) ∙ take_all n a (omega (arith, is))

-- lines were read from the front of a file
pub record Front (bytes rest : List ℕ) (count : ℕ) : Type 0 where
  pub lines : List (List ℕ)
  pub split : bytes ≡ text lines ++ rest
  pub read : counted bytes ≡ lines ++ counted rest
  pub are : All IsLine lines
  pub size : length lines ≡ count

module _ (bytes rest : List ℕ) (count : ℕ) (front : Front bytes rest count) where
  pub next_front : (line after : List ℕ) → counted rest ≡ line ∷ counted after → rest ≡ 32 ∷ line ++ 10 ∷ after → IsLine line → Front bytes after (count + 1)
  next_front line after tells reads is = record {
    lines = front.lines ++ line ∷ [];
    split =
        front.split ∙ ap (λ (l : List ℕ). text front.lines ++ l) (reads ∙ ap (λ (l : List ℕ). 32 ∷ l) (sym (append_assoc line (10 ∷ []) after)))
        ∙ sym (append_assoc (text front.lines) (32 ∷ line ++ 10 ∷ []) after)
        ∙ ap (λ (l : List ℕ). l ++ after) (sym (text-append front.lines (line ∷ [])));
    read = front.read ∙ ap (λ (ls : List (List ℕ)). front.lines ++ ls) tells ∙ sym (append_assoc front.lines (line ∷ []) (counted after));
    are = All-append IsLine front.lines (line ∷ []) front.are (All-cons IsLine line [] is (All-nil IsLine));
    size = omega (arith, front.size, length-append front.lines (line ∷ []));
  }

  shown_text : take (length bytes - length rest) bytes ≡ text front.lines
  shown_text =
      ap (λ (l : List ℕ). take (length bytes - length rest) l) front.split
      ∙ take_front (text front.lines) rest (length bytes - length rest) (omega (arith, ap length front.split, length-append (text front.lines) rest))

  shown : counted (take (length bytes - length rest) bytes) ≡ front.lines
  shown = ap counted shown_text ∙ counted-text front.lines front.are

  -- the front is the text of its lines
  pub is_text : (part : List ℕ) → part ≡ take (length bytes - length rest) bytes → IsText part
  is_text part is = is ∙ shown_text ∙ ap text (sym (ap counted is ∙ shown))

  -- there are no more
  pub all_lines : (n : ℕ) → counted rest ≡ [] → count ≤ n → counted (take (length bytes - length rest) bytes) ≡ take n (counted bytes)
  all_lines n none few =
      shown ∙ sym (ap (λ (ls : List (List ℕ)). take n ls) (front.read ∙ ap (λ (ls : List (List ℕ)). front.lines ++ ls) none ∙ append-nil front.lines)
      ∙ take_all n front.lines (omega (arith, front.size, few)))

  pub some_lines : (n : ℕ) → count ≡ n → counted (take (length bytes - length rest) bytes) ≡ take n (counted bytes)
  some_lines n is =
      shown ∙ sym (ap (λ (ls : List (List ℕ)). take n ls) front.read
      ∙ take-append-le n front.lines (counted rest) (omega (arith, front.size, is))
      ∙ take_all n front.lines (omega (arith, front.size, is)))

-- ---- there are fewer lines than bytes

short_from : (so_far : Option (List ℕ)) (file : List ℕ) → length (lines_from so_far file) ≤ length file
short_from None [] = omega arith
short_from None (gate ∷ file) = elim (cases_eq gate 32) [
  | inl is_open ↦ subst (λ (g : ℕ). length (counted (g ∷ file)) ≤ suc (length file)) (sym is_open) (omega (arith, short_from (Some []) file))
  | inr shut ↦ omega (arith, ap length (closed gate file shut))
]
short_from (Some front) [] = omega arith
short_from (Some front) (byte ∷ file) = elim (cases_eq byte 10) [
  | inl ends ↦ subst (λ (b : ℕ). length (lines_from (Some front) (b ∷ file)) ≤ suc (length file)) (sym ends) (omega (arith, short_from None file))
  | inr differs ↦ omega (arith, ap length (no_feed front file byte differs), short_from (Some (front ++ byte ∷ [])) file)
]

pub short : (file : List ℕ) → length (counted file) ≤ length file
short file = short_from None file
