-- What files of lines stand for.
use Rattle.std.proofs.Common.{◌≡◌, ◌≢◌, inl, inr, ℕ, ◌+◌, ◌<◌, get_or, List, [], ◌∷◌, ◌++◌, length, All, Option, Some, None, take, drop, refl, sym, ◌∙◌, ap, subst, arith, append_assoc}
use Rattle.std.proofs.lemmas.List.{append-nil, take_more, drop_more}
use Rattle.std.proofs.lemmas.List.Elements.{All-nil, All-head, All-tail, All-cons, All-append}
use Rattle.std.proofs.lemmas.Bool.{cases_eq}
use Rattle.std.proofs.lemmas.Bool.Decides.{nat_tests}
use Rattle.rbc_journal.specs.Gates.{lines_from, counted, text, at_rest, IsLine}

abbrev pub NotFeed : ℕ → Type 0
NotFeed byte = byte ≢ 10

pub text-append : (a b : List (List ℕ)) → text (a ++ b) ≡ text a ++ text b
text-append [] b = refl
text-append (line ∷ a) b =
    ap (λ (l : List ℕ). 32 ∷ line ++ 10 ∷ l) (text-append a b) ∙ ap (λ (l : List ℕ). 32 ∷ l) (sym (append_assoc line (10 ∷ text a) (text b)))

-- ---- inside a line

pub no_feed : (line rest : List ℕ) (byte : ℕ) → byte ≢ 10 → lines_from (Some line) (byte ∷ rest) ≡ lines_from (Some (line ++ byte ∷ [])) rest
no_feed line rest byte differs = grind (arith, nat_tests)

pub lines_inside : (front line rest : List ℕ) → IsLine line → lines_from (Some front) (line ++ 10 ∷ rest) ≡ (front ++ line) ∷ counted rest
lines_inside front [] rest is = ap (λ (l : List ℕ). l ∷ counted rest) (sym (append-nil front))
lines_inside front (byte ∷ line) rest is =
    no_feed front (line ++ 10 ∷ rest) byte (All-head NotFeed byte line is) ∙ lines_inside (front ++ byte ∷ []) line rest (All-tail NotFeed byte line is)
    ∙ ap (λ (l : List ℕ). l ∷ counted rest) (append_assoc front (byte ∷ []) line)

pub unfinished : (front line : List ℕ) → IsLine line → lines_from (Some front) line ≡ []
unfinished front [] is = refl
unfinished front (byte ∷ line) is = no_feed front line byte (All-head NotFeed byte line is) ∙ unfinished (front ++ byte ∷ []) line (All-tail NotFeed byte line is)

-- ---- from a gate on

-- a closed gate ends them, whatever stands behind it
pub closed : (gate : ℕ) (rest : List ℕ) → gate ≢ 32 → counted (gate ∷ rest) ≡ []
closed gate rest shut = grind (arith, nat_tests)

pub counted-line : (line rest : List ℕ) → IsLine line → counted (32 ∷ line ++ 10 ∷ rest) ≡ line ∷ counted rest
counted-line line rest is = lines_inside [] line rest is

pub counted-text : (lines : List (List ℕ)) (rest : List ℕ) → All IsLine lines → counted (text lines ++ rest) ≡ lines ++ counted rest
counted-text [] rest are = refl
counted-text (line ∷ lines) rest are =
    ap (λ (l : List ℕ). counted (32 ∷ l)) (append_assoc line (10 ∷ text lines) rest)
    ∙ counted-line line (text lines ++ rest) (All-head IsLine line lines are)
    ∙ ap (λ (ls : List (List ℕ)). line ∷ ls) (counted-text lines rest (All-tail IsLine line lines are))

-- lines, and behind them what stands for none
pub stands_for : (lines : List (List ℕ)) (rest : List ℕ) → All IsLine lines → counted rest ≡ [] → counted (text lines ++ rest) ≡ lines
stands_for lines rest are none = counted-text lines rest are ∙ ap (λ (ls : List (List ℕ)). lines ++ ls) none ∙ append-nil lines

pub counted-at_rest : (lines : List (List ℕ)) → All IsLine lines → counted (at_rest lines) ≡ lines
counted-at_rest lines are = stands_for lines (35 ∷ []) are refl

-- ---- they are lines

snoc_line : (front : List ℕ) (byte : ℕ) → IsLine front → byte ≢ 10 → IsLine (front ++ byte ∷ [])
snoc_line front byte is differs = All-append NotFeed front (byte ∷ []) is (All-cons NotFeed byte [] differs (All-nil NotFeed))

-- what was read of the line that one is inside of
abbrev SoFar : Option (List ℕ) → Type 0
SoFar None = Unit {0}
SoFar (Some front) = IsLine front

are_from : (so_far : Option (List ℕ)) (file : List ℕ) → SoFar so_far → All IsLine (lines_from so_far file)
are_from None [] is = All-nil IsLine
are_from None (gate ∷ file) is = elim (cases_eq gate 32) [
  | inl is_open ↦ subst (λ (g : ℕ). All IsLine (counted (g ∷ file))) (sym is_open) (are_from (Some []) file (All-nil NotFeed))
  | inr shut ↦ subst (All IsLine) (sym (closed gate file shut)) (All-nil IsLine)
]
are_from (Some front) [] is = All-nil IsLine
are_from (Some front) (byte ∷ file) is = elim (cases_eq byte 10) [
  | inl ends ↦ subst (λ (b : ℕ). All IsLine (lines_from (Some front) (b ∷ file))) (sym ends) (All-cons IsLine front (counted file) is (are_from None file tt))
  | inr differs ↦ subst (All IsLine) (sym (no_feed front file byte differs)) (are_from (Some (front ++ byte ∷ [])) file (snoc_line front byte is differs))
]

pub are_lines : (file : List ℕ) → All IsLine (counted file)
are_lines file = are_from None file tt

-- ---- one byte after the other

module _ (bytes : List ℕ) (at : ℕ) (within : at < length bytes) where
  pub more_at : get_or bytes at 0 ≢ 10 → lines_from (Some (take at bytes)) (drop at bytes) ≡ lines_from (Some (take (at + 1) bytes)) (drop (at + 1) bytes)
  more_at differs =
      ap (λ (l : List ℕ). lines_from (Some (take at bytes)) l) (drop_more bytes at 0 within)
      ∙ no_feed (take at bytes) (drop (at + 1) bytes) (get_or bytes at 0) differs
      ∙ ap (λ (l : List ℕ). lines_from (Some l) (drop (at + 1) bytes)) (sym (take_more bytes at 0 within))

  pub line_more : get_or bytes at 0 ≢ 10 → IsLine (take at bytes) → IsLine (take (at + 1) bytes)
  line_more differs is = subst IsLine (sym (take_more bytes at 0 within)) (snoc_line (take at bytes) (get_or bytes at 0) is differs)
