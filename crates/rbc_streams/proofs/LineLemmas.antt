-- The lines of some bytes, by their first line.
use Rattle.std.proofs.Common.{◌≡◌, ℕ, ◌+◌, ◌<◌, ◌≤◌, suc, Bool, true, false, ◌==◌, if◌then◌else◌, List, [], ◌∷◌, ◌++◌, length, take, drop, refl, sym, ap, ◌∙◌, arith, take-append-drop}
use Rattle.std.proofs.lemmas.Bool.{ne_eqb}
use Rattle.std.proofs.lemmas.List.{length-take-le}
use Rattle.rbc_model.specs.Sessions.{lines_of, with_front, line_feeds}
use Rattle.rbc_streams.specs.LineReading.{HasNoLineFeed}

-- no line feed in front, and none behind
no_feed_head : (byte : ℕ) (bytes : List ℕ) → HasNoLineFeed (byte ∷ bytes) → byte ≡ 10 → ⊥
no_feed_head byte bytes none = none 0 0 (omega arith)

no_feed_tail : (byte : ℕ) (bytes : List ℕ) → HasNoLineFeed (byte ∷ bytes) → HasNoLineFeed bytes
no_feed_tail byte bytes none = λ k d below. none (suc k) d (omega arith)

-- a byte that is no line feed stands in front of the first line
lines_of_front : (byte : ℕ) (bytes : List ℕ) → (byte ≡ 10 → ⊥) → lines_of (byte ∷ bytes) ≡ with_front byte (lines_of bytes)
lines_of_front byte bytes other = rw (ne_eqb byte 10 other) refl

-- a line, and what comes after its line feed
pub lines_of_line : (line rest : List ℕ) → HasNoLineFeed line → lines_of (line ++ 10 ∷ rest) ≡ line ∷ lines_of rest
lines_of_line [] rest none = refl
lines_of_line (byte ∷ line) rest none =
    lines_of_front byte (line ++ 10 ∷ rest) (no_feed_head byte line none) ∙ ap (with_front byte) (lines_of_line line rest (no_feed_tail byte line none))

-- a line that ends with the input
pub lines_of_last : (line : List ℕ) → HasNoLineFeed line → 0 < length line → lines_of line ≡ line ∷ []
lines_of_last [] none some = absurd (omega arith)
lines_of_last (byte ∷ []) none some = lines_of_front byte [] (no_feed_head byte [] none)
lines_of_last (byte ∷ next ∷ line) none some =
    lines_of_front byte (next ∷ line) (no_feed_head byte (next ∷ line) none)
    ∙ ap (with_front byte) (lines_of_last (next ∷ line) (no_feed_tail byte (next ∷ line) none) (omega arith))

-- one more byte in front of n + 1 lines
more_in_front : (is_feed : Bool) (byte : ℕ) (lines : List (List ℕ)) (n : ℕ) → length lines ≡ suc n
    → length (if is_feed then [] ∷ lines else with_front byte lines) ≡ suc (if is_feed then suc n else n)
more_in_front true byte lines n long = ap suc long
more_in_front false byte [] n long = absurd (omega (arith, long))
more_in_front false byte (line ∷ lines) n long = long

-- with a line feed behind them, bytes have one line more than they have line feeds
pub lines_of_fed : (bytes : List ℕ) → length (lines_of (bytes ++ 10 ∷ [])) ≡ suc (line_feeds bytes)
lines_of_fed [] = refl
lines_of_fed (byte ∷ bytes) = more_in_front (byte == 10) byte (lines_of (bytes ++ 10 ∷ [])) (line_feeds bytes) (lines_of_fed bytes)

-- the first line has the byte in front
in_front : (byte : ℕ) (lines : List (List ℕ)) → (first : List ℕ) × (others : List (List ℕ)) × (with_front byte lines ≡ first ∷ others) × (1 ≤ length first)
in_front byte [] = (byte ∷ [], [], refl, omega arith)
in_front byte (line ∷ lines) = (byte ∷ line, lines, refl, omega arith)

-- the first line goes on at least as far as no line feed comes
pub first_line_from : (front rest : List ℕ) → HasNoLineFeed front → 0 < length front
    → (first : List ℕ) × (others : List (List ℕ)) × (lines_of (front ++ rest) ≡ first ∷ others) × (length front ≤ length first)
first_line_from [] rest none some = absurd (omega arith)
first_line_from (byte ∷ []) rest none some =
    let front = in_front byte (lines_of rest) in
    (front.0, front.1, lines_of_front byte rest (no_feed_head byte [] none) ∙ front.2, front.3)
first_line_from (byte ∷ next ∷ front) rest none some =
    let later = first_line_from (next ∷ front) rest (no_feed_tail byte (next ∷ front) none) (omega arith) in
    (byte ∷ later.0, later.1, lines_of_front byte (next ∷ front ++ rest) (no_feed_head byte (next ∷ front) none) ∙ ap (with_front byte) later.2, omega arith)

-- where no line feed is among the first n + 1 bytes, the first line has more than n bytes
pub lines_of_overlong : (bytes : List ℕ) (n : ℕ) → n < length bytes → HasNoLineFeed (take (n + 1) bytes)
    → (first : List ℕ) × (others : List (List ℕ)) × (lines_of bytes ≡ first ∷ others) × (n < length first)
lines_of_overlong bytes n long none =
    let front = length-take-le (n + 1) bytes (omega arith) in
    let found = first_line_from (take (n + 1) bytes) (drop (n + 1) bytes) none (omega arith) in
    (found.0, found.1, ap lines_of (sym (take-append-drop (n + 1) bytes)) ∙ found.2, omega arith)
