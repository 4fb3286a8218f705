-- The text that the crate `hex` writes is the one that the replies have.
use Rattle.std.proofs.Common.{◌≡◌, ℕ, ◌<◌, ◌/◌, ◌%◌, ◌==◌, true, false, List, [], length, ◌∷◌, ◌++◌, take, drop, slice_index, refl, sym, ap, ◌∙◌, arith, suc, take-append-drop}
use Rattle.std.specs.Fmt.{digit_glyph}
use Rattle.std.proofs.lemmas.Bool.{eqb-true}
use Rattle.std.proofs.lemmas.Grind.{flat_map-append}
use Rattle.hex.specs.Hex.{IsBytes, encode_lower, encode_with, lower_digits}
use Rattle.rbc_model.specs.Words.{hex_of}
use Rattle.rbc_model.proofs.CountingLemmas.{all_below-holds}

-- a digit of the table
lower_digit : (d : ℕ) → d < 16 → slice_index lower_digits d ≡ digit_glyph false d
lower_digit d small =
    eqb-true (slice_index lower_digits d) (digit_glyph false d)
    (all_below-holds 16 (λ n. slice_index lower_digits n == digit_glyph false n) refl d small)

-- bytes as text, by the crate and by the replies
pub hex_of-encoded : (bytes : List ℕ) → IsBytes bytes → encode_lower bytes ≡ hex_of bytes
unfolding encode_with
hex_of-encoded [] small = refl
hex_of-encoded (byte ∷ bytes) small =
    let fits : byte < 256 = small 0 in
    ap (λ d. d ∷ slice_index lower_digits (byte % 16) ∷ encode_with lower_digits bytes) (lower_digit (byte / 16) (omega arith))
    ∙ ap (λ d. digit_glyph false (byte / 16) ∷ d ∷ encode_with lower_digits bytes) (lower_digit (byte % 16) (omega arith))
    ∙ ap (λ text. digit_glyph false (byte / 16) ∷ digit_glyph false (byte % 16) ∷ text) (hex_of-encoded bytes (λ i. small (suc i)))

-- a byte's two digits
abbrev digit_pair : ℕ → List ℕ
digit_pair byte = digit_glyph false (byte / 16) ∷ digit_glyph false (byte % 16) ∷ []

-- bytes as text are the first ones as text, and then the rest
pub hex_of-split : (count : ℕ) (bytes front rest : List ℕ) → front ≡ take count bytes → rest ≡ drop count bytes → hex_of bytes ≡ hex_of front ++ hex_of rest
hex_of-split count bytes front rest first second =
    ap hex_of (sym (take-append-drop count bytes)) ∙ flat_map-append digit_pair (take count bytes) (drop count bytes)
    ∙ ap (λ l. hex_of l ++ hex_of (drop count bytes)) (sym first) ∙ ap (λ l. hex_of front ++ hex_of l) (sym second)

-- no bytes, and no text
pub hex_of-none : (bytes : List ℕ) → (length bytes == 0) ≡ true → hex_of bytes ≡ []
hex_of-none [] none = refl
hex_of-none (byte ∷ bytes) none = let nothing = eqb-true (length (byte ∷ bytes)) 0 none in absurd (omega arith)
