-- Text in a page, escaped.
use Rattle.std.proofs.Common.{◌≡◌, ℕ, ◌+◌, ◌-◌, ◌<◌, Bool, true, false, ◌&&◌, ◌==◌, if◌then◌else◌, List, [], ◌∷◌, ◌++◌, length, take, drop, get_or, refl, sym, ap, ◌∙◌, codes, take-append-drop, append-nil, add-one, arith}
use Rattle.std.specs.List.{list_all}
use Rattle.std.proofs.Math.Seq.{take-suc}
use Rattle.std.proofs.lemmas.Bool.{eqb-true}
use Rattle.std.proofs.lemmas.Grind.{flat_map-append}
use Rattle.std.proofs.lemmas.List.Folds.{list_all-append}
use Rattle.rbc_streams.proofs.PieceLemmas.{rest_from}
use Rattle.rbc_viewer.specs.Escapes.{escape, escaped, is_plain, read_behind, EscapesArePlain, EscapesAreReadBack}

-- ---- laws

-- a byte, by the answers to what it is asked for
abbrev written_as : ℕ → Bool → Bool → Bool → Bool → List ℕ
written_as byte amp lt gt feed =
    if amp then codes "&amp;" else if lt then codes "&lt;" else if gt then codes "&gt;" else if feed then codes "&#13;" else byte ∷ []

read_one : (byte : ℕ) (amp lt gt feed : Bool) (rest : List ℕ) → (byte == 38) ≡ amp → (byte == 60) ≡ lt → (byte == 62) ≡ gt → (byte == 13) ≡ feed
    → read_behind 0 (written_as byte amp lt gt feed ++ rest) ≡ byte ∷ read_behind 0 rest
read_one byte true lt gt feed rest a l g f = ap (λ b. b ∷ read_behind 0 rest) (sym (eqb-true byte 38 a))
read_one byte false true gt feed rest a l g f = ap (λ b. b ∷ read_behind 0 rest) (sym (eqb-true byte 60 l))
read_one byte false false true feed rest a l g f = ap (λ b. b ∷ read_behind 0 rest) (sym (eqb-true byte 62 g))
read_one byte false false false true rest a l g f = ap (λ b. b ∷ read_behind 0 rest) (sym (eqb-true byte 13 f))
read_one byte false false false false rest a l g f = rw a refl

pub read_back : EscapesAreReadBack
read_back [] = refl
read_back (byte ∷ text) =
    read_one byte (byte == 38) (byte == 60) (byte == 62) (byte == 13) (escaped text) refl refl refl refl ∙ ap (λ t. byte ∷ t) (read_back text)

one_plain : (byte : ℕ) (amp lt gt feed : Bool) → (byte == 60) ≡ lt → (byte == 62) ≡ gt → (byte == 13) ≡ feed
    → list_all is_plain (written_as byte amp lt gt feed) ≡ true
one_plain byte true lt gt feed l g f = refl
one_plain byte false true gt feed l g f = refl
one_plain byte false false true feed l g f = refl
one_plain byte false false false true l g f = refl
one_plain byte false false false false l g f = rw (l, g, f) refl

both : (a b : Bool) → a ≡ true → b ≡ true → (a && b) ≡ true
both true true first second = refl
both true false first second = absurd cc
both false b first second = absurd cc

pub all_plain : EscapesArePlain
all_plain [] = refl
all_plain (byte ∷ text) =
    list_all-append is_plain (escape byte) (escaped text)
    ∙ both _ _ (one_plain byte (byte == 38) (byte == 60) (byte == 62) (byte == 13) refl refl refl) (all_plain text)

-- ---- pieces

-- the bytes up to one, and what is written for it
pub one_behind : (bytes : List ℕ) (count : ℕ) (byte : ℕ) → count < length bytes → byte ≡ get_or bytes count 0 → escaped (take count bytes) ≡ take count bytes
    → escaped (take (count + 1) bytes) ≡ take count bytes ++ escape byte
one_behind bytes count byte within is so_far =
    let one : take (count + 1) bytes ≡ take count bytes ++ byte ∷ [] =
    ap (λ n. take n bytes) (add-one count) ∙ take-suc bytes count 0 within ∙ ap (λ b. take count bytes ++ b ∷ []) (sym is) in
    ap escaped one ∙ flat_map-append escape (take count bytes) (byte ∷ []) ∙ ap (λ l. l ++ escaped (byte ∷ [])) so_far
    ∙ ap (λ l. take count bytes ++ l) (append-nil (escape byte))

-- what is written for a text, by its front and what stands behind that
pub escaped_cut : (count : ℕ) (bytes : List ℕ) → escaped bytes ≡ escaped (take count bytes) ++ escaped (take (length bytes - count) (drop count bytes))
escaped_cut count bytes =
    ap escaped (sym (take-append-drop count bytes)) ∙ flat_map-append escape (take count bytes) (drop count bytes)
    ∙ ap (λ l. escaped (take count bytes) ++ escaped l) (sym (rest_from count bytes))

-- nothing is left
pub escaped_none : (bytes : List ℕ) → (length bytes == 0) ≡ true → escaped bytes ≡ []
escaped_none [] none = refl
escaped_none (byte ∷ bytes) none = let nothing = eqb-true (length (byte ∷ bytes)) 0 none in absurd (omega arith)
