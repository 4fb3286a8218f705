-- The lines of a file at rest.
use Rattle.std.proofs.Common.{◌≡◌, ◌≢◌, ℕ, List, [], ◌∷◌, ◌++◌, All, map, refl, ◌∙◌, ap, arith, append_assoc}
use Rattle.std.proofs.lemmas.Bool.Decides.{nat_tests}
use Rattle.std.proofs.lemmas.List.Elements.{All-head, All-tail}
use Rattle.rbc_journal.specs.Gates.{IsLine, text, at_rest}
use Rattle.rbc_journal.specs.Sessions.{with_front, lines_of}

abbrev NotFeed : ℕ → Type 0
NotFeed byte = byte ≢ 10

pub no_feed : (byte : ℕ) (bytes : List ℕ) → byte ≢ 10 → lines_of (byte ∷ bytes) ≡ with_front byte (lines_of bytes)
no_feed byte bytes differs = grind (arith, nat_tests)

pub first_line : (line rest : List ℕ) → IsLine line → lines_of (line ++ 10 ∷ rest) ≡ line ∷ lines_of rest
first_line [] rest is = refl
first_line (byte ∷ line) rest is = no_feed byte (line ++ 10 ∷ rest) (All-head NotFeed byte line is) ∙ ap (with_front byte) (first_line line rest (All-tail NotFeed byte line is))

pub at_rest_lines : (lines : List (List ℕ)) → All IsLine lines → lines_of (at_rest lines) ≡ map (λ line. 32 ∷ line) lines ++ (35 ∷ []) ∷ []
at_rest_lines [] are = refl
at_rest_lines (line ∷ lines) are =
    ap (λ (l : List ℕ). with_front 32 (lines_of l)) (append_assoc line (10 ∷ text lines) (35 ∷ []))
    ∙ ap (with_front 32) (first_line line (at_rest lines) (All-head IsLine line lines are))
    ∙ ap (λ (ls : List (List ℕ)). (32 ∷ line) ∷ ls) (at_rest_lines lines (All-tail IsLine line lines are))
