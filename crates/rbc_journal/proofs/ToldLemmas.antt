-- The lines that are told, one by one.
use Rattle.std.proofs.Common.{◌≡◌, ℕ, zero, suc, ◌+◌, Bool, true, false, List, [], ◌∷◌, Some, drop, ◌∙◌, ap, cond}
use Rattle.std.specs.Prelude.{not, slice_get}
use Rattle.std.proofs.Math.Numerals.{add-one}
use Rattle.rbc_journal.specs.Seals.{is_comment}
use Rattle.rbc_journal.specs.Journal.{told_of}

pub told_line : (line : List ℕ) (lines : List (List ℕ)) → is_comment line ≡ false → told_of (line ∷ lines) ≡ line ∷ told_of lines
told_line line lines is = ap (λ (b : Bool). cond (not b) (line ∷ told_of lines) (told_of lines)) is

pub told_comment : (line : List ℕ) (lines : List (List ℕ)) → is_comment line ≡ true → told_of (line ∷ lines) ≡ told_of lines
told_comment line lines is = ap (λ (b : Bool). cond (not b) (line ∷ told_of lines) (told_of lines)) is

pub at_place : (n : ℕ) (lines : List (List ℕ)) (line : List ℕ) (rest : List (List ℕ)) → drop n lines ≡ line ∷ rest → slice_get lines n ≡ Some line
at_place zero [] line rest is = cc is
at_place zero (first ∷ lines) line rest is = cc is
at_place (suc n) [] line rest is = cc is
at_place (suc n) (first ∷ lines) line rest is = at_place n lines line rest is

behind_place : (n : ℕ) (lines : List (List ℕ)) (line : List ℕ) (rest : List (List ℕ)) → drop n lines ≡ line ∷ rest → drop (suc n) lines ≡ rest
behind_place zero [] line rest is = cc is
behind_place zero (first ∷ lines) line rest is = cc is
behind_place (suc n) [] line rest is = cc is
behind_place (suc n) (first ∷ lines) line rest is = behind_place n lines line rest is

pub next_place : (n : ℕ) (lines : List (List ℕ)) (line : List ℕ) (rest : List (List ℕ)) → drop n lines ≡ line ∷ rest → drop (n + 1) lines ≡ rest
next_place n lines line rest is = ap (λ (k : ℕ). drop k lines) (add-one n) ∙ behind_place n lines line rest is
