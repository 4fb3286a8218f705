-- The lines that are told, one by one, and how many they are.
use Rattle.std.proofs.Common.{◌≡◌, ℕ, suc, ◌+◌, ◌≤◌, Bool, true, false, List, [], ◌∷◌, length, sym, ap, ◌∙◌, arith, cond}
use Rattle.std.specs.Prelude.{filter, not, if◌then◌else◌}
use Rattle.rbc_journal.specs.Gates.{counted}
use Rattle.rbc_journal.specs.Seals.{is_comment}
use Rattle.rbc_journal.specs.Journal.{told_of}
use Rattle.rbc_journal_report.specs.Telling.{is_kind, count_of}
use Rattle.rbc_journal_report.proofs.TextLemmas.{short}

some_of : {X : Type 0} (is : Bool) (x : X) (xs : List X) (n : ℕ) → length xs ≤ n → length (cond is (x ∷ xs) xs) ≤ suc n
some_of true x xs n few = omega (arith, few)
some_of false x xs n few = omega (arith, few)

few_pass : {X : Type 0} (p : X → Bool) (xs : List X) → length (filter p xs) ≤ length xs
few_pass p [] = omega arith
few_pass p (x ∷ xs) = some_of (p x) x (filter p xs) (length xs) (few_pass p xs)

-- a text tells fewer lines than it has bytes
pub told_short : (file : List ℕ) → length (told_of (counted file)) ≤ length file
told_short file = omega (arith, few_pass (λ line. not (is_comment line)) (counted file), short file)

pub kind_short : (kind : List ℕ) (file : List ℕ) → count_of kind (told_of (counted file)) ≤ length file
kind_short kind file = omega (arith, few_pass (is_kind kind) (told_of (counted file)), told_short file)

one_more : {X : Type 0} (is : Bool) (x : X) (xs : List X) → length (cond is (x ∷ xs) xs) ≡ (if is then 1 else 0) + length xs
one_more true x xs = omega arith
one_more false x xs = omega arith

-- one line more
pub count_next : (kind line : List ℕ) (lines : List (List ℕ)) → count_of kind (line ∷ lines) ≡ (if is_kind kind line then 1 else 0) + count_of kind lines
count_next kind line lines = one_more (is_kind kind line) line (filter (is_kind kind) lines)

pub count_step : (kind line : List ℕ) (rest after : List (List ℕ)) (is : Bool) (one : ℕ) → rest ≡ line ∷ after → is ≡ is_kind kind line
    → one ≡ (if is then 1 else 0) → count_of kind rest ≡ one + count_of kind after
count_step kind line rest after is one tells kinds counts =
    ap (λ (ls : List (List ℕ)). count_of kind ls) tells ∙ count_next kind line after
    ∙ ap (λ (n : ℕ). n + count_of kind after) (sym (counts ∙ ap (λ (b : Bool). if b then 1 else 0) kinds))
