-- What words of digits spell, one behind another.
use Rattle.std.proofs.Common.{◌≡◌, ℕ, ◌+◌, ◌≤◌, false, nat_lt, arith, List, [], ◌∷◌, ◌++◌, length, Result, Ok, Err, refl, sym, ap, ◌∙◌, append_assoc}
use Rattle.rbc_decode.specs.declared.spelling.Wrong.{Wrong}
use Rattle.rbc_decode.specs.Spelling.{behind_word, bytes_in, in_front, spelled, without_prefix}

pub in_front_none : (later : Result (List ℕ) Wrong) → in_front [] later ≡ later
in_front_none (Ok bytes) = refl
in_front_none (Err wrong) = refl

in_front_both : (a b : List ℕ) (later : Result (List ℕ) Wrong) → in_front a (in_front b later) ≡ in_front (a ++ b) later
in_front_both a b (Ok bytes) = ap Ok (sym (append_assoc a b bytes))
in_front_both a b (Err wrong) = refl

-- a further word was spelled
pub word_spelled : (whole : Result (List ℕ) Wrong) (before after : List ℕ) (count next : ℕ) (word : List ℕ) (words rest : List (List ℕ)) (digits : List ℕ)
    → whole ≡ in_front before (spelled count rest) → rest ≡ word ∷ words → digits ≡ without_prefix word
    → ((later : Result (List ℕ) Wrong) → behind_word count digits later ≡ in_front (bytes_in digits) later)
    → after ≡ before ++ bytes_in digits → next ≡ count + length digits
    → whole ≡ in_front after (spelled next words)
word_spelled whole before after count next word words rest digits all is same spells more counts =
    all
    ∙ ap (λ r. in_front before (spelled count r)) is
    ∙ ap (λ d. in_front before (behind_word count d (spelled (count + length d) words))) (sym same)
    ∙ ap (in_front before) (spells (spelled (count + length digits) words))
    ∙ in_front_both before (bytes_in digits) (spelled (count + length digits) words)
    ∙ ap (λ a. in_front a (spelled (count + length digits) words)) (sym more)
    ∙ ap (λ n. in_front after (spelled n words)) (sym counts)

-- something is wrong with a word
pub word_wrong : (whole : Result (List ℕ) Wrong) (before : List ℕ) (count : ℕ) (word : List ℕ) (words rest : List (List ℕ)) (digits : List ℕ) (wrong : Wrong)
    → whole ≡ in_front before (spelled count rest) → rest ≡ word ∷ words → digits ≡ without_prefix word
    → ((later : Result (List ℕ) Wrong) → behind_word count digits later ≡ Err wrong)
    → whole ≡ Err wrong
word_wrong whole before count word words rest digits wrong all is same fails =
    all
    ∙ ap (λ r. in_front before (spelled count r)) is
    ∙ ap (λ d. in_front before (behind_word count d (spelled (count + length d) words))) (sym same)
    ∙ ap (in_front before) (fails (spelled (count + length digits) words))

-- a line is not too long
pub not_long : (n most : ℕ) → n ≤ most → nat_lt most n ≡ false
not_long n most few = grind (arith, few)
