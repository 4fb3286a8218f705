-- Words of a line behind spaces, and the rows of a table of prices, printed one behind another.
use Rattle.std.proofs.Common.{◌≡◌, ℕ, suc, ◌<◌, ◌≤◌, ◌+◌, ◌==◌, true, List, [], ◌∷◌, ◌++◌, refl, sym, ap, ◌∙◌, arith, append_assoc, append-nil, take, drop, drop-cons, take-append-drop, get_or, length, add-one, map}
use Rattle.std.proofs.lemmas.Bool.{eqb-true}
use Rattle.std.specs.List.{join_with_byte}
use Rattle.std.proofs.lemmas.List.{at_drop_all, map-append}
use Rattle.std.proofs.lemmas.Grind.{flat_map-append, get_or_default_zero}
use Rattle.std.specs.Global.{Vec}
use Rattle.std.specs.Prelude.{codes, decimal}
use Rattle.rbc_model.specs.Words.{line_of}
use Rattle.rbc_model.specs.StepsReply.{price_lines}
use Rattle.rbc_words.specs.PriceText.{spaced, prices_of}

-- words of which each but the first stands behind a space
pub join_spaced : (word : List ℕ) (words : List (List ℕ)) → join_with_byte 32 (word ∷ words) ≡ word ++ spaced words
join_spaced word [] = sym (append-nil word)
join_spaced word (next ∷ words) = ap (λ l. word ++ (32 ∷ l)) (join_spaced next words)

-- a line by its first word and those behind it
pub line_of-spaced : (first : List ℕ) (words : List (List ℕ)) → line_of (first ∷ words) ≡ first ++ (spaced words ++ 10 ∷ [])
line_of-spaced first words = ap (λ l. l ++ 10 ∷ []) (join_spaced first words) ∙ append_assoc first (spaced words) (10 ∷ [])

-- a line by its first word and two parts of words behind it
pub line_of-parts : (first : List ℕ) (words more : List (List ℕ))
    → line_of (first ∷ (words ++ more)) ≡ first ++ (spaced words ++ (spaced more ++ 10 ∷ []))
line_of-parts first words more =
    line_of-spaced first (words ++ more)
    ∙ ap (λ l. first ++ (l ++ 10 ∷ [])) (flat_map-append (λ word. 32 ∷ word) words more)
    ∙ ap (λ l. first ++ l) (append_assoc (spaced words) (spaced more) (10 ∷ []))

-- the first of the words that are left, and those behind it
pub spaced-next : {X : Type 0} (text : X → List ℕ) (words : List X) (index : ℕ) (word : X) → index < length words → word ≡ get_or words index word
    → spaced (map text (drop index words)) ≡ (32 ∷ text word) ++ spaced (map text (drop (index + 1) words))
spaced-next text words index word inside same =
    ap (λ ws. spaced (map text ws)) (drop-cons words index word inside)
    ∙ ap (λ w. (32 ∷ text w) ++ spaced (map text (drop (suc index) words))) (sym same)
    ∙ ap (λ i. (32 ∷ text word) ++ spaced (map text (drop i words))) (sym (add-one index))

-- the prices that are left: the first one, and the others behind it
pub prices_left-next : (prices : List ℕ) (index : ℕ) → index < length prices
    → spaced (map decimal (drop index prices)) ≡ (32 ∷ decimal (get_or prices index 0)) ++ spaced (map decimal (drop (index + 1) prices))
prices_left-next prices index inside =
    spaced-next decimal prices index (get_or prices index 0) inside (sym (get_or_default_zero prices index (get_or prices index 0) inside))

-- numbers behind spaces are the first ones, as they are written, and then the rest
pub prices-split : (count : ℕ) (prices front rest text : List ℕ) → front ≡ take count prices → rest ≡ drop count prices
    → text ≡ spaced (map decimal front) → spaced (map decimal prices) ≡ text ++ spaced (map decimal rest)
prices-split count prices front rest text first second same =
    ap (λ ps. spaced (map decimal ps)) (sym (take-append-drop count prices))
    ∙ ap spaced (map-append decimal (take count prices) (drop count prices))
    ∙ flat_map-append (λ word. 32 ∷ word) (map decimal (take count prices)) (map decimal (drop count prices))
    ∙ ap (λ ps. spaced (map decimal ps) ++ spaced (map decimal (drop count prices))) (sym first)
    ∙ ap (λ ps. spaced (map decimal front) ++ spaced (map decimal ps)) (sym second)
    ∙ ap (λ l. l ++ spaced (map decimal rest)) (sym same)

-- no numbers, and no text
pub prices-none : (prices : List ℕ) → (length prices == 0) ≡ true → spaced (map decimal prices) ≡ []
prices-none [] none = refl
prices-none (price ∷ prices) none = let nothing = eqb-true (length (price ∷ prices)) 0 none in absurd (omega arith)

-- no word is left
pub spaced-end : {X : Type 0} (text : X → List ℕ) (words : List X) (index : ℕ) → length words ≤ index → spaced (map text (drop index words)) ≡ []
spaced-end text words index past = at_drop_all (λ ws. spaced (map text ws)) words index past

-- the line of a row of prices, behind how it begins
pub line_of-short : (number : ℕ) (row : List ℕ)
    → line_of (codes "prices" ∷ decimal number ∷ map decimal row) ≡ codes "prices " ++ (decimal number ++ (spaced (map decimal row) ++ 10 ∷ []))
line_of-short number row =
    line_of-spaced (codes "prices") (decimal number ∷ map decimal row)
    ∙ ap (λ l. codes "prices " ++ l) (append_assoc (decimal number) (spaced (map decimal row)) (10 ∷ []))

-- a row of prices, where its head is written first
pub line_of-row : (number : ℕ) (row head : List ℕ) → head ≡ codes "prices " ++ decimal number
    → line_of (codes "prices" ∷ decimal number ∷ map decimal row) ≡ head ++ (spaced (map decimal row) ++ 10 ∷ [])
line_of-row number row head begins =
    let rest = spaced (map decimal row) ++ 10 ∷ [] in
    line_of-short number row
    ∙ sym (append_assoc (codes "prices ") (decimal number) rest)
    ∙ ap (λ l. l ++ rest) (sym begins)

-- the line of the first of the rows that are left, and those behind it
pub prices-next : (rows : List (Vec ℕ)) (index number : ℕ) (row : Vec ℕ) (prices : List ℕ) → index < length rows → row ≡ get_or rows index row
    → prices ≡ row.items
    → price_lines number (prices_of (drop index rows))
    ≡ line_of (codes "prices" ∷ decimal number ∷ map decimal prices) ++ price_lines (number + 1) (prices_of (drop (index + 1) rows))
prices-next rows index number row prices inside same held =
    let both : List ℕ → ℕ → List ℕ =
    λ ps i. line_of (codes "prices" ∷ decimal number ∷ map decimal ps) ++ price_lines (number + 1) (prices_of (drop i rows)) in
    ap (λ rs. price_lines number (prices_of rs)) (drop-cons rows index row inside)
    ∙ ap (λ (r : Vec ℕ). both r.items (suc index)) (sym same)
    ∙ ap (λ i. both row.items i) (sym (add-one index))
    ∙ ap (λ ps. both ps (index + 1)) (sym held)

-- no row is left
pub prices-end : (rows : List (Vec ℕ)) (index number : ℕ) → length rows ≤ index → price_lines number (prices_of (drop index rows)) ≡ []
prices-end rows index number past = at_drop_all (λ rs. price_lines number (prices_of rs)) rows index past
