-- What is printed of the fields one after another, as the texts of all say it.
use Rattle.std.proofs.Common.{◌≡◌, ℕ, ◌||◌, Bool, true, false, List, [], ◌∷◌, ◌++◌, length, drop, drop-cons, get_or, ◌+◌, ◌<◌, ◌≤◌, add-one, Option, Some, None, refl, sym, ap, ap₂, ◌∙◌, append_assoc}
use Rattle.std.specs.List.{flat_map}
use Rattle.std.proofs.lemmas.List.{at_drop_all}
use Rattle.rbc_decode.specs.declared.fields.Item.{Item}
use Rattle.rbc_decode.specs.declared.said.Said.{Said}
use Rattle.rbc_decode.specs.Parts.{parts_text, always}
use Rattle.rbc_decode.specs.Said.{all_said, with_said, said_in}
use Rattle.rbc_decode.specs.Texts.{said_line, said_text, words_text}

-- where nothing depends on those before
pub parts_text-flat : (text : Item → List ℕ) (later : Bool) (items : List Item) → parts_text always (λ before. text) later items ≡ flat_map text items
parts_text-flat text later [] = refl
parts_text-flat text later (item ∷ items) = ap (λ l. text item ++ l) (parts_text-flat text (later || true) items)

said_next : (o : Option Said) (said : List Said) → said_line o ++ flat_map said_text said ≡ flat_map said_text (with_said o said)
said_next None said = refl
said_next (Some x) said = refl

lines_words : (items : List Item) → flat_map (λ item. said_line (said_in item)) items ≡ words_text items
lines_words [] = refl
lines_words (item ∷ items) = ap (λ l. said_line (said_in item) ++ l) (lines_words items) ∙ said_next (said_in item) (all_said items)

-- the words
pub parts_text-words : (items : List Item) → parts_text always (λ before item. said_line (said_in item)) false items ≡ words_text items
parts_text-words items = parts_text-flat (λ item. said_line (said_in item)) false items ∙ lines_words items

-- the first of those that are left, and those behind it
pub parts_text-next : (told : Item → Bool) (text : Bool → Item → List ℕ) (later : Bool) (items : List Item) (index : ℕ) (item : Item) → index < length items
    → parts_text told text later (drop index items)
    ≡ text later (get_or items index item) ++ parts_text told text (later || told (get_or items index item)) (drop (index + 1) items)
parts_text-next told text later items index item inside =
    let first = get_or items index item in
    ap (parts_text told text later) (drop-cons items index item inside)
    ∙ ap (λ i. text later first ++ parts_text told text (later || told first) (drop i items)) (sym (add-one index))

-- what is gathered and what is left, where a part of it is handed on and the next one is gathered
pub gathered_next : (told : Item → Bool) (text : Bool → Item → List ℕ) (later next : Bool) (items : List Item) (index : ℕ) (item : Item) (buffer part room new : List ℕ)
    → index < length items → buffer ≡ part ++ room
    → new ≡ room ++ text later (get_or items index item) → next ≡ (later || told (get_or items index item))
    → buffer ++ parts_text told text later (drop index items) ≡ part ++ (new ++ parts_text told text next (drop (index + 1) items))
gathered_next told text later next items index item buffer part room new inside whole gathered is =
    let first : List ℕ = text later (get_or items index item) in
    let left : Bool → List ℕ = λ b. parts_text told text b (drop (index + 1) items) in
    let behind : List ℕ = left (later || told (get_or items index item)) in
    ap₂ (λ a b. a ++ b) whole (parts_text-next told text later items index item inside)
    ∙ append_assoc part room (first ++ behind)
    ∙ ap (λ l. part ++ l) (sym (append_assoc room first behind) ∙ ap₂ (λ l b. l ++ left b) (sym gathered) (sym is))

-- none is left
pub parts_text-end : (told : Item → Bool) (text : Bool → Item → List ℕ) (later : Bool) (items : List Item) (index : ℕ) → length items ≤ index
    → parts_text told text later (drop index items) ≡ []
parts_text-end told text later items index past = at_drop_all (parts_text told text later) items index past

-- the first of those that are left, and those behind it
pub flat_map-next : {X : Type 0} (text : X → List ℕ) (xs : List X) (index : ℕ) (x : X) → index < length xs
    → flat_map text (drop index xs) ≡ text (get_or xs index x) ++ flat_map text (drop (index + 1) xs)
flat_map-next text xs index x inside =
    ap (λ l. flat_map text l) (drop-cons xs index x inside)
    ∙ ap (λ i. text (get_or xs index x) ++ flat_map text (drop i xs)) (sym (add-one index))
