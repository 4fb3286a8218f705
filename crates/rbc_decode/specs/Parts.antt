-- What is printed of the fields of a message, one after another.
use Rattle.std.specs.Prelude.{ℕ, ◌||◌, Bool, true, List, [], ◌∷◌, ◌++◌}
use Rattle.rbc_decode.specs.declared.fields.Item.{Item}

-- What is printed of each field, by whether one before it was told, and whether it is told itself.
abbrev pub parts_text : (Item → Bool) → (Bool → Item → List ℕ) → Bool → List Item → List ℕ
parts_text told text later [] = []
parts_text told text later (item ∷ items) = text later item ++ parts_text told text (later || told item) items

-- each field is told
abbrev pub always : Item → Bool
always item = true
