-- The line of JSON as the code prints it, piece by piece.
use Rattle.std.specs.Prelude.{ℕ, Bool, true, false, List, [], ◌∷◌, ◌++◌, Option, Some, None, if◌then◌else◌, codes, decimal}
use Rattle.std.specs.List.{flat_map}
use Rattle.rbc_model.specs.declared.messages.FieldName.{FieldName}
use Rattle.rbc_model.specs.Messages.{width_of}
use Rattle.rbc_decode.specs.declared.fields.Found.{Found}
use Rattle.rbc_decode.specs.declared.fields.Item.{Item}
use Rattle.rbc_decode.specs.declared.granted.GrantedLine.{GrantedLine}
use Rattle.rbc_decode.specs.declared.json_line.Piece.{Piece}
use Rattle.rbc_decode.specs.declared.json_line.Piece.TheVariants.{Text, Number}
use Rattle.rbc_decode.specs.declared.said.Said.{Said}
use Rattle.rbc_decode.specs.declared.said.Said.TheVariants.{Time, Country, Group, Nominal, End, Grade, Speed}
use Rattle.rbc_decode.specs.Said.{all_said, said_in}
use Rattle.rbc_decode.specs.Meanings.{meaning_in}
use Rattle.rbc_decode.specs.JsonText.{packet_data, packet_of, field_data, grade_data, speed_data, grade_items, speed_items, counted, found_data, kind_text, granted_data}
use Rattle.rbc_decode.specs.Texts.{name_text, direction_text}
use Rattle.serde_json.specs.Data.{Data, string, array, Items}
use Rattle.serde_json.specs.Written.{compact_text, comma_if}
use Rattle.json.specs.Print.{quoted}

abbrev pub piece_text : Piece → List ℕ
piece_text (Text text) = text.now
piece_text (Number number) = decimal number

abbrev pub pieces_text : List Piece → List ℕ
pieces_text pieces = flat_map piece_text pieces

-- a field up to its first bit
abbrev pub field_front : Item → List ℕ
field_front field =
    codes "{\"packet\":" ++ (compact_text (packet_data field.row (packet_of field.name field.row field.value)) ++ (codes ",\"bit\":" ++ decimal field.bit))

-- the members of a field behind that, up to its value
abbrev pub name_members : FieldName → List ℕ
name_members name = codes ",\"name\":" ++ (quoted (name_text name) ++ (codes ",\"bits\":" ++ (decimal (width_of name) ++ codes ",\"value\":")))

-- behind the meaning of a field: the mark of what stands behind a fault
abbrev pub field_end : Bool → List ℕ
field_end late = if late then codes "\",\"behind_fault\":true}" else codes "\"}"

-- a field from its name on
abbrev pub field_rest : Item → List ℕ
field_rest field = name_members field.name ++ (decimal field.value ++ (codes ",\"meaning\":\"" ++ (meaning_in field ++ field_end field.is_late)))

-- a field among others
abbrev pub field_part : Bool → Item → List ℕ
field_part later field = comma_if later ++ compact_text (field_data field)

-- a member behind others
abbrev pub member_part : List ℕ → Data → List ℕ
member_part key value = 44 ∷ (quoted key ++ 58 ∷ compact_text value)

-- what the line `granted` before it tells, if it stands there
abbrev pub granted_part : Option GrantedLine → List ℕ
granted_part None = []
granted_part (Some granted) = member_part (codes "granted") (granted_data granted)

-- up to the kind of what is told
abbrev pub start_text : ℕ → Option GrantedLine → Bool → List ℕ
start_text number granted packet =
    codes "{\"line\":" ++ (decimal number ++ (granted_part granted ++ member_part (codes "kind") (string (kind_text packet))))

-- what is said but for gradients and speeds
abbrev pub other_part : Said → List ℕ
other_part (Time time) = member_part (codes "time") (counted time)
other_part (Country country) = member_part (codes "country") (counted country)
other_part (Group n) = member_part (codes "group") (counted n)
other_part (Nominal nominal) = member_part (codes "direction") (string (direction_text nominal))
other_part (End metres) = member_part (codes "end") (counted metres)
other_part (Grade from per_mille) = []
other_part (Speed from kmh) = []

abbrev pub is_grade : Option Said → Bool
is_grade (Some (Grade from per_mille)) = true
is_grade _ = false

abbrev pub grade_part : Bool → Said → List ℕ
grade_part later (Grade from per_mille) = comma_if later ++ compact_text (grade_data from per_mille)
grade_part later _ = []

abbrev pub is_speed : Option Said → Bool
is_speed (Some (Speed from kmh)) = true
is_speed _ = false

abbrev pub speed_part : Bool → Said → List ℕ
speed_part later (Speed from kmh) = comma_if later ++ compact_text (speed_data from kmh)
speed_part later _ = []

-- what is printed of it, if something is said
abbrev pub if_said : (Said → List ℕ) → Option Said → List ℕ
if_said text None = []
if_said text (Some said) = text said

abbrev pub array_part : List ℕ → Items → List ℕ
array_part key items = member_part key (array items)

abbrev pub others_part : List Item → List ℕ
others_part items = flat_map (λ field. if_said other_part (said_in field)) items

-- the members of the words
abbrev pub words_part : List Item → List ℕ
words_part items = others_part items ++ (array_part (codes "grades") (grade_items (all_said items)) ++ array_part (codes "speeds") (speed_items (all_said items)))

abbrev pub outcome_part : List Item → Option Found → List ℕ
outcome_part items None = words_part items
outcome_part items (Some found) = member_part (codes "refused") (found_data found)
