-- What is printed of a message, or of a packet alone, as a line of JSON.
use Rattle.std.specs.Prelude.{ℕ, Bool, true, List, [], ◌∷◌, ◌++◌, ℤ, pos, negsuc, Option, Some, None, if◌then◌else◌, codes}
use Rattle.rbc_model.specs.declared.messages.FieldName.{FieldName}
use Rattle.rbc_model.specs.declared.messages.FieldName.TheVariants.{NID_PACKET}
use Rattle.rbc_model.specs.Messages.{width_of}
use Rattle.rbc_decode.specs.declared.row.Row.{Row}
use Rattle.rbc_decode.specs.declared.row.Row.TheVariants.{Header}
use Rattle.rbc_decode.specs.declared.fields.Found.{Found}
use Rattle.rbc_decode.specs.declared.fields.Item.{Item}
use Rattle.rbc_decode.specs.declared.granted.GrantedLine.{GrantedLine}
use Rattle.rbc_decode.specs.declared.spelling.Wrong.{Wrong}
use Rattle.rbc_decode.specs.declared.spelling.Wrong.TheVariants.{Digits, Overlong}
use Rattle.rbc_decode.specs.declared.said.Said.{Said}
use Rattle.rbc_decode.specs.declared.said.Said.TheVariants.{Time, Country, Group, Nominal, End, Grade, Speed}
use Rattle.rbc_decode.specs.GrantedLines.{ahead_text}
use Rattle.rbc_decode.specs.Rows.{packet_number}
use Rattle.rbc_decode.specs.Readings.{Reading}
use Rattle.rbc_decode.specs.Meanings.{meaning_in}
use Rattle.rbc_decode.specs.Said.{all_said}
use Rattle.rbc_decode.specs.Texts.{name_text, direction_text, fault_text, place_text, measure_text}
use Rattle.serde_json.specs.Data.{Data, null, boolean, number, string, array, object, unsigned, negative, Items, no_items, item, Members, no_members, member}
use Rattle.serde_json.specs.Written.{compact_text}

-- ---- values

abbrev pub counted : ℕ → Data
counted n = number (unsigned n)

abbrev pub whole : ℤ → Data
whole (pos n) = counted n
whole (negsuc n) = number (negative (negsuc n))

-- ---- fields

-- the number of the packet that a field stands in, which its first field has as it was found
abbrev pub packet_of : FieldName → Row → ℕ → ℕ
packet_of NID_PACKET row value = value
packet_of _ row value = packet_number row

-- none for the header
abbrev pub packet_data : Row → ℕ → Data
packet_data Header n = null
packet_data row n = counted n

-- the mark of what stands behind a fault
abbrev pub late_members : Bool → Members
late_members late = if late then member (codes "behind_fault") (boolean true) no_members else no_members

abbrev pub field_data : Item → Data
field_data field =
    object
    (member (codes "packet") (packet_data field.row (packet_of field.name field.row field.value))
    (member (codes "bit") (counted field.bit)
    (member (codes "name") (string (name_text field.name))
    (member (codes "bits") (counted (width_of field.name))
    (member (codes "value") (counted field.value)
    (member (codes "meaning") (string (meaning_in field)) (late_members field.is_late)))))))

abbrev pub field_items : List Item → Items
field_items [] = no_items
field_items (field ∷ fields) = item (field_data field) (field_items fields)

-- ---- words

abbrev pub grade_data : ℕ → ℤ → Data
grade_data from per_mille = object (member (codes "from") (counted from) (member (codes "per_mille") (whole per_mille) no_members))

abbrev pub speed_data : ℕ → ℕ → Data
speed_data from kmh = object (member (codes "from") (counted from) (member (codes "km_per_hour") (counted kmh) no_members))

-- the gradients that are said
abbrev pub grade_items : List Said → Items
grade_items [] = no_items
grade_items (Grade from per_mille ∷ said) = item (grade_data from per_mille) (grade_items said)
grade_items (_ ∷ said) = grade_items said

-- the speeds that are said
abbrev pub speed_items : List Said → Items
speed_items [] = no_items
speed_items (Speed from kmh ∷ said) = item (speed_data from kmh) (speed_items said)
speed_items (_ ∷ said) = speed_items said

-- what else is said, each under its name, in front of these
abbrev pub with_others : List Said → Members → Members
with_others [] later = later
with_others (Time time ∷ said) later = member (codes "time") (counted time) (with_others said later)
with_others (Country country ∷ said) later = member (codes "country") (counted country) (with_others said later)
with_others (Group n ∷ said) later = member (codes "group") (counted n) (with_others said later)
with_others (Nominal nominal ∷ said) later = member (codes "direction") (string (direction_text nominal)) (with_others said later)
with_others (End metres ∷ said) later = member (codes "end") (counted metres) (with_others said later)
with_others (_ ∷ said) later = with_others said later

abbrev pub with_words : List Said → Members → Members
with_words said later = with_others said (member (codes "grades") (array (grade_items said)) (member (codes "speeds") (array (speed_items said)) later))

-- ---- faults

abbrev pub found_data : Found → Data
found_data found =
    object
    (member (codes "fault") (string (fault_text found.fault))
    (member (codes "name") (string (place_text found.place))
    (member (codes "bit") (counted found.bit)
    (member (measure_text found.place) (counted found.value) no_members))))

-- the words, or the first fault
abbrev pub with_outcome : List Item → Option Found → Members → Members
with_outcome items None later = with_words (all_said items) later
with_outcome items (Some found) later = member (codes "refused") (found_data found) later

-- ---- the line `granted` before a message

abbrev pub granted_data : GrantedLine → Data
granted_data granted =
    object
    (member (codes "train") (counted granted.train)
    (member (codes "version") (counted granted.version)
    (member (codes "beginning") (whole granted.beginning)
    (member (codes "obstacle") (string (ahead_text granted.obstacle)) no_members))))

-- what it tells, if it stands there
abbrev pub with_granted : Option GrantedLine → Members → Members
with_granted None later = later
with_granted (Some granted) later = member (codes "granted") (granted_data granted) later

-- ---- a whole message or packet

abbrev pub kind_text : Bool → List ℕ
kind_text packet = if packet then codes "packet" else codes "message"

abbrev pub fields_member : List Item → Members
fields_member items = member (codes "fields") (array (field_items items)) no_members

-- a packet alone or a message: the line that it stands in, what the line `granted` before it tells, its kind, its outcome and its fields
abbrev pub told_data : ℕ → Option GrantedLine → Bool → Reading → Data
told_data place granted packet reading =
    object
    (member (codes "line") (counted place)
    (with_granted granted
    (member (codes "kind") (string (kind_text packet)) (with_outcome reading.items reading.found (fields_member reading.items)))))

-- the value as a line (10 is the line feed)
abbrev pub json_line : Data → List ℕ
json_line value = compact_text value ++ 10 ∷ []

abbrev pub json_text : ℕ → Option GrantedLine → Bool → Reading → List ℕ
json_text place granted packet reading = json_line (told_data place granted packet reading)

-- ---- digits with which something is wrong

abbrev pub wrong_data : Wrong → Data
wrong_data (Digits place) = object (member (codes "fault") (string (codes "Digits")) (member (codes "at") (counted place) no_members))
wrong_data Overlong = object (member (codes "fault") (string (codes "Overlong")) no_members)

abbrev pub wrong_json : ℕ → Wrong → List ℕ
wrong_json place wrong = json_line (object (member (codes "line") (counted place) (member (codes "refused") (wrong_data wrong) no_members)))
