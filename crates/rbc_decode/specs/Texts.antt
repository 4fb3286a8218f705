-- What is printed of a message, or of a packet alone: each field with its first bit, its name, its width, its value and its meaning, and then what the fields
-- say in words, or the first fault.
use Rattle.std.specs.Prelude.{ℕ, ◌||◌, ◌&&◌, Bool, true, false, List, [], ◌∷◌, ◌++◌, Option, Some, None, ◌==◌, if◌then◌else◌, codes, decimal}
use Rattle.std.specs.Fmt.{signed_decimal}
-- in base 10, where the code has numbers in its texts
pub use Rattle.std.specs.Fmt.{digits}
use Rattle.std.specs.List.{flat_map}
use Rattle.rbc_model.specs.declared.limits.TheConstants.{AUTHORITY_PACKET, GRADIENT_PACKET, SPEED_PACKET}
use Rattle.rbc_model.specs.declared.messages.FieldName.{FieldName}
use Rattle.rbc_model.specs.declared.messages.FieldName.TheVariants.{NID_MESSAGE, L_MESSAGE, T_TRAIN, M_ACK, NID_C, NID_BG, NID_PACKET, Q_DIR, L_PACKET, Q_SCALE, V_LOA, T_LOA, N_ITER, L_ENDSECTION, Q_SECTIONTIMER, Q_ENDTIMER, Q_DANGERPOINT, Q_OVERLAP, D_GRADIENT, Q_GDIR, G_A, D_STATIC, V_STATIC, Q_FRONT}
use Rattle.rbc_model.specs.declared.messages.Fault.{Fault}
use Rattle.rbc_model.specs.declared.messages.Fault.TheVariants.{Short, Number, Length, Field, Padding, Extra}
use Rattle.rbc_model.specs.Messages.{width_of}
use Rattle.rbc_model.specs.Words.{line_of}
use Rattle.rbc_decode.specs.declared.row.Row.{Row}
use Rattle.rbc_decode.specs.declared.row.Row.TheVariants.{Header, Authority, GradientHead, SpeedHead, SpeedStep, SpeedEnd}
use Rattle.rbc_decode.specs.declared.fields.Found.{Found}
use Rattle.rbc_decode.specs.declared.fields.FieldPlace.{FieldPlace}
use Rattle.rbc_decode.specs.declared.fields.FieldPlace.TheVariants.{Field as AtField, Missing, Filling, Behind}
use Rattle.rbc_decode.specs.declared.fields.Item.{Item}
use Rattle.rbc_decode.specs.declared.spelling.Wrong.{Wrong}
use Rattle.rbc_decode.specs.declared.spelling.Wrong.TheVariants.{Digits, Overlong}
use Rattle.rbc_decode.specs.declared.said.Said.{Said}
use Rattle.rbc_decode.specs.declared.said.Said.TheVariants.{Time, Country, Group, Nominal, End, Grade, Speed}
use Rattle.rbc_decode.specs.Readings.{Reading}
use Rattle.rbc_decode.specs.Meanings.{meaning_in}
use Rattle.rbc_decode.specs.Said.{all_said}

-- ---- fields

abbrev pub name_text : FieldName → List ℕ
name_text NID_MESSAGE = codes "NID_MESSAGE"
name_text L_MESSAGE = codes "L_MESSAGE"
name_text T_TRAIN = codes "T_TRAIN"
name_text M_ACK = codes "M_ACK"
name_text NID_C = codes "NID_C"
name_text NID_BG = codes "NID_BG"
name_text NID_PACKET = codes "NID_PACKET"
name_text Q_DIR = codes "Q_DIR"
name_text L_PACKET = codes "L_PACKET"
name_text Q_SCALE = codes "Q_SCALE"
name_text V_LOA = codes "V_LOA"
name_text T_LOA = codes "T_LOA"
name_text N_ITER = codes "N_ITER"
name_text L_ENDSECTION = codes "L_ENDSECTION"
name_text Q_SECTIONTIMER = codes "Q_SECTIONTIMER"
name_text Q_ENDTIMER = codes "Q_ENDTIMER"
name_text Q_DANGERPOINT = codes "Q_DANGERPOINT"
name_text Q_OVERLAP = codes "Q_OVERLAP"
name_text D_GRADIENT = codes "D_GRADIENT"
name_text Q_GDIR = codes "Q_GDIR"
name_text G_A = codes "G_A"
name_text D_STATIC = codes "D_STATIC"
name_text V_STATIC = codes "V_STATIC"
name_text Q_FRONT = codes "Q_FRONT"

-- the line of a field from behind its first bit up to its value
abbrev pub field_start : FieldName → List ℕ
field_start name = codes "  " ++ (name_text name ++ (codes "  " ++ (decimal (width_of name) ++ codes "  ")))

-- whether a field says what there is at the place of the distance before it
abbrev pub is_inner : FieldName → Row → ℕ → Bool
is_inner Q_GDIR row index = true
is_inner G_A row index = true
is_inner V_STATIC row index = true
is_inner Q_FRONT row index = true
is_inner N_ITER SpeedHead index = index == 7
is_inner N_ITER SpeedStep index = true
is_inner N_ITER SpeedEnd index = true
is_inner _ row index = false

-- what a line begins with: a mark where it stands behind a fault, and spaces
abbrev pub lead_text : Bool → Bool → List ℕ
lead_text late inner =
    if late then (if inner then codes "?   " else codes "? ")
    else if inner then codes "    "
    else codes "  "

-- the line of a field: its first bit, its name, its width, its value and what that means (10 is the line feed)
abbrev pub field_line : Item → List ℕ
field_line item =
    lead_text item.is_late (is_inner item.name item.row item.walk.index)
    ++ (decimal item.bit ++ (field_start item.name ++ (decimal item.value ++ (codes "  " ++ (meaning_in item ++ 10 ∷ [])))))

-- the packets that are known
abbrev pub is_packet : ℕ → Bool
is_packet number = (number == AUTHORITY_PACKET) || ((number == GRADIENT_PACKET) || (number == SPEED_PACKET))

abbrev pub packet_start : ℕ → List ℕ
packet_start number = if is_packet number then codes "packet " else codes "packet ? "

-- the line of a row that begins a message or a packet, by the number that was found
abbrev pub row_text : Row → ℕ → List ℕ
row_text Header number = codes "message\n"
row_text _ number = packet_start number ++ (decimal number ++ 10 ∷ [])

abbrev pub begins : Row → Bool
begins Header = true
begins Authority = true
begins GradientHead = true
begins SpeedHead = true
begins _ = false

abbrev pub mark_text : Bool → List ℕ
mark_text late = if late then codes "? " else []

abbrev pub head_text : Item → List ℕ
head_text item = if begins item.row && (item.walk.index == 0) then mark_text item.is_late ++ row_text item.row item.value else []

-- a field, behind the line of what begins with it
abbrev pub item_text : Item → List ℕ
item_text item = head_text item ++ field_line item

-- ---- words

abbrev pub direction_text : Bool → List ℕ
direction_text nominal = if nominal then codes "nominal" else codes "reverse"

-- what is said, in words: the group in two parts (47 is the slash, 10 the line feed)
abbrev pub said_text : Said → List ℕ
said_text (Time time) = line_of (codes "time" ∷ decimal time ∷ [])
said_text (Country country) = codes "group " ++ decimal country
said_text (Group number) = 47 ∷ (decimal number ++ 10 ∷ [])
said_text (Nominal nominal) = line_of (codes "direction" ∷ direction_text nominal ∷ [])
said_text (End metres) = line_of (codes "end" ∷ decimal metres ∷ [])
said_text (Grade from per_mille) = line_of (codes "grade" ∷ decimal from ∷ signed_decimal per_mille ∷ [])
said_text (Speed from kmh) = line_of (codes "speed" ∷ decimal from ∷ decimal kmh ∷ [])

abbrev pub said_line : Option Said → List ℕ
said_line None = []
said_line (Some said) = said_text said

-- ---- faults

abbrev pub fault_text : Fault → List ℕ
fault_text Short = codes "Short"
fault_text Number = codes "Number"
fault_text Length = codes "Length"
fault_text (Field name) = codes "Field"
fault_text Padding = codes "Padding"
fault_text Extra = codes "Extra"

-- what stands at a fault, and whether its value is told or how many bits are left
abbrev pub place_text : FieldPlace → List ℕ
place_text (AtField name) = name_text name
place_text (Missing name) = name_text name
place_text Filling = codes "filling"
place_text Behind = codes "filling"

abbrev pub measure_text : FieldPlace → List ℕ
measure_text (AtField name) = codes "value"
measure_text (Missing name) = codes "left"
measure_text Filling = codes "value"
measure_text Behind = codes "left"

abbrev pub found_line : Found → List ℕ
found_line found =
    line_of (codes "refused" ∷ fault_text found.fault ∷ place_text found.place ∷ codes "bit" ∷ decimal found.bit ∷ measure_text found.place ∷ decimal found.value ∷ [])

-- ---- where it stands

-- which line of the input is answered; nothing is said of the first one
abbrev pub line_text : ℕ → List ℕ
line_text number = if number == 1 then [] else line_of (codes "line" ∷ decimal number ∷ [])

-- ---- a whole message or packet

abbrev pub items_text : List Item → List ℕ
items_text items = flat_map item_text items

abbrev pub words_text : List Item → List ℕ
words_text items = flat_map said_text (all_said items)

-- behind the fields: their words, or the first fault
abbrev pub outcome_text : List Item → Option Found → List ℕ
outcome_text items None = words_text items ++ codes "done\n"
outcome_text items (Some found) = found_line found

abbrev pub reading_text : Reading → List ℕ
reading_text reading = items_text reading.items ++ outcome_text reading.items reading.found

abbrev pub told_text : ℕ → Reading → List ℕ
told_text number reading = line_text number ++ reading_text reading

-- ---- digits with which something is wrong

abbrev pub wrong_line : Wrong → List ℕ
wrong_line (Digits place) = line_of (codes "refused" ∷ codes "Digits" ∷ codes "at" ∷ decimal place ∷ [])
wrong_line Overlong = line_of (codes "refused" ∷ codes "Overlong" ∷ [])

abbrev pub wrong_text : ℕ → Wrong → List ℕ
wrong_text number wrong = line_text number ++ wrong_line wrong
