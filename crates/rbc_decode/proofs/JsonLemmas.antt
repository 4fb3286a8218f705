-- The line of JSON of a message, piece by piece.
use Rattle.std.proofs.Common.{◌≡◌, ℕ, ◌||◌, Bool, true, false, List, [], ◌∷◌, ◌++◌, codes, decimal, pos, negsuc, ℤ, Option, Some, None, refl, sym, ap, ◌∙◌, append_assoc}
use Rattle.std.proofs.Math.Bool.{or-false}
use Rattle.std.specs.Fmt.{signed_decimal}
use Rattle.json.specs.Print.{escape, quoted, escape_byte}
use Rattle.serde_json.specs.Data.{Data, member, array, string, Members, no_members}
use Rattle.serde_json.specs.Written.{compact_text, comma_if, items_text, members_text}
use Rattle.rbc_model.specs.declared.messages.Fault.{Fault}
use Rattle.rbc_model.specs.declared.messages.Fault.TheVariants.{Short, Number, Length, Field, Padding, Extra}
use Rattle.rbc_model.specs.declared.messages.FieldName.{FieldName}
use Rattle.rbc_model.specs.declared.messages.FieldName.TheVariants.{NID_MESSAGE, L_MESSAGE, T_TRAIN, M_ACK, NID_C, NID_BG, NID_PACKET, Q_DIR, L_PACKET, Q_SCALE, V_LOA, T_LOA, N_ITER, L_ENDSECTION, Q_SECTIONTIMER, Q_ENDTIMER, Q_DANGERPOINT, Q_OVERLAP, D_GRADIENT, Q_GDIR, G_A, D_STATIC, V_STATIC, Q_FRONT}
use Rattle.rbc_decode.specs.declared.fields.Item.{Item}
use Rattle.rbc_decode.specs.declared.fields.Found.{Found}
use Rattle.rbc_decode.specs.declared.fields.FieldPlace.{FieldPlace}
use Rattle.rbc_decode.specs.declared.fields.FieldPlace.TheVariants.{Field as AtField, Missing, Filling, Behind}
use Rattle.rbc_decode.specs.declared.granted.GrantedLine.{GrantedLine}
use Rattle.rbc_decode.specs.declared.said.Said.{Said}
use Rattle.rbc_decode.specs.declared.said.Said.TheVariants.{Time, Country, Group, Nominal, End, Grade, Speed}
use Rattle.rbc_decode.specs.Parts.{parts_text, always}
use Rattle.rbc_decode.specs.Readings.{Reading}
use Rattle.rbc_decode.specs.Said.{all_said, with_said, said_in}
use Rattle.rbc_decode.specs.Texts.{name_text, direction_text, fault_text, place_text, measure_text}
use Rattle.rbc_decode.specs.JsonText.{counted, whole, field_data, field_items, grade_data, speed_data, grade_items, speed_items, with_others, with_words, found_data, granted_data, with_granted, with_outcome, kind_text, fields_member, json_text}
use Rattle.rbc_decode.specs.JsonParts.{field_part, member_part, other_part, if_said, is_grade, grade_part, is_speed, speed_part, array_part, others_part, words_part, outcome_part, granted_part, start_text}
use Rattle.rbc_decode.proofs.PartsLemmas.{parts_text-flat}

-- ---- texts of ours need no escapes

pub escape-name : (name : FieldName) → escape (name_text name) ≡ name_text name
unfolding escape_byte
escape-name NID_MESSAGE = refl
escape-name L_MESSAGE = refl
escape-name T_TRAIN = refl
escape-name M_ACK = refl
escape-name NID_C = refl
escape-name NID_BG = refl
escape-name NID_PACKET = refl
escape-name Q_DIR = refl
escape-name L_PACKET = refl
escape-name Q_SCALE = refl
escape-name V_LOA = refl
escape-name T_LOA = refl
escape-name N_ITER = refl
escape-name L_ENDSECTION = refl
escape-name Q_SECTIONTIMER = refl
escape-name Q_ENDTIMER = refl
escape-name Q_DANGERPOINT = refl
escape-name Q_OVERLAP = refl
escape-name D_GRADIENT = refl
escape-name Q_GDIR = refl
escape-name G_A = refl
escape-name D_STATIC = refl
escape-name V_STATIC = refl
escape-name Q_FRONT = refl

escape-fault : (fault : Fault) → escape (fault_text fault) ≡ fault_text fault
unfolding escape_byte
escape-fault Short = refl
escape-fault Number = refl
escape-fault Length = refl
escape-fault (Field name) = refl
escape-fault Padding = refl
escape-fault Extra = refl

escape-place : (place : FieldPlace) → escape (place_text place) ≡ place_text place
unfolding escape_byte
escape-place (AtField name) = escape-name name
escape-place (Missing name) = escape-name name
escape-place Filling = refl
escape-place Behind = refl

escape-measure : (place : FieldPlace) → escape (measure_text place) ≡ measure_text place
unfolding escape_byte
escape-measure (AtField name) = refl
escape-measure (Missing name) = refl
escape-measure Filling = refl
escape-measure Behind = refl

-- a string that needs none, in front of others
pub quoted-plain : (text rest : List ℕ) → escape text ≡ text → quoted text ++ rest ≡ 34 ∷ (text ++ 34 ∷ rest)
quoted-plain text rest same = ap (λ t. 34 ∷ ((t ++ 34 ∷ []) ++ rest)) same ∙ ap (λ l. 34 ∷ l) (append_assoc text (34 ∷ []) rest)

-- ---- elements

pub whole_text : (z : ℤ) → signed_decimal z ≡ compact_text (whole z)
whole_text (pos n) = refl
whole_text (negsuc n) = refl

-- a gradient
pub grade_text : (comma : List ℕ) (from : ℕ) (z y : ℤ) → y ≡ z
    → comma ++ (codes "{\"from\":" ++ (decimal from ++ (codes ",\"per_mille\":" ++ (signed_decimal y ++ (codes "}" ++ []))))) ≡ comma ++ compact_text (grade_data from z)
unfolding escape_byte
grade_text comma from z y same =
    ap (λ l. comma ++ (codes "{\"from\":" ++ (decimal from ++ (codes ",\"per_mille\":" ++ (l ++ codes "}"))))) (ap signed_decimal same ∙ whole_text z)

-- a speed
pub speed_text : (comma : List ℕ) (from kmh : ℕ)
    → comma ++ (codes "{\"from\":" ++ (decimal from ++ (codes ",\"km_per_hour\":" ++ (decimal kmh ++ (codes "}" ++ []))))) ≡ comma ++ compact_text (speed_data from kmh)
unfolding escape_byte
speed_text comma from kmh = refl

-- what is found
pub found_text : (found : Found)
    → codes ",\"refused\":{\"fault\":\"" ++ (fault_text found.fault ++ (codes "\",\"name\":\"" ++ (place_text found.place ++ (codes "\",\"bit\":" ++ (decimal found.bit
    ++ (codes ",\"" ++ (measure_text found.place ++ (codes "\":" ++ (decimal found.value ++ (codes "}" ++ [])))))))))) ≡ member_part (codes "refused") (found_data found)
unfolding escape_byte
found_text found =
    let last : List ℕ = 58 ∷ (decimal found.value ++ codes "}") in
    let bit : List ℕ → List ℕ = λ l. codes ",\"bit\":" ++ (decimal found.bit ++ (44 ∷ l)) in
    let name : List ℕ → List ℕ = λ l. codes ",\"name\":" ++ l in
    let start : List ℕ → List ℕ = λ l. codes ",\"refused\":{\"fault\":" ++ l in
    let measure = sym (quoted-plain (measure_text found.place) last (escape-measure found.place)) in
    ap (λ l. start (34 ∷ (fault_text found.fault ++ 34 ∷ name (34 ∷ (place_text found.place ++ 34 ∷ bit l))))) measure
    ∙ ap (λ l. start (34 ∷ (fault_text found.fault ++ 34 ∷ name l))) (sym (quoted-plain (place_text found.place) (bit (quoted (measure_text found.place) ++ last)) (escape-place found.place)))
    ∙ ap start (sym (quoted-plain (fault_text found.fault) (name (quoted (place_text found.place) ++ bit (quoted (measure_text found.place) ++ last))) (escape-fault found.fault)))

-- two objects end, and the line
pub closed : (d : List ℕ) → ((d ++ 125 ∷ []) ++ 125 ∷ []) ++ 10 ∷ [] ≡ d ++ codes "}}\n"
closed d = ap (λ l. l ++ 10 ∷ []) (append_assoc d (125 ∷ []) (125 ∷ [])) ∙ append_assoc d (125 ∷ 125 ∷ []) (10 ∷ [])

-- ---- arrays

regroup : (a b c d : List ℕ) → ((a ++ b) ++ c) ++ d ≡ a ++ (b ++ (c ++ d))
regroup a b c d = append_assoc (a ++ b) c d ∙ append_assoc a b (c ++ d)

or_true : (later : Bool) → (later || true) ≡ true
or_true true = refl
or_true false = refl

pub fields_text : (later : Bool) (items : List Item) → parts_text always field_part later items ++ 93 ∷ [] ≡ items_text later (field_items items)
fields_text later [] = refl
fields_text later (item ∷ items) =
    ap (λ l. (field_part later item ++ parts_text always field_part l items) ++ 93 ∷ []) (or_true later)
    ∙ regroup (comma_if later) (compact_text (field_data item)) (parts_text always field_part true items) (93 ∷ [])
    ∙ ap (λ l. comma_if later ++ (compact_text (field_data item) ++ l)) (fields_text true items)

grade_next : (later : Bool) (o : Option Said) (said : List Said) (rest : Bool → List ℕ) → ((l : Bool) → rest l ++ 93 ∷ [] ≡ items_text l (grade_items said))
    → (if_said (grade_part later) o ++ rest (later || is_grade o)) ++ 93 ∷ [] ≡ items_text later (grade_items (with_said o said))
grade_next later None said rest h = ap (λ l. rest l ++ 93 ∷ []) (or-false later) ∙ h later
grade_next later (Some (Time x)) said rest h = ap (λ l. rest l ++ 93 ∷ []) (or-false later) ∙ h later
grade_next later (Some (Country x)) said rest h = ap (λ l. rest l ++ 93 ∷ []) (or-false later) ∙ h later
grade_next later (Some (Group x)) said rest h = ap (λ l. rest l ++ 93 ∷ []) (or-false later) ∙ h later
grade_next later (Some (Nominal x)) said rest h = ap (λ l. rest l ++ 93 ∷ []) (or-false later) ∙ h later
grade_next later (Some (End x)) said rest h = ap (λ l. rest l ++ 93 ∷ []) (or-false later) ∙ h later
grade_next later (Some (Grade from z)) said rest h =
    ap (λ l. ((comma_if later ++ compact_text (grade_data from z)) ++ rest l) ++ 93 ∷ []) (or_true later)
    ∙ regroup (comma_if later) (compact_text (grade_data from z)) (rest true) (93 ∷ [])
    ∙ ap (λ l. comma_if later ++ (compact_text (grade_data from z) ++ l)) (h true)
grade_next later (Some (Speed x y)) said rest h = ap (λ l. rest l ++ 93 ∷ []) (or-false later) ∙ h later

pub grades_text : (later : Bool) (items : List Item)
    → parts_text (λ item. is_grade (said_in item)) (λ before item. if_said (grade_part before) (said_in item)) later items ++ 93 ∷ [] ≡ items_text later (grade_items (all_said items))
grades_text later [] = refl
grades_text later (item ∷ items) =
    grade_next later (said_in item) (all_said items) (λ l. parts_text (λ i. is_grade (said_in i)) (λ before i. if_said (grade_part before) (said_in i)) l items) (λ l. grades_text l items)

speed_next : (later : Bool) (o : Option Said) (said : List Said) (rest : Bool → List ℕ) → ((l : Bool) → rest l ++ 93 ∷ [] ≡ items_text l (speed_items said))
    → (if_said (speed_part later) o ++ rest (later || is_speed o)) ++ 93 ∷ [] ≡ items_text later (speed_items (with_said o said))
speed_next later None said rest h = ap (λ l. rest l ++ 93 ∷ []) (or-false later) ∙ h later
speed_next later (Some (Time x)) said rest h = ap (λ l. rest l ++ 93 ∷ []) (or-false later) ∙ h later
speed_next later (Some (Country x)) said rest h = ap (λ l. rest l ++ 93 ∷ []) (or-false later) ∙ h later
speed_next later (Some (Group x)) said rest h = ap (λ l. rest l ++ 93 ∷ []) (or-false later) ∙ h later
speed_next later (Some (Nominal x)) said rest h = ap (λ l. rest l ++ 93 ∷ []) (or-false later) ∙ h later
speed_next later (Some (End x)) said rest h = ap (λ l. rest l ++ 93 ∷ []) (or-false later) ∙ h later
speed_next later (Some (Grade x y)) said rest h = ap (λ l. rest l ++ 93 ∷ []) (or-false later) ∙ h later
speed_next later (Some (Speed from kmh)) said rest h =
    ap (λ l. ((comma_if later ++ compact_text (speed_data from kmh)) ++ rest l) ++ 93 ∷ []) (or_true later)
    ∙ regroup (comma_if later) (compact_text (speed_data from kmh)) (rest true) (93 ∷ [])
    ∙ ap (λ l. comma_if later ++ (compact_text (speed_data from kmh) ++ l)) (h true)

pub speeds_text : (later : Bool) (items : List Item)
    → parts_text (λ item. is_speed (said_in item)) (λ before item. if_said (speed_part before) (said_in item)) later items ++ 93 ∷ [] ≡ items_text later (speed_items (all_said items))
speeds_text later [] = refl
speeds_text later (item ∷ items) =
    speed_next later (said_in item) (all_said items) (λ l. parts_text (λ i. is_speed (said_in i)) (λ before i. if_said (speed_part before) (said_in i)) l items) (λ l. speeds_text l items)

-- ---- members

member_step : (key : List ℕ) (value : Data) (ms : Members) → members_text true (member key value ms) ≡ member_part key value ++ members_text true ms
member_step key value ms = ap (λ l. 44 ∷ l) (sym (append_assoc (quoted key) (58 ∷ compact_text value) (members_text true ms)))

-- a member and others behind it
member_then : (key : List ℕ) (value : Data) (ms : Members) (rest end : List ℕ) → members_text true ms ≡ rest ++ end
    → members_text true (member key value ms) ≡ (member_part key value ++ rest) ++ end
member_then key value ms rest end h = member_step key value ms ∙ ap (λ l. member_part key value ++ l) h ∙ sym (append_assoc (member_part key value) rest end)

other_next : (o : Option Said) (said : List Said) (later : Members) (rest : List ℕ) → members_text true (with_others said later) ≡ rest ++ members_text true later
    → members_text true (with_others (with_said o said) later) ≡ (if_said other_part o ++ rest) ++ members_text true later
other_next None said later rest h = h
other_next (Some (Time x)) said later rest h = member_then (codes "time") (counted x) (with_others said later) rest (members_text true later) h
other_next (Some (Country x)) said later rest h = member_then (codes "country") (counted x) (with_others said later) rest (members_text true later) h
other_next (Some (Group x)) said later rest h = member_then (codes "group") (counted x) (with_others said later) rest (members_text true later) h
other_next (Some (Nominal x)) said later rest h = member_then (codes "direction") (string (direction_text x)) (with_others said later) rest (members_text true later) h
other_next (Some (End x)) said later rest h = member_then (codes "end") (counted x) (with_others said later) rest (members_text true later) h
other_next (Some (Grade x y)) said later rest h = h
other_next (Some (Speed x y)) said later rest h = h

others_text : (items : List Item) (later : Members) → members_text true (with_others (all_said items) later) ≡ others_part items ++ members_text true later
others_text [] later = refl
others_text (item ∷ items) later = other_next (said_in item) (all_said items) later (others_part items) (others_text items later)

words_text : (items : List Item) (later : Members) → members_text true (with_words (all_said items) later) ≡ words_part items ++ members_text true later
words_text items later =
    let grades = array_part (codes "grades") (grade_items (all_said items)) in
    let speeds = array_part (codes "speeds") (speed_items (all_said items)) in
    let after : Members = member (codes "speeds") (array (speed_items (all_said items))) later in
    others_text items (member (codes "grades") (array (grade_items (all_said items))) after)
    ∙ ap (λ l. others_part items ++ l) (member_then (codes "grades") (array (grade_items (all_said items))) after speeds (members_text true later) (member_step (codes "speeds") (array (speed_items (all_said items))) later))
    ∙ sym (append_assoc (others_part items) (grades ++ speeds) (members_text true later))

outcome_text : (items : List Item) (found : Option Found) (later : Members) → members_text true (with_outcome items found later) ≡ outcome_part items found ++ members_text true later
outcome_text items None later = words_text items later
outcome_text items (Some found) later = member_step (codes "refused") (found_data found) later

-- ---- the whole line

pub others_parts : (items : List Item) → parts_text always (λ before item. if_said other_part (said_in item)) false items ≡ others_part items
others_parts items = parts_text-flat (λ item. if_said other_part (said_in item)) false items

pub grades_array : (items : List Item)
    → codes ",\"grades\":[" ++ (parts_text (λ item. is_grade (said_in item)) (λ before item. if_said (grade_part before) (said_in item)) false items ++ 93 ∷ []) ≡ array_part (codes "grades") (grade_items (all_said items))
unfolding escape_byte
grades_array items = ap (λ l. codes ",\"grades\":[" ++ l) (grades_text false items)

pub speeds_array : (items : List Item)
    → codes ",\"speeds\":[" ++ (parts_text (λ item. is_speed (said_in item)) (λ before item. if_said (speed_part before) (said_in item)) false items ++ 93 ∷ []) ≡ array_part (codes "speeds") (speed_items (all_said items))
unfolding escape_byte
speeds_array items = ap (λ l. codes ",\"speeds\":[" ++ l) (speeds_text false items)

fields_array : (items : List Item) → codes ",\"fields\":[" ++ (parts_text always field_part false items ++ 93 ∷ []) ≡ array_part (codes "fields") (field_items items)
unfolding escape_byte
fields_array items = ap (λ l. codes ",\"fields\":[" ++ l) (fields_text false items)

-- the words, by their parts
pub words_whole : (items : List Item) (others grades speeds : List ℕ) → others ≡ others_part items → grades ≡ array_part (codes "grades") (grade_items (all_said items))
    → speeds ≡ array_part (codes "speeds") (speed_items (all_said items)) → words_part items ≡ others ++ (grades ++ speeds)
words_whole items others grades speeds a b c = rw (a, b, c) refl

granted_then : (granted : Option GrantedLine) (later : Members) → members_text true (with_granted granted later) ≡ granted_part granted ++ members_text true later
granted_then None later = refl
granted_then (Some granted) later = member_step (codes "granted") (granted_data granted) later

-- the line, by its parts
pub json_whole : (number : ℕ) (granted : Option GrantedLine) (packet : Bool) (reading : Reading) → json_text number granted packet reading
    ≡ start_text number granted packet
    ++ (outcome_part reading.items reading.found ++ ((codes ",\"fields\":[" ++ (parts_text always field_part false reading.items ++ 93 ∷ [])) ++ codes "}\n"))
unfolding escape_byte
json_whole number granted packet reading =
    let outcome = outcome_part reading.items reading.found in
    let fields = array_part (codes "fields") (field_items reading.items) in
    let rest = members_text true (with_outcome reading.items reading.found (fields_member reading.items)) in
    let behind : rest ≡ outcome ++ (fields ++ 125 ∷ []) =
    outcome_text reading.items reading.found (fields_member reading.items) ∙ ap (λ l. outcome ++ l) (member_step (codes "fields") (array (field_items reading.items)) no_members) in
    let place : List ℕ = decimal number in
    let before : List ℕ = granted_part granted in
    let kind : List ℕ = member_part (codes "kind") (string (kind_text packet)) in
    let members : Members = member (codes "kind") (string (kind_text packet)) (with_outcome reading.items reading.found (fields_member reading.items)) in
    let line : List ℕ → List ℕ = λ l. codes "{\"line\":" ++ l in
    let start : List ℕ = place ++ (before ++ kind) in
    ap (λ m. line (place ++ m) ++ 10 ∷ []) (granted_then granted members)
    ∙ ap (λ m. line (place ++ (before ++ m)) ++ 10 ∷ []) (member_step (codes "kind") (string (kind_text packet)) (with_outcome reading.items reading.found (fields_member reading.items)))
    ∙ ap (λ m. line (place ++ m) ++ 10 ∷ []) (sym (append_assoc before kind rest))
    ∙ ap (λ m. line m ++ 10 ∷ []) (sym (append_assoc place (before ++ kind) rest))
    ∙ ap line (append_assoc start rest (10 ∷ []))
    ∙ ap (λ l. line (start ++ (l ++ 10 ∷ []))) behind
    ∙ ap (λ l. line (start ++ l)) (append_assoc outcome (fields ++ 125 ∷ []) (10 ∷ []))
    ∙ ap (λ l. line (start ++ (outcome ++ l))) (append_assoc fields (125 ∷ []) (10 ∷ []))
    ∙ ap (λ l. line (start ++ (outcome ++ (l ++ 125 ∷ 10 ∷ [])))) (sym (fields_array reading.items))

pub found_by_parts : (found : Found) (fault place measure : List ℕ) → fault ≡ fault_text found.fault → place ≡ place_text found.place → measure ≡ measure_text found.place
    → codes ",\"refused\":{\"fault\":\"" ++ (fault ++ (codes "\",\"name\":\"" ++ (place ++ (codes "\",\"bit\":" ++ (decimal found.bit
    ++ (codes ",\"" ++ (measure ++ (codes "\":" ++ (decimal found.value ++ (codes "}" ++ [])))))))))) ≡ member_part (codes "refused") (found_data found)
found_by_parts found fault place measure a b c =
    let last : List ℕ → List ℕ = λ m. codes "\",\"bit\":" ++ (decimal found.bit ++ (codes ",\"" ++ (m ++ (codes "\":" ++ (decimal found.value ++ (codes "}" ++ [])))))) in
    let line : List ℕ → List ℕ → List ℕ → List ℕ = λ f p m. codes ",\"refused\":{\"fault\":\"" ++ (f ++ (codes "\",\"name\":\"" ++ (p ++ last m))) in
    ap (λ f. line f place measure) a ∙ ap (λ p. line (fault_text found.fault) p measure) b ∙ ap (λ m. line (fault_text found.fault) (place_text found.place) m) c ∙ found_text found
