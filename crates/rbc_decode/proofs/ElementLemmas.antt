-- A field as an element of JSON, whose texts need no escapes.
use Rattle.std.proofs.Common.{◌≡◌, ℕ, ◌*◌, ◌/◌, ◌%◌, ◌<◌, zero, suc, Bool, true, false, List, [], ◌∷◌, ◌++◌, codes, decimal, pos, refl, sym, ap, ap₂, ◌∙◌, arith, append_assoc, if◌then◌else◌, ◌==◌}
use Rattle.std.specs.Fmt.{signed_decimal, digit_glyph, digits_onto, digits}
use Rattle.std.proofs.lemmas.List.Concat.{flat_map-append}
use Rattle.json.specs.Print.{escape, quoted, escape_byte}
use Rattle.serde_json.specs.Written.{compact_text, members_text}
use Rattle.rbc_model.specs.declared.limits.TheConstants.{MESSAGE_NUMBER, AUTHORITY_PACKET, GRADIENT_PACKET, SPEED_PACKET, NO_TIME_OUT, GRADIENT_END_MARK, SPEED_END_MARK, SPEED_STEP}
use Rattle.rbc_model.specs.declared.messages.FieldName.{FieldName}
use Rattle.rbc_model.specs.declared.messages.FieldName.TheVariants.{NID_MESSAGE, L_MESSAGE, T_TRAIN, M_ACK, NID_C, NID_BG, NID_PACKET, Q_DIR, L_PACKET, Q_SCALE, V_LOA, T_LOA, N_ITER, L_ENDSECTION, Q_SECTIONTIMER, Q_ENDTIMER, Q_DANGERPOINT, Q_OVERLAP, D_GRADIENT, Q_GDIR, G_A, D_STATIC, V_STATIC, Q_FRONT}
use Rattle.rbc_model.specs.Messages.{width_of}
use Rattle.rbc_model.specs.Reading.{signed_value}
use Rattle.rbc_model.specs.Results.{is_from_to}
use Rattle.rbc_decode.specs.declared.row.Row.{Row}
use Rattle.rbc_decode.specs.declared.row.Row.TheVariants.{Header, Authority, GradientHead, GradientStep, GradientEnd, SpeedHead, SpeedStep, SpeedEnd}
use Rattle.rbc_decode.specs.declared.walk.FieldWalk.{FieldWalk}
use Rattle.rbc_decode.specs.declared.fields.Item.{Item}
use Rattle.rbc_decode.specs.JsonText.{packet_data, packet_of, late_members, field_data}
use Rattle.rbc_decode.specs.JsonParts.{field_front, field_rest, field_end}
use Rattle.rbc_decode.specs.Meanings.{numbered, message_meaning, packet_meaning, direction_meaning, scale_meaning, slope_meaning, front_meaning, yes_or_no, time_out_meaning, counted_things, place_meaning, distance_start, grade_meaning, speed_meaning, meaning_by, meaning_in}
use Rattle.rbc_decode.specs.Said.{unit_told}
use Rattle.rbc_decode.specs.Texts.{name_text}
use Rattle.rbc_decode.specs.Walks.{further, scale_told}
use Rattle.rbc_decode.proofs.JsonLemmas.{quoted-plain}

-- ---- texts that need no escapes

abbrev pub Plain : List ℕ → Type 0
Plain text = escape text ≡ text

pub both_plain : (a b : List ℕ) → Plain a → Plain b → Plain (a ++ b)
both_plain a b h k = flat_map-append escape_byte a b ∙ ap₂ (λ x y. x ++ y) h k

either_plain : (t : Bool) (a b : List ℕ) → Plain a → Plain b → Plain (if t then a else b)
either_plain true a b h k = h
either_plain false a b h k = k

glyph_plain : (d : ℕ) → d < 10 → escape_byte (digit_glyph false d) ≡ digit_glyph false d ∷ []
unfolding escape_byte
glyph_plain zero h = refl
glyph_plain (suc zero) h = refl
glyph_plain (suc (suc zero)) h = refl
glyph_plain (suc (suc (suc zero))) h = refl
glyph_plain (suc (suc (suc (suc zero)))) h = refl
glyph_plain (suc (suc (suc (suc (suc zero))))) h = refl
glyph_plain (suc (suc (suc (suc (suc (suc zero)))))) h = refl
glyph_plain (suc (suc (suc (suc (suc (suc (suc zero))))))) h = refl
glyph_plain (suc (suc (suc (suc (suc (suc (suc (suc zero)))))))) h = refl
glyph_plain (suc (suc (suc (suc (suc (suc (suc (suc (suc zero))))))))) h = refl
glyph_plain (suc (suc (suc (suc (suc (suc (suc (suc (suc (suc d)))))))))) h = absurd (omega arith)

digits_plain : (k n : ℕ) (behind : List ℕ) → Plain behind → Plain (digits_onto k 10 false n behind)
digits_plain zero n behind h = h
digits_plain (suc k) n behind h =
    let last : List ℕ = digit_glyph false (n % 10) ∷ behind in
    let plain : Plain last = ap₂ (λ x y. x ++ y) (glyph_plain (n % 10) (omega arith)) h in
    either_plain (n / 10 == 0) last (digits_onto k 10 false (n / 10) last) plain (digits_plain k (n / 10) last plain)

pub decimal_plain : (n : ℕ) → Plain (decimal n)
unfolding digits
decimal_plain n = digits_plain 64 n [] refl

numbered_plain : (before : List ℕ) (n : ℕ) (after : List ℕ) → Plain before → Plain after → Plain (numbered before n after)
numbered_plain before n after h k = both_plain before (decimal n ++ after) h (both_plain (decimal n) after (decimal_plain n) k)

-- a number below 0
minus_plain : (n : ℕ) → Plain (signed_decimal (signed_value 0 n))
unfolding escape_byte
minus_plain zero = decimal_plain 0
minus_plain (suc n) = ap (λ l. 45 ∷ l) (decimal_plain (suc n))

sign_plain : (t : Bool) (n : ℕ) → Plain (signed_decimal (if t then pos n else signed_value 0 n))
sign_plain true n = decimal_plain n
sign_plain false n = minus_plain n

signed_plain : (uphill n : ℕ) → Plain (signed_decimal (signed_value uphill n))
signed_plain uphill n = sign_plain (uphill == 1) n

-- ---- meanings

things_plain : (row : Row) (index : ℕ) → Plain (counted_things row index)
unfolding escape_byte
things_plain Header index = refl
things_plain Authority index = refl
things_plain GradientHead index = refl
things_plain GradientStep index = refl
things_plain GradientEnd index = refl
things_plain SpeedHead index = either_plain (index == 8) (codes " further elements") (codes " train categories") refl refl
things_plain SpeedStep index = refl
things_plain SpeedEnd index = refl

start_plain : (row : Row) → Plain (distance_start row)
unfolding escape_byte
start_plain Header = refl
start_plain Authority = refl
start_plain GradientHead = refl
start_plain GradientStep = refl
start_plain GradientEnd = refl
start_plain SpeedHead = refl
start_plain SpeedStep = refl
start_plain SpeedEnd = refl

place_plain : (walk : FieldWalk) (before : List ℕ) (units : ℕ) → Plain before → Plain (place_meaning walk before units)
unfolding escape_byte
place_plain walk before units plain =
    either_plain (is_from_to 1 2 (scale_told walk.scale)) (numbered before (unit_told walk * units) (codes " m")) (numbered before units (codes " units"))
    (numbered_plain before (unit_told walk * units) (codes " m") plain refl)
    (numbered_plain before units (codes " units") plain refl)

grade_plain : (walk : FieldWalk) (size : ℕ) → Plain (grade_meaning walk size)
unfolding escape_byte
grade_plain walk size =
    either_plain (size == GRADIENT_END_MARK) (place_meaning walk (codes "end at ") walk.from)
    (signed_decimal (signed_value walk.uphill size) ++ place_meaning walk (codes " per mille from ") walk.from)
    (place_plain walk (codes "end at ") walk.from refl)
    (both_plain (signed_decimal (signed_value walk.uphill size)) (place_meaning walk (codes " per mille from ") walk.from)
    (signed_plain walk.uphill size) (place_plain walk (codes " per mille from ") walk.from refl))

speed_plain : (walk : FieldWalk) (fives : ℕ) → Plain (speed_meaning walk fives)
unfolding escape_byte
speed_plain walk fives =
    either_plain (fives == SPEED_END_MARK) (place_meaning walk (codes "end at ") walk.from) (decimal (SPEED_STEP * fives) ++ place_meaning walk (codes " km/h from ") walk.from)
    (place_plain walk (codes "end at ") walk.from refl)
    (both_plain (decimal (SPEED_STEP * fives)) (place_meaning walk (codes " km/h from ") walk.from)
    (decimal_plain (SPEED_STEP * fives)) (place_plain walk (codes " km/h from ") walk.from refl))

time_out_plain : (seconds : ℕ) → Plain (time_out_meaning seconds)
unfolding escape_byte
time_out_plain seconds =
    either_plain (seconds == NO_TIME_OUT) (codes "no time-out") (numbered [] seconds (codes " s")) refl (numbered_plain [] seconds (codes " s") refl refl)

message_plain : (n : ℕ) → Plain (message_meaning n)
unfolding escape_byte
message_plain n = either_plain (n == MESSAGE_NUMBER) (codes "movement authority") (codes "another message") refl refl

packet_plain : (n : ℕ) → Plain (packet_meaning n)
unfolding escape_byte
packet_plain n =
    let last : List ℕ = if n == SPEED_PACKET then codes "speeds" else codes "another packet" in
    let later : List ℕ = if n == GRADIENT_PACKET then codes "gradients" else last in
    either_plain (n == AUTHORITY_PACKET) (codes "movement authority") later refl
    (either_plain (n == GRADIENT_PACKET) (codes "gradients") last refl
    (either_plain (n == SPEED_PACKET) (codes "speeds") (codes "another packet") refl refl))

direction_plain : (n : ℕ) → Plain (direction_meaning n)
unfolding escape_byte
direction_plain n =
    let last : List ℕ = if n == 2 then codes "both directions" else codes "spare" in
    let later : List ℕ = if n == 1 then codes "nominal" else last in
    either_plain (n == 0) (codes "reverse") later refl
    (either_plain (n == 1) (codes "nominal") last refl
    (either_plain (n == 2) (codes "both directions") (codes "spare") refl refl))

scale_plain : (n : ℕ) → Plain (scale_meaning n)
unfolding escape_byte
scale_plain n =
    let last : List ℕ = if n == 2 then codes "units of 10 m" else codes "spare" in
    let later : List ℕ = if n == 1 then codes "units of 1 m" else last in
    either_plain (n == 0) (codes "units of 10 cm") later refl
    (either_plain (n == 1) (codes "units of 1 m") last refl
    (either_plain (n == 2) (codes "units of 10 m") (codes "spare") refl refl))

slope_plain : (n : ℕ) → Plain (slope_meaning n)
unfolding escape_byte
slope_plain n = either_plain (n == 1) (codes "uphill") (codes "downhill") refl refl

front_plain : (n : ℕ) → Plain (front_meaning n)
unfolding escape_byte
front_plain n = either_plain (n == 0) (codes "train length delay") (codes "no train length delay") refl refl

answer_plain : (n : ℕ) → Plain (yes_or_no n)
unfolding escape_byte
answer_plain n = either_plain (n == 0) (codes "no") (codes "yes") refl refl

meaning_plain : (name : FieldName) (walk : FieldWalk) (row : Row) (value : ℕ) → Plain (meaning_by name walk row value)
unfolding escape_byte meaning_by
meaning_plain NID_MESSAGE walk row value = message_plain value
meaning_plain L_MESSAGE walk row value = numbered_plain [] value (codes " bytes") refl refl
meaning_plain T_TRAIN walk row value = numbered_plain [] (10 * value) (codes " ms") refl refl
meaning_plain M_ACK walk row value = answer_plain value
meaning_plain NID_C walk row value = refl
meaning_plain NID_BG walk row value = refl
meaning_plain NID_PACKET walk row value = packet_plain value
meaning_plain Q_DIR walk row value = direction_plain value
meaning_plain L_PACKET walk row value = numbered_plain [] value (codes " bits") refl refl
meaning_plain Q_SCALE walk row value = scale_plain value
meaning_plain V_LOA walk row value = numbered_plain [] (SPEED_STEP * value) (codes " km/h") refl refl
meaning_plain T_LOA walk row value = time_out_plain value
meaning_plain N_ITER walk row value = numbered_plain [] value (counted_things row walk.index) refl (things_plain row walk.index)
meaning_plain L_ENDSECTION walk row value = place_plain walk (codes "end at ") value refl
meaning_plain Q_SECTIONTIMER walk row value = answer_plain value
meaning_plain Q_ENDTIMER walk row value = answer_plain value
meaning_plain Q_DANGERPOINT walk row value = answer_plain value
meaning_plain Q_OVERLAP walk row value = answer_plain value
meaning_plain D_GRADIENT walk row value = place_plain walk (distance_start row) (further walk.from value) (start_plain row)
meaning_plain Q_GDIR walk row value = slope_plain value
meaning_plain G_A walk row value = grade_plain walk value
meaning_plain D_STATIC walk row value = place_plain walk (distance_start row) (further walk.from value) (start_plain row)
meaning_plain V_STATIC walk row value = speed_plain walk value
meaning_plain Q_FRONT walk row value = front_plain value

-- ---- a field as an element

end_is : (late : Bool) → 34 ∷ members_text true (late_members late) ≡ field_end late
unfolding escape_byte
end_is true = refl
end_is false = refl

pub field_json : (item : Item) → field_front item ++ field_rest item ≡ compact_text (field_data item)
unfolding escape_byte
field_json item =
    let packet : List ℕ = compact_text (packet_data item.row (packet_of item.name item.row item.value)) in
    let bit : List ℕ = decimal item.bit in
    let name : List ℕ = quoted (name_text item.name) in
    let width : List ℕ = decimal (width_of item.name) in
    let value : List ℕ = decimal item.value in
    let meaning : List ℕ = meaning_in item in
    let last : List ℕ = value ++ (codes ",\"meaning\":\"" ++ (meaning ++ field_end item.is_late)) in
    let to_bit : List ℕ → List ℕ = λ l. codes "{\"packet\":" ++ (packet ++ (codes ",\"bit\":" ++ (bit ++ l))) in
    let to_value : List ℕ → List ℕ = λ l. to_bit (codes ",\"name\":" ++ (name ++ (codes ",\"bits\":" ++ (width ++ (codes ",\"value\":" ++ (value ++ l)))))) in
    ap (λ l. codes "{\"packet\":" ++ l) (append_assoc packet (codes ",\"bit\":" ++ bit) (field_rest item))
    ∙ ap (λ l. to_bit (codes ",\"name\":" ++ l))
    (append_assoc name (codes ",\"bits\":" ++ (width ++ codes ",\"value\":")) last
    ∙ ap (λ l. name ++ (codes ",\"bits\":" ++ l)) (append_assoc width (codes ",\"value\":") last))
    ∙ ap (λ l. to_value (codes ",\"meaning\":" ++ l))
    (ap (λ l. 34 ∷ (meaning ++ l)) (sym (end_is item.is_late))
    ∙ sym (quoted-plain meaning (members_text true (late_members item.is_late)) (meaning_plain item.name item.walk item.row item.value)))
