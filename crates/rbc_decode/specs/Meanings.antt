-- What the value of a field means, in words.
use Rattle.std.specs.Prelude.{ℕ, ◌*◌, List, [], ◌++◌, ◌==◌, if◌then◌else◌, codes, decimal}
use Rattle.std.specs.Fmt.{signed_decimal}
use Rattle.rbc_model.specs.declared.limits.TheConstants.{MESSAGE_NUMBER, AUTHORITY_PACKET, GRADIENT_PACKET, SPEED_PACKET, NO_TIME_OUT, GRADIENT_END_MARK, SPEED_END_MARK, SPEED_STEP}
use Rattle.rbc_model.specs.declared.messages.FieldName.{FieldName}
use Rattle.rbc_model.specs.declared.messages.FieldName.TheVariants.{NID_MESSAGE, L_MESSAGE, T_TRAIN, NID_C, NID_BG, NID_PACKET, Q_DIR, L_PACKET, Q_SCALE, V_LOA, T_LOA, N_ITER, L_ENDSECTION, D_GRADIENT, Q_GDIR, G_A, D_STATIC, V_STATIC, Q_FRONT}
use Rattle.rbc_model.specs.Reading.{signed_value}
use Rattle.rbc_model.specs.Results.{is_from_to}
use Rattle.rbc_decode.specs.declared.row.Row.{Row}
use Rattle.rbc_decode.specs.declared.row.Row.TheVariants.{Authority, GradientEnd, SpeedHead, SpeedStep, SpeedEnd}
use Rattle.rbc_decode.specs.declared.walk.FieldWalk.{FieldWalk}
use Rattle.rbc_decode.specs.declared.fields.Item.{Item}
use Rattle.rbc_decode.specs.Said.{unit_told}
use Rattle.rbc_decode.specs.Walks.{further, scale_told}

-- a number between two texts
abbrev pub numbered : List ℕ → ℕ → List ℕ → List ℕ
numbered before n after = before ++ (decimal n ++ after)

-- ---- single words

abbrev pub message_meaning : ℕ → List ℕ
message_meaning number = if number == MESSAGE_NUMBER then codes "movement authority" else codes "another message"

abbrev pub packet_meaning : ℕ → List ℕ
packet_meaning number =
    if number == AUTHORITY_PACKET then codes "movement authority"
    else if number == GRADIENT_PACKET then codes "gradients"
    else if number == SPEED_PACKET then codes "speeds"
    else codes "another packet"

abbrev pub direction_meaning : ℕ → List ℕ
direction_meaning direction =
    if direction == 0 then codes "reverse"
    else if direction == 1 then codes "nominal"
    else if direction == 2 then codes "both directions"
    else codes "spare"

abbrev pub scale_meaning : ℕ → List ℕ
scale_meaning scale =
    if scale == 0 then codes "units of 10 cm"
    else if scale == 1 then codes "units of 1 m"
    else if scale == 2 then codes "units of 10 m"
    else codes "spare"

abbrev pub slope_meaning : ℕ → List ℕ
slope_meaning uphill = if uphill == 1 then codes "uphill" else codes "downhill"

abbrev pub front_meaning : ℕ → List ℕ
front_meaning front = if front == 0 then codes "train length delay" else codes "no train length delay"

abbrev pub yes_or_no : ℕ → List ℕ
yes_or_no value = if value == 0 then codes "no" else codes "yes"

-- ---- numbers

abbrev pub time_out_meaning : ℕ → List ℕ
time_out_meaning seconds = if seconds == NO_TIME_OUT then codes "no time-out" else numbered [] seconds (codes " s")

-- what a number of iterations counts, at this place of its row
abbrev pub counted_things : Row → ℕ → List ℕ
counted_things Authority index = codes " further sections"
counted_things SpeedHead index = if index == 8 then codes " further elements" else codes " train categories"
counted_things SpeedStep index = codes " train categories"
counted_things SpeedEnd index = codes " train categories"
counted_things _ index = codes " further elements"

-- ---- places

-- so many units of the scale that is told, in metres where that is known
abbrev pub place_meaning : FieldWalk → List ℕ → ℕ → List ℕ
place_meaning walk before units =
    if is_from_to 1 2 (scale_told walk.scale) then numbered before (unit_told walk * units) (codes " m")
    else numbered before units (codes " units")

abbrev pub distance_start : Row → List ℕ
distance_start GradientEnd = codes "end at "
distance_start SpeedEnd = codes "end at "
distance_start _ = codes "from "

abbrev pub grade_meaning : FieldWalk → ℕ → List ℕ
grade_meaning walk size =
    if size == GRADIENT_END_MARK then place_meaning walk (codes "end at ") walk.from
    else signed_decimal (signed_value walk.uphill size) ++ place_meaning walk (codes " per mille from ") walk.from

abbrev pub speed_meaning : FieldWalk → ℕ → List ℕ
speed_meaning walk fives =
    if fives == SPEED_END_MARK then place_meaning walk (codes "end at ") walk.from
    else decimal (SPEED_STEP * fives) ++ place_meaning walk (codes " km/h from ") walk.from

-- ---- fields

unfoldable pub meaning_by : FieldName → FieldWalk → Row → ℕ → List ℕ
meaning_by NID_MESSAGE walk row value = message_meaning value
meaning_by L_MESSAGE walk row value = numbered [] value (codes " bytes")
meaning_by T_TRAIN walk row value = numbered [] (10 * value) (codes " ms")
meaning_by NID_C walk row value = codes "country or region"
meaning_by NID_BG walk row value = codes "balise group"
meaning_by NID_PACKET walk row value = packet_meaning value
meaning_by Q_DIR walk row value = direction_meaning value
meaning_by L_PACKET walk row value = numbered [] value (codes " bits")
meaning_by Q_SCALE walk row value = scale_meaning value
meaning_by V_LOA walk row value = numbered [] (SPEED_STEP * value) (codes " km/h")
meaning_by T_LOA walk row value = time_out_meaning value
meaning_by N_ITER walk row value = numbered [] value (counted_things row walk.index)
meaning_by L_ENDSECTION walk row value = place_meaning walk (codes "end at ") value
meaning_by D_GRADIENT walk row value = place_meaning walk (distance_start row) (further walk.from value)
meaning_by D_STATIC walk row value = place_meaning walk (distance_start row) (further walk.from value)
meaning_by Q_GDIR walk row value = slope_meaning value
meaning_by G_A walk row value = grade_meaning walk value
meaning_by V_STATIC walk row value = speed_meaning walk value
meaning_by Q_FRONT walk row value = front_meaning value
meaning_by _ walk row value = yes_or_no value

abbrev pub meaning_in : Item → List ℕ
meaning_in item = meaning_by item.name item.walk item.row item.value
