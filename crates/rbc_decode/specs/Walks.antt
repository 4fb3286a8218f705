-- The walk from field to field over the bits of a message, or of a packet alone: which field comes next, which values it may have, and what it tells of
-- those to come.
use Rattle.std.specs.Prelude.{ℕ, ◌+◌, ◌-◌, ◌^◌, min, Bool, true, false, not, ◌&&◌, List, length, Option, Some, None, option_map, Result, Ok, Err, nat_abs, nat_le, nat_lt, ◌==◌, if◌then◌else◌}
use Rattle.std.specs.List.{slice_get}
use Rattle.std.specs.Option.{option_and_then}
use Rattle.rbc_model.specs.declared.limits.TheConstants.{MESSAGE_NUMBER, AUTHORITY_PACKET, GRADIENT_PACKET, LAST_GROUP, NO_TIME_OUT, AUTHORITY_BITS, STEEPEST, GRADIENT_END_MARK, MOST_SPEED_STEPS, SPEED_END_MARK}
use Rattle.rbc_model.specs.declared.messages.FieldName.{FieldName}
use Rattle.rbc_model.specs.declared.messages.FieldName.TheVariants.{NID_MESSAGE, L_MESSAGE, T_TRAIN, NID_C, NID_BG, NID_PACKET, Q_DIR, L_PACKET, Q_SCALE, T_LOA, N_ITER, L_ENDSECTION, Q_SECTIONTIMER, Q_ENDTIMER, Q_DANGERPOINT, Q_OVERLAP, D_GRADIENT, Q_GDIR, G_A, D_STATIC, V_STATIC}
use Rattle.rbc_model.specs.declared.messages.Fault.{Fault}
use Rattle.rbc_model.specs.declared.messages.Fault.TheVariants.{Short, Length, Extra}
use Rattle.rbc_model.specs.Messages.{gradient_length, speed_length}
use Rattle.rbc_model.specs.Readers.{fault_of}
use Rattle.rbc_model.specs.Results.{is_from_to, unless}
use Rattle.rbc_model.specs.Scales.{is_end_at}
use Rattle.rbc_decode.specs.Rows.{names_in, packet_number}
use Rattle.rbc_decode.specs.declared.row.Row.{Row}
use Rattle.rbc_decode.specs.declared.row.Row.TheVariants.{Header, Authority, GradientHead, GradientStep, GradientEnd, SpeedHead, SpeedStep, SpeedEnd}
use Rattle.rbc_decode.specs.declared.walk.FieldWalk.{FieldWalk}

-- ---- where a walk begins

-- at the first field of a row, with nothing told
abbrev pub at_row : Row → Bool → ℕ → FieldWalk
at_row row alone bytes = record {
  row = Some row;
  index = 0;
  is_alone = alone;
  bytes = bytes;
  direction = None;
  scale = None;
  end = None;
  said = 0;
  later = 0;
  from = 0;
  uphill = 0;
}

-- the row that a packet of this number begins with
abbrev pub row_numbered : Option ℕ → Row
row_numbered None = SpeedHead
row_numbered (Some number) =
    if number == AUTHORITY_PACKET then Authority
    else if number == GRADIENT_PACKET then GradientHead
    else SpeedHead

-- a packet alone is packet 15 or 21 if it begins with its number, and else it is read as packet 27
abbrev pub first_row : List ℕ → Row
first_row bytes = row_numbered (slice_get bytes 0)

-- ---- which field comes next

abbrev pub field_in : ℕ → Row → Option (Row × FieldName)
field_in index row = option_map (λ name. (row, name)) (slice_get (names_in row) index)

-- the next field, with its row; none behind the last
abbrev pub field_of : FieldWalk → Option (Row × FieldName)
field_of walk = option_and_then (field_in walk.index) walk.row

-- ---- which values it may have

-- the field at this place of its row counts the steps
abbrev pub counts_steps : Row → ℕ → Bool
counts_steps GradientHead index = index == 7
counts_steps SpeedHead index = index == 8
counts_steps _ index = false

-- the value told already, or, where none is told, one that is allowed
abbrev pub is_as_told : Option ℕ → Bool → ℕ → Bool
is_as_told None allowed value = allowed
is_as_told (Some told) allowed value = value == told

-- the scale that is told: a packet has it before its first distance
abbrev pub scale_told : Option ℕ → ℕ
scale_told None = 1
scale_told (Some scale) = scale

-- how far an element lies that is so far from the one before it; no end is as far as the greatest number
abbrev pub further : ℕ → ℕ → ℕ
further from distance = min (from + distance) (2 ^ 32 - 1)

-- whether the packet may end here
abbrev pub is_end : FieldWalk → ℕ → Bool
is_end walk end = is_as_told walk.end (is_end_at (scale_told walk.scale) end) end

-- whether an element may lie so far from the one before it
abbrev pub is_distance : FieldWalk → Row → ℕ → Bool
is_distance walk GradientStep distance = nat_le 1 distance
is_distance walk SpeedStep distance = nat_le 1 distance
is_distance walk GradientEnd distance = nat_le 1 distance && is_end walk (further walk.from distance)
is_distance walk SpeedEnd distance = nat_le 1 distance && is_end walk (further walk.from distance)
is_distance walk _ distance = distance == 0

-- whether an element may have these per mille: 0 is written uphill, and the mark downhill
abbrev pub is_slope : FieldWalk → Row → ℕ → Bool
is_slope walk GradientEnd size = (size == GRADIENT_END_MARK) && (walk.uphill == 0)
is_slope walk _ size = is_from_to (1 - walk.uphill) (nat_abs STEEPEST) size

abbrev pub is_speed : Row → ℕ → Bool
is_speed SpeedEnd fives = fives == SPEED_END_MARK
is_speed _ fives = is_from_to 1 MOST_SPEED_STEPS fives

abbrev pub is_count : Row → ℕ → ℕ → Bool
is_count row index n = if counts_steps row index then nat_le 1 n else n == 0

-- whether the next field may have the value
abbrev pub is_allowed : FieldWalk → Row → FieldName → ℕ → Bool
is_allowed walk row NID_MESSAGE n = n == MESSAGE_NUMBER
is_allowed walk row NID_PACKET n = n == packet_number row
is_allowed walk row NID_BG n = is_from_to 0 LAST_GROUP n
is_allowed walk row T_LOA n = n == NO_TIME_OUT
is_allowed walk row Q_DIR n = is_as_told walk.direction (is_from_to 0 1 n) n
is_allowed walk row Q_SCALE n = is_as_told walk.scale (is_from_to 1 2 n) n
is_allowed walk row L_ENDSECTION n = is_end_at (scale_told walk.scale) n
is_allowed walk row N_ITER n = is_count row walk.index n
is_allowed walk row D_GRADIENT n = is_distance walk row n
is_allowed walk row D_STATIC n = is_distance walk row n
is_allowed walk row G_A n = is_slope walk row n
is_allowed walk row V_STATIC n = is_speed row n
is_allowed walk row L_MESSAGE n = true
is_allowed walk row T_TRAIN n = true
is_allowed walk row NID_C n = true
is_allowed walk row L_PACKET n = true
is_allowed walk row Q_GDIR n = true
is_allowed walk row _ n = n == 0

-- ---- the lengths

-- how many bits the packet of the row has with this many steps
abbrev pub packet_bits : Row → ℕ → ℕ
packet_bits GradientHead steps = gradient_length steps
packet_bits _ steps = speed_length steps

abbrev pub is_authority : Row → Bool
is_authority Authority = true
is_authority _ = false

abbrev pub length_unless : Bool → Option Fault
length_unless right = if right then None else Some Length

-- the fault of a length, where it shows at this field
abbrev pub length_fault : FieldWalk → Row → FieldName → ℕ → Option Fault
length_fault walk row L_MESSAGE value =
    if nat_lt walk.bytes value then Some Short
    else if nat_lt value walk.bytes then Some Extra
    else None
length_fault walk row L_PACKET value = if is_authority row then length_unless (value == AUTHORITY_BITS) else None
length_fault walk row N_ITER value = if counts_steps row walk.index then length_unless (walk.said == packet_bits row value) else None
length_fault walk row _ value = None

-- ---- what it tells of those to come

-- how many steps are left behind the one that is read, where the field counts them
abbrev pub later_told : FieldWalk → Row → ℕ → ℕ
later_told walk row n = if counts_steps row walk.index then n - 1 else walk.later

-- the walk with what the value of the next field tells
abbrev pub told : FieldWalk → Row → FieldName → ℕ → FieldWalk
told walk row Q_DIR value = record walk { direction = Some value }
told walk row Q_SCALE value = record walk { scale = Some value }
told walk row L_PACKET value = record walk { said = value }
told walk row L_ENDSECTION value = record walk { end = Some value }
told walk row D_GRADIENT value = record walk { from = further walk.from value }
told walk row D_STATIC value = record walk { from = further walk.from value }
told walk row Q_GDIR value = record walk { uphill = value }
told walk row N_ITER value = record walk { later = later_told walk row value }
told walk row _ value = walk

-- ---- on to the next

-- the row behind a row: the steps that are left, the end, and the next packet
abbrev pub row_behind : FieldWalk → Row → Option Row
row_behind walk Header = Some Authority
row_behind walk Authority = if walk.is_alone then None else Some GradientHead
row_behind walk GradientHead = if nat_lt 0 walk.later then Some GradientStep else Some GradientEnd
row_behind walk GradientStep = if nat_lt 0 walk.later then Some GradientStep else Some GradientEnd
row_behind walk GradientEnd = if walk.is_alone then None else Some SpeedHead
row_behind walk SpeedHead = if nat_lt 0 walk.later then Some SpeedStep else Some SpeedEnd
row_behind walk SpeedStep = if nat_lt 0 walk.later then Some SpeedStep else Some SpeedEnd
row_behind walk SpeedEnd = None

-- at the first field of this row
abbrev pub entered : FieldWalk → Option Row → FieldWalk
entered walk (Some GradientStep) = record walk { row = Some GradientStep; index = 0; later = walk.later - 1 }
entered walk (Some SpeedStep) = record walk { row = Some SpeedStep; index = 0; later = walk.later - 1 }
entered walk (Some SpeedHead) = record walk { row = Some SpeedHead; index = 0; from = 0 }
entered walk row = record walk { row = row; index = 0 }

-- at the field behind the next one
abbrev pub moved : FieldWalk → Row → FieldWalk
moved walk row =
    if nat_lt walk.index (length (names_in row) - 1) then record walk { index = walk.index + 1 }
    else entered walk (row_behind walk row)

-- behind this value of the next field, or its fault
abbrev pub behind : FieldWalk → Row → FieldName → ℕ → Result FieldWalk Fault
behind walk row name value =
    if is_allowed walk row name value
    then unless (length_fault walk row name value) (Ok (moved (told walk row name value) row))
    else Err (fault_of name)

-- ---- behind a fault

-- the value of such a field says which fields come next
abbrev pub says_next : FieldName → Bool
says_next NID_MESSAGE = true
says_next NID_PACKET = true
says_next N_ITER = true
says_next Q_SECTIONTIMER = true
says_next Q_ENDTIMER = true
says_next Q_DANGERPOINT = true
says_next Q_OVERLAP = true
says_next _ = false

-- whether it is known which fields come behind this value of the next one, whatever is at fault
abbrev pub is_known : FieldWalk → Row → FieldName → ℕ → Bool
is_known walk row name value = not (says_next name && not (is_allowed walk row name value))

-- behind this value of the next field, whatever is at fault
abbrev pub past : FieldWalk → Row → FieldName → ℕ → FieldWalk
past walk row name value = moved (told walk row name value) row
