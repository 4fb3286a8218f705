-- What the fields of a message say, in metres, per mille and km/h, and what its authority says.
use Rattle.std.specs.Prelude.{ℕ, ◌*◌, List, [], ◌∷◌, ◌++◌, map, ℤ, Option, Some, None, ◌==◌, if◌then◌else◌}
use Rattle.rbc_model.specs.declared.limits.TheConstants.{SPEED_STEP}
use Rattle.rbc_model.specs.declared.messages.FieldName.{FieldName}
use Rattle.rbc_model.specs.declared.messages.FieldName.TheVariants.{T_TRAIN, NID_C, NID_BG, Q_DIR, L_ENDSECTION, G_A, V_STATIC}
use Rattle.rbc_model.specs.Messages.{Authority as SaysAuthority}
use Rattle.rbc_model.specs.Reading.{signed_value}
use Rattle.rbc_model.specs.Scales.{unit_of_scale}
use Rattle.rbc_decode.specs.declared.row.Row.{Row}
use Rattle.rbc_decode.specs.declared.row.Row.TheVariants.{Authority, GradientEnd, SpeedEnd}
use Rattle.rbc_decode.specs.declared.walk.FieldWalk.{FieldWalk}
use Rattle.rbc_decode.specs.declared.fields.Item.{Item}
use Rattle.rbc_decode.specs.declared.said.Said.{Said}
use Rattle.rbc_decode.specs.declared.said.Said.TheVariants.{Time, Country, Group, Nominal, End, Grade, Speed}
use Rattle.rbc_decode.specs.Walks.{scale_told}

-- how many metres a distance counts as one
abbrev pub unit_told : FieldWalk → ℕ
unit_told walk = unit_of_scale (scale_told walk.scale)

-- where the element begins that is read, in metres
abbrev pub start_told : FieldWalk → ℕ
start_told walk = unit_told walk * walk.from

-- the direction is told by packet 15, and by a packet alone
abbrev pub direction_said : FieldWalk → Row → ℕ → Option Said
direction_said walk Authority direction = Some (Nominal (direction == 1))
direction_said walk _ direction = if walk.is_alone then Some (Nominal (direction == 1)) else None

-- the end element of a packet alone tells the end
abbrev pub end_said : FieldWalk → Option Said
end_said walk = if walk.is_alone then Some (End (start_told walk)) else None

abbrev pub grade_said : FieldWalk → Row → ℕ → Option Said
grade_said walk GradientEnd size = end_said walk
grade_said walk _ size = Some (Grade (start_told walk) (signed_value walk.uphill size))

abbrev pub speed_said : FieldWalk → Row → ℕ → Option Said
speed_said walk SpeedEnd fives = end_said walk
speed_said walk _ fives = Some (Speed (start_told walk) (SPEED_STEP * fives))

-- what a field says: the time, the group in two parts, the direction, the end, gradients and speeds
abbrev pub said_by : FieldName → FieldWalk → Row → ℕ → Option Said
said_by T_TRAIN walk row value = Some (Time value)
said_by NID_C walk row value = Some (Country value)
said_by NID_BG walk row value = Some (Group value)
said_by Q_DIR walk row value = direction_said walk row value
said_by L_ENDSECTION walk row value = Some (End (unit_told walk * value))
said_by G_A walk row value = grade_said walk row value
said_by V_STATIC walk row value = speed_said walk row value
said_by _ walk row value = None

abbrev pub said_in : Item → Option Said
said_in item = said_by item.name item.walk item.row item.value

-- what is said in front of what those behind say
abbrev pub with_said : Option Said → List Said → List Said
with_said None later = later
with_said (Some said) later = said ∷ later

-- what all of some fields say, in their order
abbrev pub all_said : List Item → List Said
all_said [] = []
all_said (item ∷ items) = with_said (said_in item) (all_said items)

-- ---- what an authority says

abbrev pub grades_said : List (ℕ × ℤ) → List Said
grades_said grades = map (λ step. Grade step.0 step.1) grades

abbrev pub speeds_said : List (ℕ × ℕ) → List Said
speeds_said speeds = map (λ step. Speed step.0 step.1) speeds

-- its time, its group, its direction, its end, and each step of its profiles where it begins
abbrev pub said_of : SaysAuthority → List Said
said_of a =
    Time a.time
    ∷ Country a.group.country
    ∷ Group a.group.number
    ∷ Nominal a.nominal
    ∷ End a.end
    ∷ (grades_said a.grades ++ speeds_said a.speeds)
