-- How a packet tells a profile, the same for each kind of level.
use Rattle.std.specs.Prelude.{◌≡◌, ℕ, zero, suc, pred, ◌+◌, ℤ, Bool, ◌&&◌, List, [], ◌∷◌, Result, Ok, Err, nat_le, ◌==◌, ◌++◌, length, ◌-◌, ◌*◌, ◌/◌}
use Rattle.rbc_model.specs.declared.messages.Fault.{Fault}
use Rattle.rbc_model.specs.declared.messages.Fault.TheVariants.{Length}
use Rattle.rbc_model.specs.declared.messages.FieldName.{FieldName}
use Rattle.rbc_model.specs.declared.messages.FieldName.TheVariants.{NID_PACKET, Q_DIR, L_PACKET, Q_SCALE, N_ITER, D_GRADIENT, Q_GDIR, G_A, D_STATIC, V_STATIC, Q_FRONT}
use Rattle.rbc_model.specs.declared.limits.TheConstants.{GRADIENT_PACKET, GRADIENT_END_MARK, SPEED_PACKET, SPEED_STEP, SPEED_END_MARK}
use Rattle.rbc_model.specs.Messages.{direction_of, gradient_fields, gradient_length, speed_length}
use Rattle.rbc_model.specs.Profiles.{StepFunction}
use Rattle.rbc_model.specs.Readers.{Reader, answer, ◌>>=◌, ◌>>◌, expect, field, any_field, fixed_field}
use Rattle.rbc_model.specs.Reading.{gradient_value_at, speed_value_at}
use Rattle.rbc_model.specs.Scales.{unit_of, scale_of}

-- How a packet tells a profile: its number, its bits by the number of steps, the field of its distances, the fields of a value and of the mark
-- at the end, and how these two are read.
pub record Layout (V : Type 0) : Type 0 where
  pub number : ℕ
  pub bits : ℕ → ℕ
  pub distance : FieldName
  pub value_fields : V → List (FieldName × ℕ)
  pub mark_fields : List (FieldName × ℕ)
  pub value_at : Reader V
  pub mark_at : Reader (Unit {0})

module _ {V : Type 0} (layout : Layout V) where
  -- each later step with its distance from the one before, in units; at the end the mark
  abbrev pub elements : ℕ → ℕ → ℕ → List (ℕ × V) → List (FieldName × ℕ)
  elements unit end from [] = (layout.distance, (end - from) / unit) ∷ layout.mark_fields
  elements unit end from (step ∷ later) =
      (layout.distance, (step.0 - from) / unit) ∷ layout.value_fields step.1 ++ elements unit end step.0 later

  -- what stands before the later ones of this many steps, with this direction and scale and this first value
  abbrev pub profile_head : ℕ → ℕ → V → ℕ → List (FieldName × ℕ)
  profile_head direction scale first steps =
      (NID_PACKET, layout.number)
      ∷ (Q_DIR, direction)
      ∷ (L_PACKET, layout.bits steps)
      ∷ (Q_SCALE, scale)
      ∷ (layout.distance, 0)
      ∷ layout.value_fields first
      ++ (N_ITER, steps)
      ∷ []

  -- the packet of a profile up to the end; a profile has a step
  abbrev pub profile_fields : Bool → ℕ → List (ℕ × V) → List (FieldName × ℕ)
  profile_fields nominal end [] = []
  profile_fields nominal end (first ∷ later) =
      profile_head (direction_of nominal) (scale_of end) first.1 (length (first ∷ later)) ++ elements (unit_of end) end 0 later

  -- the end element behind a step: it lies at the end, and both are counted in units
  abbrev pub end_at : ℕ → ℕ → Reader (Unit {0})
  end_at end from = do
    field layout.distance (λ d. nat_le 1 d && (from + d == end))
    layout.mark_at

  -- this many steps behind one that starts after `from` of these units, and the end element, after `end` of them
  abbrev pub elements_at : ℕ → ℕ → ℕ → ℕ → Reader (List (ℕ × V))
  elements_at unit end from zero = do
    end_at end from
    answer []
  elements_at unit end from (suc steps) = do
    distance ← field layout.distance (nat_le 1)
    value ← layout.value_at
    later ← elements_at unit end (from + distance) steps
    answer ((unit * (from + distance), value) ∷ later)

  -- a profile of `end` units that begins with this value at 0 and has this many later steps
  abbrev pub steps_at : ℕ → ℕ → V → ℕ → Reader (List (ℕ × V))
  steps_at unit end first steps = do
    later ← elements_at unit end 0 steps
    answer ((0, first) ∷ later)

  -- a profile's packet of this direction and scale; `elements` reads what is behind a step, given its start and how many steps follow
  abbrev pub profile_by : (ℕ → ℕ → Reader (List (ℕ × V))) → ℕ → ℕ → Reader (List (ℕ × V))
  profile_by elements direction scale = do
    fixed_field NID_PACKET layout.number
    fixed_field Q_DIR direction
    said ← any_field L_PACKET
    fixed_field Q_SCALE scale
    fixed_field layout.distance 0
    first ← layout.value_at
    steps ← field N_ITER (nat_le 1)
    expect (said == layout.bits steps) Length
    later ← elements 0 (pred steps)
    answer ((0, first) ∷ later)

  -- a profile's packet of this direction, up to an end at this metre
  abbrev pub profile_at : ℕ → ℕ → Reader (List (ℕ × V))
  profile_at direction end = profile_by (elements_at (unit_of end) (end / unit_of end)) direction (scale_of end)

-- A call that reads a profile up to this end does as a reader of its steps: on Ok these steps, and the bits after them are left; on Err
-- the reader's fault.
abbrev pub ReadsProfile : {V : Type 0} → Reader (List (ℕ × V)) → ℕ → List Bool → List Bool → Result (StepFunction V) Fault → Type 0
ReadsProfile reader end old new (Ok profile) = (reader old ≡ Ok (profile.steps, new)) × (profile.end ≡ end)
ReadsProfile reader end old new (Err fault) = reader old ≡ Err fault

-- the end mark of gradients, downhill
abbrev pub gradient_mark_at : Reader (Unit {0})
gradient_mark_at = do
  uphill ← any_field Q_GDIR
  field G_A (λ size. (size == GRADIENT_END_MARK) && (uphill == 0))
  answer tt

-- gradients, in packet 21
abbrev pub gradient_layout : Layout ℤ
gradient_layout = record {
  number = GRADIENT_PACKET;
  bits = gradient_length;
  distance = D_GRADIENT;
  value_fields = gradient_fields;
  mark_fields = (Q_GDIR, 0) ∷ (G_A, GRADIENT_END_MARK) ∷ [];
  value_at = gradient_value_at;
  mark_at = gradient_mark_at;
}

-- the end mark of speeds
abbrev pub speed_mark_at : Reader (Unit {0})
speed_mark_at = do
  fixed_field V_STATIC SPEED_END_MARK
  fixed_field Q_FRONT 0
  fixed_field N_ITER 0
  answer tt

-- speeds, in packet 27
abbrev pub speed_layout : Layout ℕ
speed_layout = record {
  number = SPEED_PACKET;
  bits = speed_length;
  distance = D_STATIC;
  value_fields = λ speed. (V_STATIC, speed / SPEED_STEP) ∷ (Q_FRONT, 0) ∷ (N_ITER, 0) ∷ [];
  mark_fields = (V_STATIC, SPEED_END_MARK) ∷ (Q_FRONT, 0) ∷ (N_ITER, 0) ∷ [];
  value_at = speed_value_at;
  mark_at = speed_mark_at;
}
