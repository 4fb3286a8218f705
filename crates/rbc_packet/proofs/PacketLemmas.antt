-- The packets of both kinds of level are read as their layouts say.
use Rattle.std.proofs.Common.{◌≡◌, ℕ, zero, suc, pred, ◌+◌, ◌-◌, ◌*◌, ◌/◌, Bool, true, false, List, ◌∷◌, Result, Ok, Err, refl, arith, ap, sym, ◌∙◌, ◌&&◌, ◌==◌, nat_le, if◌then◌else◌}
use Rattle.std.proofs.Math.Path.{fun_ext}
use Rattle.rbc_model.specs.declared.limits.TheConstants.{GRADIENT_END_MARK, SPEED_END_MARK}
use Rattle.rbc_model.specs.declared.messages.Fault.{Fault}
use Rattle.rbc_model.specs.declared.messages.Fault.TheVariants.{Length}
use Rattle.rbc_model.specs.declared.messages.FieldName.TheVariants.{NID_PACKET, Q_DIR, L_PACKET, Q_SCALE, D_GRADIENT, Q_GDIR, G_A, D_STATIC, V_STATIC, Q_FRONT, N_ITER}
use Rattle.rbc_model.specs.Profiles.{StepFunction}
use Rattle.rbc_model.specs.Readers.{Reader, answer, rest_of_reading, expect, field, any_field, fixed_field}
use Rattle.rbc_model.specs.Reading.{Frame, gradient_elements_at, speed_elements_at, packet_21_at, packet_27_at}
use Rattle.rbc_model.specs.Scales.{unit_of, scale_of, unit_of_scale}
use Rattle.rbc_model.proofs.SpellingLemmas.{go_on}
use Rattle.rbc_packet.specs.Layouts.{Layout, elements_at, steps_at, profile_by, profile_at, ReadsProfile, gradient_layout, speed_layout}

-- what begins alike and goes on alike is one
pub same_then : {A B : Type 0} (t : Result (A × List Bool) Fault) (f g : A → Reader B) → ((x : A) (rest : List Bool) → f x rest ≡ g x rest) → rest_of_reading t f ≡ rest_of_reading t g
same_then (Ok (x, rest)) f g same = same x rest
same_then (Err fault) f g same = refl

-- readers one after another, in whatever groups
pub regrouped : {A B C : Type 0} (t : Result (A × List Bool) Fault) (f : A → Reader B) (g : B → Reader C) (h : A → Reader C) → ((x : A) (rest : List Bool) → rest_of_reading (f x rest) g ≡ h x rest)
    → rest_of_reading (rest_of_reading t f) g ≡ rest_of_reading t h
regrouped (Ok (x, rest)) f g h same = same x rest
regrouped (Err fault) f g h same = refl

-- where all bits are read as the ones left are, a profile read from these is read from all
pub read_on : {V : Type 0} (all later : Reader (List (ℕ × V))) (end : ℕ) (old mid new : List Bool) (result : Result (StepFunction V) Fault) → all old ≡ later mid → ReadsProfile later end mid new result → ReadsProfile all end old new result
read_on all later end old mid new (Ok profile) same read = (same ∙ read.0, read.1)
read_on all later end old mid new (Err fault) same read = same ∙ read

pub pred-is : (n : ℕ) → pred n ≡ n - 1
pred-is zero = refl
pred-is (suc n) = omega arith

-- the fields before the later steps, each with the bits after it
pub read_head : {V : Type 0} (layout : Layout V) (direction end packet way said scale start : ℕ) (first : V) (count : ℕ) (all b₁ b₂ b₃ b₄ b₅ b₆ later : List Bool)
    → fixed_field NID_PACKET layout.number all ≡ Ok (packet, b₁)
    → fixed_field Q_DIR direction b₁ ≡ Ok (way, b₂)
    → any_field L_PACKET b₂ ≡ Ok (said, b₃)
    → fixed_field Q_SCALE (scale_of end) b₃ ≡ Ok (scale, b₄)
    → fixed_field layout.distance 0 b₄ ≡ Ok (start, b₅)
    → layout.value_at b₅ ≡ Ok (first, b₆)
    → field N_ITER (nat_le 1) b₆ ≡ Ok (count, later)
    → expect (said == layout.bits count) Length later ≡ Ok (tt, later)
    → profile_at layout direction end all ≡ steps_at layout (unit_of end) (end / unit_of end) first (count - 1) later
read_head layout direction end packet way said scale start first count all b₁ b₂ b₃ b₄ b₅ b₆ later e₁ e₂ e₃ e₄ e₅ e₆ e₇ e₈ =
    go_on _ e₁ (go_on _ e₂ (go_on _ e₃ (go_on _ e₄ (go_on _ e₅ (go_on _ e₆ (go_on _ e₇ (go_on _ e₈ (ap (λ n. steps_at layout (unit_of end) (end / unit_of end) first n later) (pred-is count)))))))))

module _ {V : Type 0} (layout : Layout V) (unit end : ℕ) (elements : ℕ → ℕ → Reader (List (ℕ × V))) where
  -- how elements with distances in units go on
  abbrev one_element : ℕ → ℕ → Reader (List (ℕ × V))
  one_element from n bits =
      rest_of_reading (field layout.distance (nat_le 1) bits) (λ distance rest.
      rest_of_reading (layout.value_at rest) (λ value more.
      rest_of_reading (elements (from + distance) n more) (λ later. answer ((unit * (from + distance), value) ∷ later))))

  same_elements : ((from : ℕ) (bits : List Bool) → elements from 0 bits ≡ elements_at layout unit end from 0 bits) → ((from n : ℕ) (bits : List Bool) → elements from (suc n) bits ≡ one_element from n bits)
      → (n from : ℕ) (bits : List Bool) → elements from n bits ≡ elements_at layout unit end from n bits
  same_elements last more zero from bits = last from bits
  same_elements last more (suc n) from bits =
      more from n bits
      ∙ same_then (field layout.distance (nat_le 1) bits) _ _ (λ distance rest. same_then (layout.value_at rest) _ _ (λ value later.
      ap (λ (read : Result (List (ℕ × V) × List Bool) Fault). rest_of_reading read (λ (steps : List (ℕ × V)). answer ((unit * (from + distance), value) ∷ steps))) (same_elements last more n (from + distance) later)))

  pub same_profile : ((from : ℕ) (bits : List Bool) → elements from 0 bits ≡ elements_at layout unit end from 0 bits) → ((from n : ℕ) (bits : List Bool) → elements from (suc n) bits ≡ one_element from n bits)
      → (direction scale : ℕ) (bits : List Bool) → profile_by layout elements direction scale bits ≡ profile_by layout (elements_at layout unit end) direction scale bits
  same_profile last more direction scale bits = ap (λ (es : ℕ → ℕ → Reader (List (ℕ × V))). profile_by layout es direction scale bits) (fun_ext (λ from. fun_ext (λ n. fun_ext (λ rest. same_elements last more n from rest))))

-- what packet 15 tells of an end
abbrev pub frame_to : ℕ → ℕ → Frame
frame_to direction end = record { direction = direction; scale = scale_of end; end = end / unit_of end }

-- the scale tells the unit
pub unit_said : (end : ℕ) → unit_of_scale (scale_of end) ≡ unit_of end
unit_said end = by_test (nat_le end 32000)
  where
    by_test : (test : Bool) → unit_of_scale (if test then 1 else 2) ≡ (if test then 1 else 10)
    by_test true = refl
    by_test false = refl

-- a profile's packet in a unit that is told by another
in_unit : {V : Type 0} (layout : Layout V) (direction end : ℕ) (bits : List Bool)
    → profile_by layout (elements_at layout (unit_of_scale (scale_of end)) (end / unit_of end)) direction (scale_of end) bits ≡ profile_at layout direction end bits
in_unit layout direction end bits = ap (λ unit. profile_by layout (elements_at layout unit (end / unit_of end)) direction (scale_of end) bits) (unit_said end)

pub packet_21-is : (direction end : ℕ) (bits : List Bool) → packet_21_at (frame_to direction end) bits ≡ profile_at gradient_layout direction end bits
packet_21-is direction end bits =
    let count = end / unit_of end in
    same_profile gradient_layout (unit_of_scale (scale_of end)) count (gradient_elements_at (frame_to direction end))
    (λ from bits. sym (regrouped (field D_GRADIENT (λ d. nat_le 1 d && (from + d == count)) bits) _ _ _ (λ distance rest. regrouped (any_field Q_GDIR rest) _ _ _ (λ uphill more. regrouped (field G_A (λ size. (size == GRADIENT_END_MARK) && (uphill == 0)) more) _ _ _ (λ size later. refl)))))
    (λ from n rest. refl)
    direction (scale_of end) bits
    ∙ in_unit gradient_layout direction end bits

pub packet_27-is : (direction end : ℕ) (bits : List Bool) → packet_27_at (frame_to direction end) bits ≡ profile_at speed_layout direction end bits
packet_27-is direction end bits =
    let count = end / unit_of end in
    same_profile speed_layout (unit_of_scale (scale_of end)) count (speed_elements_at (frame_to direction end))
    (λ from bits. sym (regrouped (field D_STATIC (λ d. nat_le 1 d && (from + d == count)) bits) _ _ _ (λ distance rest. regrouped (fixed_field V_STATIC SPEED_END_MARK rest) _ _ _ (λ mark more. regrouped (fixed_field Q_FRONT 0 more) _ _ _ (λ front last. regrouped (fixed_field N_ITER 0 last) _ _ _ (λ count later. refl))))))
    (λ from n rest. refl)
    direction (scale_of end) bits
    ∙ in_unit speed_layout direction end bits
