-- The walk over a message finds the fault that reading answers.
use Rattle.std.proofs.Common.{◌≡◌, ℕ, zero, suc, pred, ◌+◌, ◌-◌, ◌/◌, ◌^◌, ◌≤◌, min, Bool, true, false, ◌&&◌, inl, inr, List, [], length, Option, Some, None, Result, Ok, Err, refl, sym, ap, ◌∙◌, subst, arith, nat_lt, nat_le, if◌then◌else◌, ◌==◌, nat_abs, ℤ}
use Rattle.std.proofs.lemmas.Bool.{leb-true, eq-eqb, and_parts, cases_eq, or_cases, ne_eqb}
use Rattle.rbc_model.specs.declared.limits.TheConstants.{FARTHEST_END, FIRST_END_IN_TENS, FARTHEST_END_IN_TENS, TEN_METRES, MESSAGE_NUMBER, LAST_GROUP, NO_TIME_OUT, AUTHORITY_PACKET, AUTHORITY_BITS, GRADIENT_PACKET, SPEED_PACKET, STEEPEST, GRADIENT_END_MARK, MOST_SPEED_STEPS, SPEED_END_MARK}
use Rattle.rbc_model.specs.declared.messages.Fault.{Fault}
use Rattle.rbc_model.specs.declared.messages.Fault.TheVariants.{Field}
use Rattle.rbc_model.specs.declared.messages.FieldName.TheVariants.{NID_MESSAGE, L_MESSAGE, T_TRAIN, M_ACK, NID_C, NID_BG, NID_PACKET, Q_DIR, L_PACKET, Q_SCALE, V_LOA, T_LOA, N_ITER, L_ENDSECTION, Q_SECTIONTIMER, Q_ENDTIMER, Q_DANGERPOINT, Q_OVERLAP, D_GRADIENT, Q_GDIR, G_A, D_STATIC, V_STATIC, Q_FRONT}
use Rattle.rbc_model.specs.declared.places.Format.TheVariants.{Far}
use Rattle.rbc_model.specs.Messages.{Authority, gradient_length, speed_length}
use Rattle.rbc_model.specs.Reading.{Header, header_at, Frame, packet_15_at, gradient_value_at, gradient_elements_at, packet_21_at, speed_value_at, speed_elements_at, packet_27_at, filling_at, authority_at, value_of}
use Rattle.rbc_model.specs.Bits.{byte_bits}
use Rattle.rbc_model.specs.Results.{is_from_to}
use Rattle.rbc_model.specs.Scales.{is_end_at}
use Rattle.rbc_decode.specs.declared.row.Row.{Row}
use Rattle.rbc_decode.specs.declared.row.Row.TheVariants.{Header as AtHeader, Authority as AtAuthority, GradientHead, GradientStep, GradientEnd, SpeedHead, SpeedStep, SpeedEnd}
use Rattle.rbc_decode.specs.declared.walk.FieldWalk.{FieldWalk}
use Rattle.rbc_decode.specs.Walks.{at_row, entered, further, field_of}
use Rattle.rbc_decode.specs.Readings.{reading_of}
use Rattle.rbc_decode.specs.Laws.{fault_in, FaultsAgree}
use Rattle.rbc_decode.proofs.AgreementLemmas.{Agree, then_fault, go, step, fixed, under, follows_said, follows_length, follows_fixed_length, ends}
use Rattle.rbc_packet.proofs.PacketLemmas.{pred-is}

-- ---- how far an element lies

pub further_capped : (f g v : ℕ) → f ≡ min g (2 ^ 32 - 1) → further f v ≡ min (g + v) (2 ^ 32 - 1)
further_capped f g v e = omega arith

same_test : (a b e : ℕ) → (a ≡ e → b ≡ e) → (b ≡ e → a ≡ e) → (a == e) ≡ (b == e)
same_test a b e h k = elim (cases_eq a e) [
  | inl same ↦ eq-eqb a e same ∙ sym (eq-eqb b e (h same))
  | inr other ↦ ne_eqb a e other ∙ sym (ne_eqb b e (λ x. other (k x)))
]

pub same_end : (f g v e : ℕ) → e ≤ 32000 → f ≡ min g (2 ^ 32 - 1) → (further f v == e) ≡ (g + v == e)
same_end f g v e near is = same_test (further f v) (g + v) e (λ h. omega arith) (λ h. omega arith)

pub near_end : (s e : ℕ) → is_end_at s e ≡ true → e ≤ 32000
near_end s e ok = elim (or_cases ((s == 1) && is_from_to 1 FARTHEST_END e) ((s == 2) && is_from_to (FIRST_END_IN_TENS / TEN_METRES) (FARTHEST_END_IN_TENS / TEN_METRES) e) ok) [
  | inl one ↦ leb-true e 32000 (and_parts (nat_le 1 e) (nat_le e 32000) (and_parts (s == 1) (is_from_to 1 FARTHEST_END e) one).1).1
  | inr two ↦ let near = leb-true e 8000 (and_parts (nat_le 3201 e) (nat_le e 8000) (and_parts (s == 2) (is_from_to (FIRST_END_IN_TENS / TEN_METRES) (FARTHEST_END_IN_TENS / TEN_METRES) e) two).1).1 in omega arith
]

pub some_left : (m : ℕ) → nat_lt 0 (suc m) ≡ true
some_left m = grind arith

pub less_one : (m : ℕ) → suc m - 1 ≡ m
less_one m = omega arith

-- what packet 15 tells
abbrev frame : ℕ → ℕ → ℕ → Frame
frame d s e = record { direction = d; scale = s; end = e }

-- a walk over a message of n bytes
module _ (n : ℕ) where
  -- ---- the header

  -- before packet 15
  abbrev at_15 : FieldWalk
  at_15 = record { row = Some AtAuthority; index = 0; is_alone = false; bytes = n; direction = None; scale = None; end = None; said = 0; later = 0; from = 0; uphill = 0 }

  header : (c : Header → List Bool → Option Fault) → ((head : Header) → Agree at_15 (c head)) → Agree (at_row AtHeader false n) (λ bits. then_fault (header_at n bits) c)
  header c next =
      fixed _ _ NID_MESSAGE MESSAGE_NUMBER _ c refl (λ v. refl) (λ v. refl) (
      go _ _ L_MESSAGE (λ v. true) _ c (λ said. follows_said _ said n _ c (
      step _ _ T_TRAIN (λ v. true) _ c refl (λ v. refl) (λ v. refl) (λ time ok.
      fixed _ _ M_ACK 0 _ c refl (λ v. refl) (λ v. refl) (
      step _ _ NID_C (λ v. true) _ c refl (λ v. refl) (λ v. refl) (λ country ok.
      step _ _ NID_BG (is_from_to 0 LAST_GROUP) _ c refl (λ v. refl) (λ v. refl) (λ number ok.
      next _)))))) refl)

  -- ---- packet 15

  module _ (d s e : ℕ) where
    -- before packet 21
    abbrev pub at_21 : ℕ → FieldWalk
    at_21 sd = record { row = Some GradientHead; index = 0; is_alone = false; bytes = n; direction = Some d; scale = Some s; end = Some e; said = sd; later = 0; from = 0; uphill = 0 }

    -- before packet 27
    abbrev pub at_27 : ℕ → ℕ → FieldWalk
    at_27 sd u = record { row = Some SpeedHead; index = 0; is_alone = false; bytes = n; direction = Some d; scale = Some s; end = Some e; said = sd; later = 0; from = 0; uphill = u }

  packet_15 : (c : Frame → List Bool → Option Fault) → ((d s e sd : ℕ) → is_end_at s e ≡ true → Agree (at_21 d s e sd) (c (frame d s e)))
      → Agree at_15 (λ bits. then_fault (packet_15_at Far bits) c)
  packet_15 c next =
      fixed _ _ NID_PACKET AUTHORITY_PACKET _ c refl (λ v. refl) (λ v. refl) (
      step _ _ Q_DIR (is_from_to 0 1) _ c refl (λ v. refl) (λ v. refl) (λ d ok.
      go _ _ L_PACKET (λ v. true) _ c (λ said. follows_fixed_length _ (said == AUTHORITY_BITS) _ c (
      step _ _ Q_SCALE (is_from_to 1 2) _ c refl (λ v. refl) (λ v. refl) (λ s ok.
      fixed _ _ V_LOA 0 _ c refl (λ v. refl) (λ v. refl) (
      fixed _ _ T_LOA NO_TIME_OUT _ c refl (λ v. refl) (λ v. refl) (
      fixed _ _ N_ITER 0 _ c refl (λ v. refl) (λ v. refl) (
      step _ _ L_ENDSECTION (is_end_at s) _ c refl (λ v. refl) (λ v. refl) (λ e inside.
      fixed _ _ Q_SECTIONTIMER 0 _ c refl (λ v. refl) (λ v. refl) (
      fixed _ _ Q_ENDTIMER 0 _ c refl (λ v. refl) (λ v. refl) (
      fixed _ _ Q_DANGERPOINT 0 _ c refl (λ v. refl) (λ v. refl) (
      fixed _ _ Q_OVERLAP 0 _ c refl (λ v. refl) (λ v. refl) (
      next d s e said inside))))))))))) refl))

  -- ---- packet 21

  module _ (d s e sd : ℕ) (near : e ≤ 32000) where
    -- behind a step, with m left
    abbrev pub behind_grade : Option Row → ℕ → ℕ → ℕ → ℕ → Bool → FieldWalk
    behind_grade r i m f u more = entered (record { row = r; index = i; is_alone = false; bytes = n; direction = Some d; scale = Some s; end = Some e; said = sd; later = m; from = f; uphill = u }) (if more then Some GradientStep else Some GradientEnd)

    abbrev pub at_grade : ℕ → ℕ → ℕ → FieldWalk
    at_grade m f u = record { row = Some GradientStep; index = 0; is_alone = false; bytes = n; direction = Some d; scale = Some s; end = Some e; said = sd; later = m; from = f; uphill = u }

    grades : (m f g u i : ℕ) (r : Option Row) → f ≡ min g (2 ^ 32 - 1) → (c : List (ℕ × ℤ) → List Bool → Option Fault)
        → ((later : List (ℕ × ℤ)) (up : ℕ) → Agree (at_27 d s e sd up) (c later))
        → Agree (behind_grade r i m f u (nat_lt 0 m)) (λ bits. then_fault (gradient_elements_at (frame d s e) g m bits) c)
    grades zero f g u i r same c next =
        step _ _ D_GRADIENT (λ v. nat_le 1 v && (g + v == e)) _ c refl (λ v. ap (λ b. nat_le 1 v && b) (same_end f g v e near same)) (λ v. refl) (λ distance ok.
        step _ _ Q_GDIR (λ v. true) _ c refl (λ v. refl) (λ v. refl) (λ up ok.
        step _ _ G_A (λ size. (size == GRADIENT_END_MARK) && (up == 0)) _ c refl (λ v. refl) (λ v. refl) (λ size ok.
        next [] up)))
    grades (suc m) f g u i r same c next =
        subst (λ more. Agree (behind_grade r i (suc m) f u more) (λ bits. then_fault (gradient_elements_at (frame d s e) g (suc m) bits) c)) (sym (some_left m))
        (subst (λ left. Agree (at_grade left f u) (λ bits. then_fault (gradient_elements_at (frame d s e) g (suc m) bits) c)) (sym (less_one m)) (
        step _ _ D_GRADIENT (nat_le 1) _ c refl (λ v. refl) (λ v. refl) (λ distance ok.
        under gradient_value_at _ c (
        step _ _ Q_GDIR (λ v. true) _ _ refl (λ v. refl) (λ v. refl) (λ up ok.
        step _ _ G_A (is_from_to (1 - up) (nat_abs STEEPEST)) _ _ refl (λ v. refl) (λ v. refl) (λ size ok.
        under (gradient_elements_at (frame d s e) (g + distance) m) _ c (
        grades m (further f distance) (g + distance) up 2 (Some GradientStep) (further_capped f g distance same) _ (λ later last. next _ last))))))))

    -- the later steps of packet 21, where the walk counts otherwise how many are left
    grades_left : (left m f g u i : ℕ) (r : Option Row) → m ≡ left → f ≡ min g (2 ^ 32 - 1) → (c : List (ℕ × ℤ) → List Bool → Option Fault)
        → ((later : List (ℕ × ℤ)) (up : ℕ) → Agree (at_27 d s e sd up) (c later))
        → Agree (behind_grade r i left f u (nat_lt 0 left)) (λ bits. then_fault (gradient_elements_at (frame d s e) g m bits) c)
    grades_left left m f g u i r is same c next =
        subst (λ l. Agree (behind_grade r i l f u (nat_lt 0 l)) (λ bits. then_fault (gradient_elements_at (frame d s e) g m bits) c)) is (grades m f g u i r same c next)

  packet_21 : (d s e sd : ℕ) → e ≤ 32000 → (c : List (ℕ × ℤ) → List Bool → Option Fault) → ((later : List (ℕ × ℤ)) (said up : ℕ) → Agree (at_27 d s e said up) (c later))
      → Agree (at_21 d s e sd) (λ bits. then_fault (packet_21_at (frame d s e) bits) c)
  packet_21 d s e sd near c next =
      fixed _ _ NID_PACKET GRADIENT_PACKET _ c refl (λ v. refl) (λ v. refl) (
      fixed _ _ Q_DIR d _ c refl (λ v. refl) (λ v. refl) (
      step _ _ L_PACKET (λ v. true) _ c refl (λ v. refl) (λ v. refl) (λ said ok.
      fixed _ _ Q_SCALE s _ c refl (λ v. refl) (λ v. refl) (
      fixed _ _ D_GRADIENT 0 _ c refl (λ v. refl) (λ v. refl) (
      under gradient_value_at _ c (
      step _ _ Q_GDIR (λ v. true) _ _ refl (λ v. refl) (λ v. refl) (λ up ok.
      step _ _ G_A (is_from_to (1 - up) (nat_abs STEEPEST)) _ _ refl (λ v. refl) (λ v. refl) (λ size ok.
      go _ _ N_ITER (nat_le 1) _ c (λ steps. follows_length _ (nat_le 1 steps) (said == gradient_length steps) (Field N_ITER) steps _ _ c refl (λ ok fits.
      under (gradient_elements_at (frame d s e) 0 (pred steps)) _ c (
      grades_left d s e said near (steps - 1) (pred steps) 0 0 up 7 (Some GradientHead) (pred-is steps) (omega arith) _ (λ later last. next _ said last)))) refl))))))))

  -- ---- packet 27

  module _ (d s e sd : ℕ) (near : e ≤ 32000) where
    -- behind a step, with m left
    abbrev pub behind_speed : Option Row → ℕ → ℕ → ℕ → ℕ → Bool → FieldWalk
    behind_speed r i m f u more = entered (record { row = r; index = i; is_alone = false; bytes = n; direction = Some d; scale = Some s; end = Some e; said = sd; later = m; from = f; uphill = u }) (if more then Some SpeedStep else Some SpeedEnd)

    abbrev pub at_speed : ℕ → ℕ → ℕ → FieldWalk
    at_speed m f u = record { row = Some SpeedStep; index = 0; is_alone = false; bytes = n; direction = Some d; scale = Some s; end = Some e; said = sd; later = m; from = f; uphill = u }

    speeds : (m f g u i : ℕ) (r : Option Row) → f ≡ min g (2 ^ 32 - 1) → (c : List (ℕ × ℕ) → List Bool → Option Fault)
        → ((later : List (ℕ × ℕ)) (last : FieldWalk) → field_of last ≡ None → Agree last (c later))
        → Agree (behind_speed r i m f u (nat_lt 0 m)) (λ bits. then_fault (speed_elements_at (frame d s e) g m bits) c)
    speeds zero f g u i r same c next =
        step _ _ D_STATIC (λ v. nat_le 1 v && (g + v == e)) _ c refl (λ v. ap (λ b. nat_le 1 v && b) (same_end f g v e near same)) (λ v. refl) (λ distance ok.
        fixed _ _ V_STATIC SPEED_END_MARK _ c refl (λ v. refl) (λ v. refl) (
        fixed _ _ Q_FRONT 0 _ c refl (λ v. refl) (λ v. refl) (
        fixed _ _ N_ITER 0 _ c refl (λ v. refl) (λ v. refl) (
        next [] _ refl))))
    speeds (suc m) f g u i r same c next =
        subst (λ more. Agree (behind_speed r i (suc m) f u more) (λ bits. then_fault (speed_elements_at (frame d s e) g (suc m) bits) c)) (sym (some_left m))
        (subst (λ left. Agree (at_speed left f u) (λ bits. then_fault (speed_elements_at (frame d s e) g (suc m) bits) c)) (sym (less_one m)) (
        step _ _ D_STATIC (nat_le 1) _ c refl (λ v. refl) (λ v. refl) (λ distance ok.
        under speed_value_at _ c (
        step _ _ V_STATIC (is_from_to 1 MOST_SPEED_STEPS) _ _ refl (λ v. refl) (λ v. refl) (λ fives ok.
        fixed _ _ Q_FRONT 0 _ _ refl (λ v. refl) (λ v. refl) (
        fixed _ _ N_ITER 0 _ _ refl (λ v. refl) (λ v. refl) (
        under (speed_elements_at (frame d s e) (g + distance) m) _ c (
        speeds m (further f distance) (g + distance) u 3 (Some SpeedStep) (further_capped f g distance same) _ (λ later last over. next _ last over)))))))))

    speeds_left : (left m f g u i : ℕ) (r : Option Row) → m ≡ left → f ≡ min g (2 ^ 32 - 1) → (c : List (ℕ × ℕ) → List Bool → Option Fault)
        → ((later : List (ℕ × ℕ)) (last : FieldWalk) → field_of last ≡ None → Agree last (c later))
        → Agree (behind_speed r i left f u (nat_lt 0 left)) (λ bits. then_fault (speed_elements_at (frame d s e) g m bits) c)
    speeds_left left m f g u i r is same c next =
        subst (λ l. Agree (behind_speed r i l f u (nat_lt 0 l)) (λ bits. then_fault (speed_elements_at (frame d s e) g m bits) c)) is (speeds m f g u i r same c next)

  packet_27 : (d s e sd u : ℕ) → e ≤ 32000 → (c : List (ℕ × ℕ) → List Bool → Option Fault)
      → ((later : List (ℕ × ℕ)) (last : FieldWalk) → field_of last ≡ None → Agree last (c later))
      → Agree (at_27 d s e sd u) (λ bits. then_fault (packet_27_at (frame d s e) bits) c)
  packet_27 d s e sd u near c next =
      fixed _ _ NID_PACKET SPEED_PACKET _ c refl (λ v. refl) (λ v. refl) (
      fixed _ _ Q_DIR d _ c refl (λ v. refl) (λ v. refl) (
      step _ _ L_PACKET (λ v. true) _ c refl (λ v. refl) (λ v. refl) (λ said ok.
      fixed _ _ Q_SCALE s _ c refl (λ v. refl) (λ v. refl) (
      fixed _ _ D_STATIC 0 _ c refl (λ v. refl) (λ v. refl) (
      under speed_value_at _ c (
      step _ _ V_STATIC (is_from_to 1 MOST_SPEED_STEPS) _ _ refl (λ v. refl) (λ v. refl) (λ fives ok.
      fixed _ _ Q_FRONT 0 _ _ refl (λ v. refl) (λ v. refl) (
      fixed _ _ N_ITER 0 _ _ refl (λ v. refl) (λ v. refl) (
      go _ _ N_ITER (nat_le 1) _ c (λ steps. follows_length _ (nat_le 1 steps) (said == speed_length steps) (Field N_ITER) steps _ _ c refl (λ ok fits.
      under (speed_elements_at (frame d s e) 0 (pred steps)) _ c (
      speeds_left d s e said near (steps - 1) (pred steps) 0 0 u 8 (Some SpeedHead) (pred-is steps) (omega arith) _ (λ later last over. next _ last over)))) refl)))))))))

  -- ---- the message

  message : Agree (at_row AtHeader false n) (λ bits. then_fault (authority_at Far n bits) (λ a rest. None))
  message =
      under (header_at n) _ _ (header _ (λ head.
      under (packet_15_at Far) _ _ (packet_15 _ (λ d s e sd inside.
      let near : e ≤ 32000 = near_end s e inside in
      under (packet_21_at (frame d s e)) _ _ (packet_21 d s e sd near _ (λ grades said up.
      under (packet_27_at (frame d s e)) _ _ (packet_27 d s e said up near _ (λ speeds last over.
      under filling_at _ _ (ends last over)))))))))

value_fault : (r : Result (Authority × List Bool) Fault) → then_fault r (λ a rest. None) ≡ fault_in (value_of r)
value_fault (Ok (a, rest)) = refl
value_fault (Err fault) = refl

pub messages_agree : FaultsAgree
unfolding reading_of
messages_agree bytes =
    (message (length bytes)).agrees (suc (length (byte_bits bytes))) (byte_bits bytes) 0 (omega arith)
    ∙ value_fault (authority_at Far (length bytes) (byte_bits bytes))
