-- What is read as the parts of a message 3 was written by them.
use Rattle.std.proofs.Common.{◌≡◌, ℕ, zero, suc, pred, ◌+◌, ◌-◌, ◌*◌, ◌/◌, ◌%◌, ◌<◌, ◌≤◌, ◌^◌, Bool, true, ◌&&◌, ◌⊎◌, inl, inr, List, [], ◌∷◌, length, ℤ, refl, arith, subst, sym, ap, ◌∙◌, nat_le, ◌==◌, Ok}
use Rattle.std.proofs.lemmas.Bool.{le-leb, leb-true, eq-eqb, eqb-true, and_from}
use Rattle.rbc_model.specs.declared.places.Format.{Format}
use Rattle.rbc_model.specs.declared.messages.Fault.TheVariants.{Short, Length, Extra}
use Rattle.rbc_model.specs.declared.messages.FieldName.TheVariants.{NID_MESSAGE, L_MESSAGE, T_TRAIN, M_ACK, NID_C, NID_BG, NID_PACKET, Q_DIR, L_PACKET, Q_SCALE, V_LOA, T_LOA, N_ITER, L_ENDSECTION, Q_SECTIONTIMER, Q_ENDTIMER, Q_DANGERPOINT, Q_OVERLAP, D_GRADIENT, Q_GDIR, G_A, D_STATIC, V_STATIC, Q_FRONT}
use Rattle.rbc_model.specs.Levels.{Levels, speed_levels, grade_levels}
use Rattle.rbc_model.specs.Profiles.{IsProfile}
use Rattle.rbc_model.specs.Results.{is_from_to}
use Rattle.rbc_model.specs.Scales.{unit_of, unit_of_scale, last_scale, is_end_at}
use Rattle.rbc_model.specs.Messages.{direction_of, packet_15, gradient_fields, gradient_elements, gradient_length, packet_21, speed_elements, speed_length, packet_27}
use Rattle.rbc_model.specs.Reading.{Header, header_at, Frame, packet_15_at, signed_value, gradient_value_at, gradient_elements_at, packet_21_at, speed_value_at, speed_elements_at, packet_27_at}
use Rattle.rbc_model.proofs.CountingLemmas.{both_of}
use Rattle.rbc_model.proofs.SpellingLemmas.{within}
use Rattle.rbc_model.proofs.FrameLemmas.{IsFrame, frame_read, limits_of}
use Rattle.rbc_model.proofs.LaterStepLemmas.{AreLater, IsUnit, may_have, none_later, one_more_later, profile_of_started, reached}
use Rattle.rbc_model.proofs.FieldRowLemmas.{Row, as_value, row, rows, no_row, read, read_any, read_fixed, came_by, tested, the_answer}

-- ---- packet 15

-- the direction that a number tells
abbrev pub nominal_of : Frame → Bool
nominal_of frame = frame.direction == 1

-- the end that the frame's count tells, in metres
abbrev pub end_of : Frame → ℕ
end_of frame = unit_of_scale frame.scale * frame.end

pub record IsRead15 (format : Format) (frame : Frame) (bits rest : List Bool) : Type 0 where
  pub direction : direction_of (nominal_of frame) ≡ frame.direction
  pub framed : IsFrame format (end_of frame) frame.scale frame.end
  pub row_is : Row (packet_15 (nominal_of frame) (end_of frame)) bits rest

direction_said : (d : ℕ) → is_from_to 0 1 d ≡ true → direction_of (d == 1) ≡ d
direction_said d h = by_number d (limits_of 0 1 d h).1
  where
    by_number : (d : ℕ) → d ≤ 1 → direction_of (d == 1) ≡ d
    by_number zero low = refl
    by_number (suc zero) low = refl
    by_number (suc (suc d)) low = absurd (omega arith)

record_15 : {format : Format} {direction scale end : ℕ} {bits rest : List Bool} → direction_of (direction == 1) ≡ direction → IsFrame format (unit_of_scale scale * end) scale end
    → Row ((NID_PACKET, 15) ∷ (Q_DIR, direction) ∷ (L_PACKET, 66) ∷ (Q_SCALE, scale) ∷ (V_LOA, 0) ∷ (T_LOA, 1023) ∷ (N_ITER, 0) ∷ (L_ENDSECTION, end) ∷ (Q_SECTIONTIMER, 0) ∷ (Q_ENDTIMER, 0) ∷ (Q_DANGERPOINT, 0) ∷ (Q_OVERLAP, 0) ∷ []) bits rest
    → IsRead15 format (record { direction = direction; scale = scale; end = end }) bits rest
record_15 same f r = record {
  direction = same;
  framed = f;
  row_is = rw (same, f.scale_is, f.count_is) r;
}

pub packet_15-read : (format : Format) (bits : List Bool) {frame : Frame} {rest : List Bool} → packet_15_at format bits ≡ Ok (frame, rest) → IsRead15 format frame bits rest
packet_15-read format bits {frame} {rest} h =
    read_fixed NID_PACKET 15 bits _ h (λ b1 f1 h.
    read Q_DIR (is_from_to 0 1) b1 _ h (λ direction b2 f2 ok2 h.
    read_any L_PACKET b2 _ h (λ said b3 f3 h.
    tested (said == 66) Length b3 _ h (λ ok3 h.
    read Q_SCALE (is_from_to 1 (last_scale format)) b3 _ h (λ scale b4 f4 ok4 h.
    read_fixed V_LOA 0 b4 _ h (λ b5 f5 h.
    read_fixed T_LOA 1023 b5 _ h (λ b6 f6 h.
    read_fixed N_ITER 0 b6 _ h (λ b7 f7 h.
    read L_ENDSECTION (is_end_at scale) b7 _ h (λ end b8 f8 ok8 h.
    read_fixed Q_SECTIONTIMER 0 b8 _ h (λ b9 f9 h.
    read_fixed Q_ENDTIMER 0 b9 _ h (λ b10 f10 h.
    read_fixed Q_DANGERPOINT 0 b10 _ h (λ b11 f11 h.
    read_fixed Q_OVERLAP 0 b11 _ h (λ b12 f12 h.
    let answered = the_answer h in
    let said_is : said ≡ 66 = eqb-true said 66 ok3 in
    subst (λ fr. IsRead15 format fr bits rest) answered.0
    (record_15 (direction_said direction ok2) (frame_read format scale end ok4 ok8)
    (row f1 (row f2 (row (as_value said_is f3) (row f4 (row f5 (row f6 (row f7 (row f8 (row f9 (row f10 (row f11 (row f12 (no_row answered.1)))))))))))))))))))))))))))

-- ---- steps, and how far they lie apart

-- one more step
next_read : {V : Type 0} (levels : Levels V) {unit end count start : ℕ} (from distance : ℕ) (value : V) {later : List (ℕ × V)} → IsUnit unit end count → start ≡ unit * from → 1 ≤ distance → may_have levels value ≡ true
    → AreLater levels unit end (unit * (from + distance)) later → AreLater levels unit end start ((unit * (from + distance), value) ∷ later)
next_read levels from distance value u e some ok are =
    let told = reached from distance u e some in
    one_more_later levels (record { after = told.1; inside = are.before; whole = told.2; value = ok }) are

-- the end
record IsEnd (unit end start distance : ℕ) : Type 0 where
  distance_is : distance ≡ (end - start) / unit
  before : start < end

end_read : {unit end count start : ℕ} (from distance : ℕ) → IsUnit unit end count → start ≡ unit * from → (nat_le 1 distance && (from + distance == count)) ≡ true → IsEnd unit end start distance
end_read {unit} {end} {count} {start} from distance u e ok =
    let parts = both_of (nat_le 1 distance) (from + distance == count) ok in
    let all : unit * (from + distance) ≡ end = ap (λ n. unit * n) (eqb-true (from + distance) count parts.1) ∙ u.end_is in
    let told = reached from distance u e (leb-true 1 distance parts.0) in
    record {
      distance_is = sym (ap (λ x. (x - start) / unit) (sym all) ∙ told.0);
      before = subst (λ x. start < x) all told.1;
    }

-- ---- packet 21

record IsReadGrade (v : ℤ) (bits rest : List Bool) : Type 0 where
  range : may_have grade_levels v ≡ true
  row_is : Row (gradient_fields v) bits rest

grade_said : (uphill size : ℕ) {bits rest : List Bool} → uphill < 2 → is_from_to (1 - uphill) 254 size ≡ true → Row ((Q_GDIR, uphill) ∷ (G_A, size) ∷ []) bits rest → IsReadGrade (signed_value uphill size) bits rest
grade_said zero zero fits ok r = absurd cc
grade_said zero (suc n) fits ok r = let l = limits_of 1 254 (suc n) ok in record { range = and_from _ _ (and_from _ _ (le-leb n 253 (omega (arith, l.1))) refl) refl; row_is = r }
grade_said (suc zero) n fits ok r = let l = limits_of 0 254 n ok in record { range = and_from _ _ (le-leb n 254 l.1) refl; row_is = r }
grade_said (suc (suc k)) n fits ok r = absurd (omega arith)

grade-read : (bits : List Bool) {v : ℤ} {rest : List Bool} → gradient_value_at bits ≡ Ok (v, rest) → IsReadGrade v bits rest
grade-read bits {v} {rest} h =
    read_any Q_GDIR bits _ h (λ uphill b1 f1 h.
    read G_A (is_from_to (1 - uphill) 254) b1 _ h (λ size b2 f2 ok h.
    let answered = the_answer h in
    subst (λ x. IsReadGrade x bits rest) answered.0 (grade_said uphill size f1.fits ok (row f1 (row f2 (no_row answered.1))))))

record AreReadGrades (steps unit end start : ℕ) (later : List (ℕ × ℤ)) (bits rest : List Bool) : Type 0 where
  are : AreLater grade_levels unit end start later
  count : length later ≡ steps
  row_is : Row (gradient_elements unit end start later) bits rest

grades-read : (frame : Frame) (steps from start : ℕ) → IsUnit (unit_of_scale frame.scale) (end_of frame) frame.end → start ≡ unit_of_scale frame.scale * from → (bits : List Bool) {later : List (ℕ × ℤ)} {rest : List Bool}
    → gradient_elements_at frame from steps bits ≡ Ok (later, rest) → AreReadGrades steps (unit_of_scale frame.scale) (end_of frame) start later bits rest
grades-read frame zero from start u e bits {later} {rest} h =
    read D_GRADIENT (λ d. nat_le 1 d && (from + d == frame.end)) bits _ h (λ distance b1 f1 ok1 h.
    read_any Q_GDIR b1 _ h (λ uphill b2 f2 h.
    read G_A (λ size. (size == 255) && (uphill == 0)) b2 _ h (λ size b3 f3 ok3 h.
    let answered = the_answer h in
    let ends = end_read from distance u e ok1 in
    let mark = both_of (size == 255) (uphill == 0) ok3 in
    subst (λ x. AreReadGrades 0 (unit_of_scale frame.scale) (end_of frame) start x bits rest) answered.0 (record {
      are = none_later grade_levels (unit_of_scale frame.scale) (end_of frame) start ends.before;
      count = refl;
      row_is = row (as_value ends.distance_is f1) (row (as_value (eqb-true uphill 0 mark.1) f2) (row (as_value (eqb-true size 255 mark.0) f3) (no_row answered.1)));
    }))))
grades-read frame (suc steps) from start u e bits {later} {rest} h =
    read D_GRADIENT (nat_le 1) bits _ h (λ distance b1 f1 ok1 h.
    came_by (gradient_value_at b1) _ h (λ grade b2 read2 h.
    came_by (gradient_elements_at frame (from + distance) steps b2) _ h (λ behind b3 read3 h.
    let answered = the_answer h in
    let some = leb-true 1 distance ok1 in
    let value = grade-read b1 read2 in
    let more = grades-read frame steps (from + distance) (unit_of_scale frame.scale * (from + distance)) u refl b2 read3 in
    subst (λ x. AreReadGrades (suc steps) (unit_of_scale frame.scale) (end_of frame) start x bits rest) answered.0 (record {
      are = next_read grade_levels from distance grade u e some value.range more.are;
      count = ap suc more.count;
      row_is = row (as_value (sym (reached from distance u e some).0) f1) (rows value.row_is (subst (λ b. Row (gradient_elements (unit_of_scale frame.scale) (end_of frame) (unit_of_scale frame.scale * (from + distance)) behind) b2 b) answered.1 more.row_is));
    }))))

units_read : {format : Format} {frame : Frame} {bits rest : List Bool} → IsRead15 format frame bits rest → IsUnit (unit_of_scale frame.scale) (end_of frame) frame.end
units_read {frame = frame} head = record {
  ones_or_tens = subst (λ u. (u ≡ 1) ⊎ (u ≡ 10)) (sym head.framed.unit_is) head.framed.ones_or_tens;
  end_is = refl;
  fits = head.framed.count_fits;
}

-- 0 is a whole number of units
zero_whole : {unit : ℕ} → (unit ≡ 1) ⊎ (unit ≡ 10) → 0 % unit ≡ 0
zero_whole u = elim u [ inl e ↦ subst (λ u. 0 % u ≡ 0) (sym e) refl | inr e ↦ subst (λ u. 0 % u ≡ 0) (sym e) refl ]

pub record IsReadGrades (frame : Frame) (grades : List (ℕ × ℤ)) (bits rest : List Bool) : Type 0 where
  pub profile : IsProfile grade_levels (unit_of (end_of frame)) 31 (end_of frame) grades
  pub row_is : Row (packet_21 (nominal_of frame) (end_of frame) grades) bits rest

record_21 : {format : Format} (frame : Frame) {before after bits b1 b2 rest : List Bool} (first : ℤ) (steps : ℕ) (later : List (ℕ × ℤ)) → IsRead15 format frame before after → 1 ≤ steps → steps < 2 ^ 5 → IsReadGrade first b1 b2
    → Row ((NID_PACKET, 21) ∷ (Q_DIR, frame.direction) ∷ (L_PACKET, gradient_length steps) ∷ (Q_SCALE, frame.scale) ∷ (D_GRADIENT, 0) ∷ []) bits b1
    → ((mid : List Bool) × Row ((N_ITER, steps) ∷ []) b2 mid × AreReadGrades (pred steps) (unit_of_scale frame.scale) (end_of frame) 0 later mid rest)
    → IsReadGrades frame ((0, first) ∷ later) bits rest
record_21 frame {b2 = b2} {rest = rest} first steps later head some few value r (mid, number, elements) =
    let more = subst (λ u. AreReadGrades (pred steps) u (end_of frame) 0 later mid rest) head.framed.unit_is elements in
    let count : steps ≡ suc (length later) = let c = more.count in omega arith in
    record {
      profile = profile_of_started grade_levels (record { start = refl; value = value.range; few = omega arith; rest = more.are }) (zero_whole head.framed.ones_or_tens);
      row_is = rw (head.direction, head.framed.scale_is, ← count) (rows r (rows value.row_is (rows number more.row_is)));
    }

pub packet_21-read : {format : Format} (frame : Frame) {before after : List Bool} → IsRead15 format frame before after → (bits : List Bool) {grades : List (ℕ × ℤ)} {rest : List Bool} → packet_21_at frame bits ≡ Ok (grades, rest) → IsReadGrades frame grades bits rest
packet_21-read frame head bits {grades} {rest} h =
    read_fixed NID_PACKET 21 bits _ h (λ b1 f1 h.
    read_fixed Q_DIR frame.direction b1 _ h (λ b2 f2 h.
    read_any L_PACKET b2 _ h (λ said b3 f3 h.
    read_fixed Q_SCALE frame.scale b3 _ h (λ b4 f4 h.
    read_fixed D_GRADIENT 0 b4 _ h (λ b5 f5 h.
    came_by (gradient_value_at b5) _ h (λ first b6 read6 h.
    read N_ITER (nat_le 1) b6 _ h (λ steps b7 f7 ok7 h.
    tested (said == gradient_length steps) Length b7 _ h (λ ok3 h.
    came_by (gradient_elements_at frame 0 (pred steps) b7) _ h (λ later b8 read8 h.
    let answered = the_answer h in
    let elements = grades-read frame (pred steps) 0 0 (units_read head) (omega arith) b7 read8 in
    subst (λ x. IsReadGrades frame x bits rest) answered.0
    (record_21 frame first steps later head (leb-true 1 steps ok7) f7.fits (grade-read b5 read6)
    (row f1 (row f2 (row (as_value (eqb-true said (gradient_length steps) ok3) f3) (row f4 (row f5 (no_row refl))))))
    (b7, row f7 (no_row refl), subst (AreReadGrades (pred steps) (unit_of_scale frame.scale) (end_of frame) 0 later b7) answered.1 elements)))))))))))

-- ---- packet 27

record IsReadSpeed (v : ℕ) (bits rest : List Bool) : Type 0 where
  range : may_have speed_levels v ≡ true
  row_is : Row ((V_STATIC, v / 5) ∷ (Q_FRONT, 0) ∷ (N_ITER, 0) ∷ []) bits rest

speed_said : (fives : ℕ) {bits rest : List Bool} → is_from_to 1 120 fives ≡ true → Row ((V_STATIC, fives) ∷ (Q_FRONT, 0) ∷ (N_ITER, 0) ∷ []) bits rest → IsReadSpeed (5 * fives) bits rest
speed_said fives {bits} {rest} ok r =
    let l = limits_of 1 120 fives ok in
    let same : fives ≡ 5 * fives / 5 = omega arith in
    record {
      range = and_from _ _ (within 5 600 (5 * fives) (omega (arith, l.0)) (omega (arith, l.1))) (eq-eqb (5 * fives % 5) 0 (omega arith));
      row_is = subst (λ v. Row ((V_STATIC, v) ∷ (Q_FRONT, 0) ∷ (N_ITER, 0) ∷ []) bits rest) same r;
    }

speed-read : (bits : List Bool) {v : ℕ} {rest : List Bool} → speed_value_at bits ≡ Ok (v, rest) → IsReadSpeed v bits rest
speed-read bits {v} {rest} h =
    read V_STATIC (is_from_to 1 120) bits _ h (λ fives b1 f1 ok h.
    read_fixed Q_FRONT 0 b1 _ h (λ b2 f2 h.
    read_fixed N_ITER 0 b2 _ h (λ b3 f3 h.
    let answered = the_answer h in
    subst (λ x. IsReadSpeed x bits rest) answered.0 (speed_said fives ok (row f1 (row f2 (row f3 (no_row answered.1))))))))

record AreReadSpeeds (steps unit end start : ℕ) (later : List (ℕ × ℕ)) (bits rest : List Bool) : Type 0 where
  are : AreLater speed_levels unit end start later
  count : length later ≡ steps
  row_is : Row (speed_elements unit end start later) bits rest

speeds-read : (frame : Frame) (steps from start : ℕ) → IsUnit (unit_of_scale frame.scale) (end_of frame) frame.end → start ≡ unit_of_scale frame.scale * from → (bits : List Bool) {later : List (ℕ × ℕ)} {rest : List Bool}
    → speed_elements_at frame from steps bits ≡ Ok (later, rest) → AreReadSpeeds steps (unit_of_scale frame.scale) (end_of frame) start later bits rest
speeds-read frame zero from start u e bits {later} {rest} h =
    read D_STATIC (λ d. nat_le 1 d && (from + d == frame.end)) bits _ h (λ distance b1 f1 ok1 h.
    read_fixed V_STATIC 127 b1 _ h (λ b2 f2 h.
    read_fixed Q_FRONT 0 b2 _ h (λ b3 f3 h.
    read_fixed N_ITER 0 b3 _ h (λ b4 f4 h.
    let answered = the_answer h in
    let ends = end_read from distance u e ok1 in
    subst (λ x. AreReadSpeeds 0 (unit_of_scale frame.scale) (end_of frame) start x bits rest) answered.0 (record {
      are = none_later speed_levels (unit_of_scale frame.scale) (end_of frame) start ends.before;
      count = refl;
      row_is = row (as_value ends.distance_is f1) (row f2 (row f3 (row f4 (no_row answered.1))));
    })))))
speeds-read frame (suc steps) from start u e bits {later} {rest} h =
    read D_STATIC (nat_le 1) bits _ h (λ distance b1 f1 ok1 h.
    came_by (speed_value_at b1) _ h (λ speed b2 read2 h.
    came_by (speed_elements_at frame (from + distance) steps b2) _ h (λ behind b3 read3 h.
    let answered = the_answer h in
    let some = leb-true 1 distance ok1 in
    let value = speed-read b1 read2 in
    let more = speeds-read frame steps (from + distance) (unit_of_scale frame.scale * (from + distance)) u refl b2 read3 in
    subst (λ x. AreReadSpeeds (suc steps) (unit_of_scale frame.scale) (end_of frame) start x bits rest) answered.0 (record {
      are = next_read speed_levels from distance speed u e some value.range more.are;
      count = ap suc more.count;
      row_is = row (as_value (sym (reached from distance u e some).0) f1) (rows value.row_is (subst (λ b. Row (speed_elements (unit_of_scale frame.scale) (end_of frame) (unit_of_scale frame.scale * (from + distance)) behind) b2 b) answered.1 more.row_is));
    }))))

pub record IsReadSpeeds (frame : Frame) (speeds : List (ℕ × ℕ)) (bits rest : List Bool) : Type 0 where
  pub profile : IsProfile speed_levels (unit_of (end_of frame)) 31 (end_of frame) speeds
  pub row_is : Row (packet_27 (nominal_of frame) (end_of frame) speeds) bits rest

record_27 : {format : Format} (frame : Frame) {before after bits b1 b2 rest : List Bool} (first steps : ℕ) (later : List (ℕ × ℕ)) → IsRead15 format frame before after → 1 ≤ steps → steps < 2 ^ 5 → IsReadSpeed first b1 b2
    → Row ((NID_PACKET, 27) ∷ (Q_DIR, frame.direction) ∷ (L_PACKET, speed_length steps) ∷ (Q_SCALE, frame.scale) ∷ (D_STATIC, 0) ∷ []) bits b1
    → ((mid : List Bool) × Row ((N_ITER, steps) ∷ []) b2 mid × AreReadSpeeds (pred steps) (unit_of_scale frame.scale) (end_of frame) 0 later mid rest)
    → IsReadSpeeds frame ((0, first) ∷ later) bits rest
record_27 frame {b2 = b2} {rest = rest} first steps later head some few value r (mid, number, elements) =
    let more = subst (λ u. AreReadSpeeds (pred steps) u (end_of frame) 0 later mid rest) head.framed.unit_is elements in
    let count : steps ≡ suc (length later) = let c = more.count in omega arith in
    record {
      profile = profile_of_started speed_levels (record { start = refl; value = value.range; few = omega arith; rest = more.are }) (zero_whole head.framed.ones_or_tens);
      row_is = rw (head.direction, head.framed.scale_is, ← count) (rows r (rows value.row_is (rows number more.row_is)));
    }

pub packet_27-read : {format : Format} (frame : Frame) {before after : List Bool} → IsRead15 format frame before after → (bits : List Bool) {speeds : List (ℕ × ℕ)} {rest : List Bool} → packet_27_at frame bits ≡ Ok (speeds, rest) → IsReadSpeeds frame speeds bits rest
packet_27-read frame head bits {speeds} {rest} h =
    read_fixed NID_PACKET 27 bits _ h (λ b1 f1 h.
    read_fixed Q_DIR frame.direction b1 _ h (λ b2 f2 h.
    read_any L_PACKET b2 _ h (λ said b3 f3 h.
    read_fixed Q_SCALE frame.scale b3 _ h (λ b4 f4 h.
    read_fixed D_STATIC 0 b4 _ h (λ b5 f5 h.
    came_by (speed_value_at b5) _ h (λ first b6 read6 h.
    read N_ITER (nat_le 1) b6 _ h (λ steps b7 f7 ok7 h.
    tested (said == speed_length steps) Length b7 _ h (λ ok3 h.
    came_by (speed_elements_at frame 0 (pred steps) b7) _ h (λ later b8 read8 h.
    let answered = the_answer h in
    let elements = speeds-read frame (pred steps) 0 0 (units_read head) (omega arith) b7 read8 in
    subst (λ x. IsReadSpeeds frame x bits rest) answered.0
    (record_27 frame first steps later head (leb-true 1 steps ok7) f7.fits (speed-read b5 read6)
    (row f1 (row f2 (row (as_value (eqb-true said (speed_length steps) ok3) f3) (row f4 (row f5 (no_row refl))))))
    (b7, row f7 (no_row refl), subst (AreReadSpeeds (pred steps) (unit_of_scale frame.scale) (end_of frame) 0 later b7) answered.1 elements)))))))))))

-- ---- the header

pub record IsReadHeader (bytes : ℕ) (head : Header) (bits rest : List Bool) : Type 0 where
  pub time : head.time < 2 ^ 32
  pub country : head.group.country ≤ 1023
  pub number : head.group.number ≤ 16382
  pub row_is : Row ((NID_MESSAGE, 3) ∷ (L_MESSAGE, bytes) ∷ (T_TRAIN, head.time) ∷ (M_ACK, 0) ∷ (NID_C, head.group.country) ∷ (NID_BG, head.group.number) ∷ []) bits rest

same_number : (said bytes : ℕ) → nat_le said bytes ≡ true → nat_le bytes said ≡ true → said ≡ bytes
same_number said bytes h k = omega (arith, leb-true said bytes h, leb-true bytes said k)

pub header-read : (bytes : ℕ) (bits : List Bool) {head : Header} {rest : List Bool} → header_at bytes bits ≡ Ok (head, rest) → IsReadHeader bytes head bits rest
header-read bytes bits {head} {rest} h =
    read_fixed NID_MESSAGE 3 bits _ h (λ b1 f1 h.
    read_any L_MESSAGE b1 _ h (λ said b2 f2 h.
    tested (nat_le said bytes) Short b2 _ h (λ short h.
    tested (nat_le bytes said) Extra b2 _ h (λ long h.
    read_any T_TRAIN b2 _ h (λ time b3 f3 h.
    read_fixed M_ACK 0 b3 _ h (λ b4 f4 h.
    read_any NID_C b4 _ h (λ country b5 f5 h.
    read NID_BG (is_from_to 0 16382) b5 _ h (λ number b6 f6 ok6 h.
    let answered = the_answer h in
    let below = f5.fits in
    subst (λ x. IsReadHeader bytes x bits rest) answered.0 (record {
      time = f3.fits;
      country = omega arith;
      number = (limits_of 0 16382 number ok6).1;
      row_is = row f1 (row (as_value (same_number said bytes short long) f2) (row f3 (row f4 (row f5 (row f6 (no_row answered.1))))));
    })))))))))
