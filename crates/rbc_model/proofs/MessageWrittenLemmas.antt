-- What the parts of a message 3 wrote is read, whatever follows.
use Rattle.std.proofs.Common.{◌≡◌, ℕ, suc, ◌+◌, ◌-◌, ◌*◌, ◌/◌, ◌%◌, ◌<◌, ◌≤◌, ◌^◌, Bool, true, false, ◌&&◌, List, [], ◌∷◌, ◌++◌, length, ℤ, pos, negsuc, refl, arith, sym, ap, ◌∙◌, nat_le, ◌==◌, lit<, Ok}
use Rattle.std.proofs.lemmas.Bool.{le-leb, leb-true, eq-eqb, eqb-true, and_from}
use Rattle.rbc_model.specs.declared.places.Format.{Format}
use Rattle.rbc_model.specs.GroupNames.{GroupName}
use Rattle.rbc_model.specs.Profiles.{IsProfile}
use Rattle.rbc_model.specs.declared.messages.FieldName.{FieldName}
use Rattle.rbc_model.specs.declared.messages.FieldName.TheVariants.{NID_MESSAGE, L_MESSAGE, T_TRAIN, M_ACK, NID_C, NID_BG, NID_PACKET, Q_DIR, L_PACKET, Q_SCALE, V_LOA, T_LOA, N_ITER, L_ENDSECTION, Q_SECTIONTIMER, Q_ENDTIMER, Q_DANGERPOINT, Q_OVERLAP, D_GRADIENT, Q_GDIR, G_A, D_STATIC, V_STATIC, Q_FRONT}
use Rattle.rbc_model.specs.declared.messages.Fault.TheVariants.{Short, Length, Extra}
use Rattle.rbc_model.specs.Levels.{speed_levels, grade_levels}
use Rattle.rbc_model.specs.Results.{is_from_to}
use Rattle.rbc_model.specs.Scales.{unit_of, scale_of, unit_of_scale, last_scale, is_end_at}
use Rattle.rbc_model.specs.Messages.{direction_of, packet_15, gradient_fields, gradient_elements, gradient_length, packet_21, speed_elements, speed_length, packet_27}
use Rattle.rbc_model.specs.Reading.{header_at, Frame, packet_15_at, gradient_value_at, gradient_elements_at, packet_21_at, speed_value_at, speed_elements_at, packet_27_at}
use Rattle.rbc_model.proofs.CountingLemmas.{both_of}
use Rattle.rbc_model.proofs.SpellingLemmas.{go_on, within}
use Rattle.rbc_model.proofs.FrameLemmas.{IsFrame, limits_of}
use Rattle.rbc_model.proofs.LaterStepLemmas.{AreLater, IsUnit, may_have, first_later, started_of_profile, distance_of_next, distance_of_end}
use Rattle.rbc_model.proofs.FieldRowLemmas.{Row, spelled, write, write_any, write_fixed, done, regroup, spelled_row, passed}
use Rattle.rbc_model.proofs.BasicLemmas.{same_number}

-- ---- packet 15

pub direction_fits : (nominal : Bool) → direction_of nominal < 2 ^ 2
direction_fits true = lit< tt
direction_fits false = lit< tt

pub direction_allowed : (nominal : Bool) → is_from_to 0 1 (direction_of nominal) ≡ true
direction_allowed true = refl
direction_allowed false = refl

-- what a message for this end tells the later packets
abbrev pub frame_of : Bool → ℕ → Frame
frame_of nominal end = record { direction = direction_of nominal; scale = scale_of end; end = end / unit_of end }

pub packet_15-written : (format : Format) (nominal : Bool) (end : ℕ) (fields : List (FieldName × ℕ)) {bits rest : List Bool} → IsFrame format end (scale_of end) (end / unit_of end) → Row (packet_15 nominal end ++ fields) bits rest → packet_15_at format bits ≡ Ok (frame_of nominal end, spelled fields ++ rest)
packet_15-written format nominal end fields f r =
    write_fixed NID_PACKET 15 _ r (lit< tt) (λ _ r.
    write Q_DIR (is_from_to 0 1) _ r (direction_fits nominal) (direction_allowed nominal) (λ _ r.
    write_any L_PACKET _ r (lit< tt) (λ _ r.
    write Q_SCALE (is_from_to 1 (last_scale format)) _ r f.scale_fits f.scale_allowed (λ _ r.
    write_fixed V_LOA 0 _ r (lit< tt) (λ _ r.
    write_fixed T_LOA 1023 _ r (lit< tt) (λ _ r.
    write_fixed N_ITER 0 _ r (lit< tt) (λ _ r.
    write L_ENDSECTION (is_end_at (scale_of end)) _ r f.count_fits f.count_allowed (λ _ r.
    write_fixed Q_SECTIONTIMER 0 _ r (lit< tt) (λ _ r.
    write_fixed Q_ENDTIMER 0 _ r (lit< tt) (λ _ r.
    write_fixed Q_DANGERPOINT 0 _ r (lit< tt) (λ _ r.
    write_fixed Q_OVERLAP 0 _ r (lit< tt) (λ _ r.
    done r))))))))))))

-- ---- packet 21

pub grade_in_range : (v : ℤ) → may_have grade_levels v ≡ true → grade_levels.in_range v ≡ true
grade_in_range v h = (both_of (grade_levels.in_range v) true h).0

pub grade-written : (v : ℤ) (fields : List (FieldName × ℕ)) {bits rest : List Bool} → grade_levels.in_range v ≡ true → Row (gradient_fields v ++ fields) bits rest → gradient_value_at bits ≡ Ok (v, spelled fields ++ rest)
grade-written (pos n) fields ok r =
    let high : n ≤ 254 = leb-true n 254 ok in
    write_any Q_GDIR _ r (lit< tt) (λ _ r.
    write G_A (is_from_to 0 254) _ r (omega arith) (within 0 254 n (omega arith) high) (λ _ r.
    done r))
grade-written (negsuc n) fields ok r =
    let high : n ≤ 253 = leb-true n 253 (both_of (nat_le n 253) true ok).0 in
    write_any Q_GDIR _ r (lit< tt) (λ _ r.
    write G_A (is_from_to 1 254) _ r (omega arith) (within 1 254 (suc n) (omega arith) (omega arith)) (λ _ r.
    done r))

pub grades-written : (frame : Frame) {unit end : ℕ} (from start : ℕ) (later : List (ℕ × ℤ)) (fields : List (FieldName × ℕ)) {bits rest : List Bool}
    → unit_of_scale frame.scale ≡ unit → IsUnit unit end frame.end → start ≡ unit * from → AreLater grade_levels unit end start later
    → Row (gradient_elements unit end start later ++ fields) bits rest → gradient_elements_at frame from (length later) bits ≡ Ok (later, spelled fields ++ rest)
grades-written frame {unit} {end} from start [] fields scale u at are r =
    let told = distance_of_end from u at are.before in
    write D_GRADIENT (λ d. nat_le 1 d && (from + d == frame.end)) _ r told.0.fits (and_from _ _ (le-leb 1 ((end - start) / unit) told.0.some) (eq-eqb (from + (end - start) / unit) frame.end told.1)) (λ _ r.
    write_any Q_GDIR _ r (lit< tt) (λ _ r.
    write G_A (λ size. (size == 255) && (0 == 0)) _ r (lit< tt) refl (λ _ r.
    done r)))
grades-written frame {unit} {end} from start (step ∷ later) fields {rest = rest} scale u at are r =
    let parts = first_later grade_levels are in
    let told = distance_of_next from u at parts.0 in
    write D_GRADIENT (nat_le 1) _ r told.fits (le-leb 1 ((step.0 - start) / unit) told.some) (λ _ r.
    go_on _ (grade-written step.1 (gradient_elements unit end step.0 later ++ fields) (grade_in_range step.1 parts.0.value) (regroup (gradient_fields step.1) (gradient_elements unit end step.0 later) fields r))
    (go_on _ (grades-written frame (from + (step.0 - start) / unit) step.0 later fields scale u (sym told.reaches) parts.1 (record { is = refl }))
    (ap (λ x. Ok ((x, step.1) ∷ later, spelled fields ++ rest)) (ap (λ k. k * (from + (step.0 - start) / unit)) scale ∙ told.reaches))))

-- the units of a message for this end
pub units_of_frame : {format : Format} {end : ℕ} → IsFrame format end (scale_of end) (end / unit_of end) → IsUnit (unit_of end) end (end / unit_of end)
units_of_frame f = record { ones_or_tens = f.ones_or_tens; end_is = f.end_is; fits = f.count_fits }

pub packet_21-written : {format : Format} (nominal : Bool) (end : ℕ) (grades : List (ℕ × ℤ)) (fields : List (FieldName × ℕ)) {bits rest : List Bool}
    → IsFrame format end (scale_of end) (end / unit_of end) → IsProfile grade_levels (unit_of end) 31 end grades
    → Row (packet_21 nominal end grades ++ fields) bits rest → packet_21_at (frame_of nominal end) bits ≡ Ok (grades, spelled fields ++ rest)
packet_21-written nominal end [] fields f profile r = absurd cc
packet_21-written nominal end (first ∷ later) fields {rest = rest} f profile r =
    let s = started_of_profile grade_levels profile in
    let count = suc (length later) in
    let few : count ≤ 31 = s.few in
    let elements = gradient_elements (unit_of end) end 0 later in
    write_fixed NID_PACKET 21 _ r (lit< tt) (λ _ r.
    write_fixed Q_DIR (direction_of nominal) _ r (direction_fits nominal) (λ _ r.
    write_any L_PACKET _ r (omega arith) (λ _ r.
    write_fixed Q_SCALE (scale_of end) _ r f.scale_fits (λ _ r.
    write_fixed D_GRADIENT 0 _ r (lit< tt) (λ _ r.
    go_on _ (grade-written first.1 ((N_ITER, count) ∷ elements ++ fields) (grade_in_range first.1 s.value) (regroup (gradient_fields first.1) ((N_ITER, count) ∷ elements) fields r))
    (write N_ITER (nat_le 1) _ (spelled_row ((N_ITER, count) ∷ elements ++ fields) rest) (omega arith) (le-leb 1 count (omega arith)) (λ mid r.
    passed (gradient_length count == gradient_length count) Length mid _ (same_number (gradient_length count))
    (go_on _ (grades-written (frame_of nominal end) 0 0 later fields f.unit_is (units_of_frame f) (omega arith) s.rest r)
    (ap (λ x. Ok ((x, first.1) ∷ later, spelled fields ++ rest)) (sym s.start))))))))))

-- ---- packet 27

speed_range : (v : ℕ) → may_have speed_levels v ≡ true → (5 ≤ v) × (v ≤ 600) × (v % 5 ≡ 0)
speed_range v h =
    let parts = both_of (speed_levels.in_range v) (speed_levels.is_expressible v) h in
    let l = limits_of 5 600 v parts.0 in
    (l.0, l.1, eqb-true (v % 5) 0 parts.1)

-- a speed's three fields
pub speed-written : (v : ℕ) (fields : List (FieldName × ℕ)) {bits rest : List Bool} → may_have speed_levels v ≡ true → Row ((V_STATIC, v / 5) ∷ (Q_FRONT, 0) ∷ (N_ITER, 0) ∷ fields) bits rest → speed_value_at bits ≡ Ok (v, spelled fields ++ rest)
speed-written v fields {rest = rest} ok r =
    let l = speed_range v ok in
    write V_STATIC (is_from_to 1 120) _ r (omega arith) (within 1 120 (v / 5) (omega arith) (omega arith)) (λ _ r.
    write_fixed Q_FRONT 0 _ r (lit< tt) (λ _ r.
    write_fixed N_ITER 0 _ r (lit< tt) (λ _ r.
    done r ∙ ap (λ u. Ok (u, spelled fields ++ rest)) (omega arith))))

pub speeds-written : (frame : Frame) {unit end : ℕ} (from start : ℕ) (later : List (ℕ × ℕ)) (fields : List (FieldName × ℕ)) {bits rest : List Bool}
    → unit_of_scale frame.scale ≡ unit → IsUnit unit end frame.end → start ≡ unit * from → AreLater speed_levels unit end start later
    → Row (speed_elements unit end start later ++ fields) bits rest → speed_elements_at frame from (length later) bits ≡ Ok (later, spelled fields ++ rest)
speeds-written frame {unit} {end} from start [] fields scale u at are r =
    let told = distance_of_end from u at are.before in
    write D_STATIC (λ d. nat_le 1 d && (from + d == frame.end)) _ r told.0.fits (and_from _ _ (le-leb 1 ((end - start) / unit) told.0.some) (eq-eqb (from + (end - start) / unit) frame.end told.1)) (λ _ r.
    write_fixed V_STATIC 127 _ r (lit< tt) (λ _ r.
    write_fixed Q_FRONT 0 _ r (lit< tt) (λ _ r.
    write_fixed N_ITER 0 _ r (lit< tt) (λ _ r.
    done r))))
speeds-written frame {unit} {end} from start (step ∷ later) fields {rest = rest} scale u at are r =
    let parts = first_later speed_levels are in
    let told = distance_of_next from u at parts.0 in
    write D_STATIC (nat_le 1) _ r told.fits (le-leb 1 ((step.0 - start) / unit) told.some) (λ _ r.
    go_on _ (speed-written step.1 (speed_elements unit end step.0 later ++ fields) parts.0.value r)
    (go_on _ (speeds-written frame (from + (step.0 - start) / unit) step.0 later fields scale u (sym told.reaches) parts.1 (record { is = refl }))
    (ap (λ x. Ok ((x, step.1) ∷ later, spelled fields ++ rest)) (ap (λ k. k * (from + (step.0 - start) / unit)) scale ∙ told.reaches))))

pub packet_27-written : {format : Format} (nominal : Bool) (end : ℕ) (speeds : List (ℕ × ℕ)) (fields : List (FieldName × ℕ)) {bits rest : List Bool}
    → IsFrame format end (scale_of end) (end / unit_of end) → IsProfile speed_levels (unit_of end) 31 end speeds
    → Row (packet_27 nominal end speeds ++ fields) bits rest → packet_27_at (frame_of nominal end) bits ≡ Ok (speeds, spelled fields ++ rest)
packet_27-written nominal end [] fields f profile r = absurd cc
packet_27-written nominal end (first ∷ later) fields {rest = rest} f profile r =
    let s = started_of_profile speed_levels profile in
    let count = suc (length later) in
    let few : count ≤ 31 = s.few in
    let elements = speed_elements (unit_of end) end 0 later in
    write_fixed NID_PACKET 27 _ r (lit< tt) (λ _ r.
    write_fixed Q_DIR (direction_of nominal) _ r (direction_fits nominal) (λ _ r.
    write_any L_PACKET _ r (omega arith) (λ _ r.
    write_fixed Q_SCALE (scale_of end) _ r f.scale_fits (λ _ r.
    write_fixed D_STATIC 0 _ r (lit< tt) (λ _ r.
    go_on _ (speed-written first.1 ((N_ITER, count) ∷ elements ++ fields) s.value r)
    (write N_ITER (nat_le 1) _ (spelled_row ((N_ITER, count) ∷ elements ++ fields) rest) (omega arith) (le-leb 1 count (omega arith)) (λ mid r.
    passed (speed_length count == speed_length count) Length mid _ (same_number (speed_length count))
    (go_on _ (speeds-written (frame_of nominal end) 0 0 later fields f.unit_is (units_of_frame f) (omega arith) s.rest r)
    (ap (λ x. Ok ((x, first.1) ∷ later, spelled fields ++ rest)) (sym s.start))))))))))

-- ---- the header

pub header-written : (bytes time : ℕ) (group : GroupName) (fields : List (FieldName × ℕ)) {bits rest : List Bool} → bytes < 2 ^ 10 → time < 2 ^ 32 → group.country ≤ 1023 → group.number ≤ 16382
    → Row ((NID_MESSAGE, 3) ∷ (L_MESSAGE, bytes) ∷ (T_TRAIN, time) ∷ (M_ACK, 0) ∷ (NID_C, group.country) ∷ (NID_BG, group.number) ∷ fields) bits rest
    → header_at bytes bits ≡ Ok (record { time = time; group = group }, spelled fields ++ rest)
header-written bytes time group fields short fits country number r =
    write_fixed NID_MESSAGE 3 _ r (lit< tt) (λ _ r.
    write_any L_MESSAGE _ r short (λ mid r.
    passed (nat_le bytes bytes) Short mid _ (le-leb bytes bytes (omega arith))
    (passed (nat_le bytes bytes) Extra mid _ (le-leb bytes bytes (omega arith))
    (write_any T_TRAIN _ r fits (λ _ r.
    write_fixed M_ACK 0 _ r (lit< tt) (λ _ r.
    write_any NID_C _ r (omega arith) (λ _ r.
    write NID_BG (is_from_to 0 16382) _ r (omega arith) (within 0 16382 group.number (omega arith) number) (λ _ r.
    done r))))))))
