-- The walk over a message that is read has the fields of its authority's message.
use Rattle.std.proofs.Common.{◌≡◌, ℕ, suc, inl, inr, ◌+◌, ◌-◌, ◌*◌, ◌/◌, ◌%◌, ◌<◌, ◌≤◌, ◌^◌, min, Bool, true, false, List, [], ◌∷◌, ◌++◌, length, Option, Some, None, Ok, refl, sym, ap, ◌∙◌, subst, arith, lit<, nat_lt, nat_le, if◌then◌else◌, ◌==◌, ℤ, pos, negsuc, append-nil, append_assoc}
use Rattle.std.proofs.lemmas.Bool.{le-leb, leb-true, eq-eqb, eqb-true, and_from}
use Rattle.rbc_model.specs.declared.messages.Fault.TheVariants.{Short, Extra, Length}
use Rattle.rbc_model.specs.declared.messages.FieldName.{FieldName}
use Rattle.rbc_model.specs.declared.messages.FieldName.TheVariants.{NID_MESSAGE, L_MESSAGE, T_TRAIN, M_ACK, NID_C, NID_BG, NID_PACKET, Q_DIR, L_PACKET, Q_SCALE, V_LOA, T_LOA, N_ITER, L_ENDSECTION, Q_SECTIONTIMER, Q_ENDTIMER, Q_DANGERPOINT, Q_OVERLAP, D_GRADIENT, Q_GDIR, G_A, D_STATIC, V_STATIC, Q_FRONT}
use Rattle.rbc_model.specs.declared.places.Format.TheVariants.{Far}
use Rattle.rbc_model.specs.Reading.{read_message}
use Rattle.rbc_model.specs.Bits.{IsBytes, byte_bits, bytes_of, byte_count, padded_bits}
use Rattle.rbc_model.specs.Levels.{speed_levels, grade_levels}
use Rattle.rbc_model.specs.Profiles.{IsProfile}
use Rattle.rbc_model.specs.Scales.{unit_of, scale_of, unit_of_scale}
use Rattle.rbc_model.specs.Messages.{Authority, IsAuthority, direction_of, gradient_fields, gradient_elements, gradient_length, packet_21, speed_elements, speed_length, packet_27, message_length, message_3, message_bytes}
use Rattle.rbc_model.proofs.CountingLemmas.{both_of}
use Rattle.rbc_model.proofs.SpellingLemmas.{within}
use Rattle.rbc_model.proofs.FrameLemmas.{IsFrame, frame_of_end, limits_of}
use Rattle.rbc_model.proofs.LaterStepLemmas.{AreLater, IsUnit, may_have, first_later, started_of_profile, distance_of_next, distance_of_end}
use Rattle.rbc_model.proofs.FieldRowLemmas.{Row, spelled, regroup}
use Rattle.rbc_model.proofs.MessageSizeLemmas.{length-said_3}
use Rattle.rbc_model.proofs.RoundTripLemmas.{round_trip, nominal_said, zeros_behind, byte_bits-padded, length-bytes_of_padded, spelled_bytes}
use Rattle.rbc_model.proofs.MessageWrittenLemmas.{direction_fits, direction_allowed, grade_in_range}
use Rattle.rbc_model.proofs.BasicLemmas.{same_number}
use Rattle.rbc_decode.specs.declared.row.Row.{Row as WalkRow}
use Rattle.rbc_decode.specs.declared.row.Row.TheVariants.{Header as AtHeader, GradientHead, GradientStep, SpeedHead, SpeedStep}
use Rattle.rbc_decode.specs.declared.walk.FieldWalk.{FieldWalk}
use Rattle.rbc_decode.specs.declared.said.Said.{Said}
use Rattle.rbc_decode.specs.declared.said.Said.TheVariants.{Time, Country, Group, Nominal, End, Grade, Speed}
use Rattle.rbc_decode.specs.Said.{said_of, grades_said, speeds_said}
use Rattle.rbc_decode.specs.Walks.{at_row, further, field_of}
use Rattle.rbc_decode.specs.Readings.{reading_of, message_reading}
use Rattle.rbc_decode.specs.Laws.{FieldsAreThose, WordsAreThose}
use Rattle.rbc_decode.proofs.MessageAgreementLemmas.{at_21, at_27, behind_grade, at_grade, behind_speed, at_speed, further_capped, same_end, near_end, some_left, less_one}
use Rattle.rbc_decode.proofs.SpeltLemmas.{Tells, tell, told_all, told_of, as_fields, as_said}

abbrev Fields : Type 0
Fields = List (FieldName × ℕ)

no_fault : (n : ℕ) → (if nat_lt n n then Some Short else if nat_lt n n then Some Extra else None) ≡ None
no_fault n = let e : nat_lt n n ≡ false = grind arith in rw e refl

fits_count : (n : ℕ) → (if n == n then None else Some Length) ≡ None
fits_count n = rw (same_number n) refl

speed_range : (v : ℕ) → may_have speed_levels v ≡ true → (5 ≤ v) × (v ≤ 600)
speed_range v h = limits_of 5 600 v (both_of (speed_levels.in_range v) (speed_levels.is_expressible v) h).0

speed_whole : (v : ℕ) → may_have speed_levels v ≡ true → 5 * (v / 5) ≡ v
speed_whole v h = let whole = eqb-true (v % 5) 0 (both_of (speed_levels.in_range v) (speed_levels.is_expressible v) h).1 in omega (arith, whole)

-- a step of a profile lies where the distances before it say
abbrev Metre : ℕ → Type 0
Metre unit = (end e from distance f x : ℕ) → unit * e ≡ end → e < 2 ^ 15 → f ≡ min from (2 ^ 32 - 1) → unit * (from + distance) ≡ x → x < end → unit * further f distance ≡ x

metre_by_one : Metre 1
metre_by_one end e from distance f x whole fits same at inside = omega arith

metre_by_ten : Metre 10
metre_by_ten end e from distance f x whole fits same at inside = omega arith

metre_told : {unit end e : ℕ} (s from distance f x : ℕ) → IsUnit unit end e → unit_of_scale s ≡ unit → f ≡ min from (2 ^ 32 - 1) → unit * (from + distance) ≡ x → x < end
    → unit_of_scale s * further f distance ≡ x
metre_told {unit} {end} {e} s from distance f x u same_unit same at inside =
    let all : Metre unit = elim u.ones_or_tens [ inl one ↦ subst Metre (sym one) metre_by_one | inr ten ↦ subst Metre (sym ten) metre_by_ten ] in
    ap (λ k. k * further f distance) same_unit ∙ all end e from distance f x u.end_is u.fits same at inside

-- a walk over a message of n bytes, whose packet 15 tells the direction d, the scale s and the end e
module _ (n d s e : ℕ) (near : e ≤ 32000) where
  -- ---- packet 21

  -- a gradient behind packet 21's first distance
  first_grade : (sd : ℕ) (v : ℤ) (fields more : Fields) {said : List Said} {bits later : List Bool} → grade_levels.in_range v ≡ true → Row (gradient_fields v ++ fields) bits later
      → ((up : ℕ) (mid : List Bool) → Row fields mid later
      → Tells (record { row = Some GradientHead; index = 7; is_alone = false; bytes = n; direction = Some d; scale = Some s; end = Some e; said = sd; later = 0; from = 0; uphill = up }) mid more said)
      → Tells (record { row = Some GradientHead; index = 5; is_alone = false; bytes = n; direction = Some d; scale = Some s; end = Some e; said = sd; later = 0; from = 0; uphill = 0 }) bits (gradient_fields v ++ more) (Grade (unit_of_scale s * 0) v ∷ said)
  first_grade sd (pos k) fields more ok r next =
      let high : k ≤ 254 = leb-true k 254 ok in
      tell Q_GDIR refl r (lit< tt) refl refl (λ _ r.
      tell G_A refl r (omega arith) (within 0 254 k (omega arith) high) refl (next 1))
  first_grade sd (negsuc k) fields more ok r next =
      let high : k ≤ 253 = leb-true k 253 (both_of (nat_le k 253) true ok).0 in
      tell Q_GDIR refl r (lit< tt) refl refl (λ _ r.
      tell G_A refl r (omega arith) (within 1 254 (suc k) (omega arith) (omega arith)) refl (next 0))

  -- a gradient behind a later step's distance
  later_grade : (sd m f u : ℕ) (v : ℤ) (fields more : Fields) {said : List Said} {bits later : List Bool} → grade_levels.in_range v ≡ true → Row (gradient_fields v ++ fields) bits later
      → ((up : ℕ) (mid : List Bool) → Row fields mid later → Tells (behind_grade n d s e sd near (Some GradientStep) 2 m f up (nat_lt 0 m)) mid more said)
      → Tells (record { row = Some GradientStep; index = 1; is_alone = false; bytes = n; direction = Some d; scale = Some s; end = Some e; said = sd; later = m; from = f; uphill = u }) bits (gradient_fields v ++ more) (Grade (unit_of_scale s * f) v ∷ said)
  later_grade sd m f u (pos k) fields more ok r next =
      let high : k ≤ 254 = leb-true k 254 ok in
      tell Q_GDIR refl r (lit< tt) refl refl (λ _ r.
      tell G_A refl r (omega arith) (within 0 254 k (omega arith) high) refl (next 1))
  later_grade sd m f u (negsuc k) fields more ok r next =
      let high : k ≤ 253 = leb-true k 253 (both_of (nat_le k 253) true ok).0 in
      tell Q_GDIR refl r (lit< tt) refl refl (λ _ r.
      tell G_A refl r (omega arith) (within 1 254 (suc k) (omega arith) (omega arith)) refl (next 0))

  grades_told : (sd : ℕ) {unit end : ℕ} (from start f u i : ℕ) (r : Option WalkRow) (later : List (ℕ × ℤ)) (fields more : Fields) {said : List Said} {bits rest : List Bool}
      → unit_of_scale s ≡ unit → f ≡ min from (2 ^ 32 - 1) → IsUnit unit end e → start ≡ unit * from → AreLater grade_levels unit end start later
      → Row (gradient_elements unit end start later ++ fields) bits rest
      → ((up : ℕ) (mid : List Bool) → Row fields mid rest → Tells (at_27 n d s e sd up) mid more said)
      → Tells (behind_grade n d s e sd near r i (length later) f u (nat_lt 0 (length later))) bits (gradient_elements unit end start later ++ more) (grades_said later ++ said)
  grades_told sd {unit} {end} from start f u i r [] fields more scale same is at are row next =
      let told = distance_of_end from is at are.before in
      let distance = (end - start) / unit in
      tell D_GRADIENT refl row told.0.fits (and_from _ _ (le-leb 1 distance told.0.some) (same_end f from distance e near same ∙ eq-eqb (from + distance) e told.1)) refl (λ _ row.
      tell Q_GDIR refl row (lit< tt) refl refl (λ _ row.
      tell G_A refl row (lit< tt) refl refl (next 0)))
  grades_told sd {unit} {end} from start f u i r (step ∷ later) fields more {said} {bits} scale same is at are row next =
      let parts = first_later grade_levels are in
      let told = distance_of_next from is at parts.0 in
      let distance = (step.0 - start) / unit in
      let words : List Said = Grade step.0 step.1 ∷ (grades_said later ++ said) in
      let metre = metre_told s from distance f step.0 is scale same told.reaches parts.0.inside in
      let all : Fields = (D_GRADIENT, distance) ∷ ((gradient_fields step.1 ++ gradient_elements unit end step.0 later) ++ more) in
      subst (λ b. Tells (behind_grade n d s e sd near r i (suc (length later)) f u b) bits all words) (sym (some_left (length later)))
      (subst (λ m. Tells (at_grade n d s e sd near m f u) bits all words) (sym (less_one (length later)))
      (tell D_GRADIENT refl row told.fits (le-leb 1 distance told.some) refl (λ mid row.
      as_said (ap (λ at. Grade at step.1 ∷ (grades_said later ++ said)) metre)
      (as_fields (sym (append_assoc (gradient_fields step.1) (gradient_elements unit end step.0 later) more))
      (later_grade sd (length later) (further f distance) u step.1 (gradient_elements unit end step.0 later ++ fields) (gradient_elements unit end step.0 later ++ more) (grade_in_range step.1 parts.0.value)
      (regroup (gradient_fields step.1) (gradient_elements unit end step.0 later) fields row)
      (λ up mid row. grades_told sd (from + distance) step.0 (further f distance) up 2 (Some GradientStep) later fields more scale (further_capped f from distance same) is (sym told.reaches) parts.1 row next))))))

  -- ---- packet 27

  speeds_told : (sd : ℕ) {unit end : ℕ} (from start f u i : ℕ) (r : Option WalkRow) (later : List (ℕ × ℕ)) (fields more : Fields) {said : List Said} {bits rest : List Bool}
      → unit_of_scale s ≡ unit → f ≡ min from (2 ^ 32 - 1) → IsUnit unit end e → start ≡ unit * from → AreLater speed_levels unit end start later
      → Row (speed_elements unit end start later ++ fields) bits rest
      → ((last : FieldWalk) (mid : List Bool) → field_of last ≡ None → Row fields mid rest → Tells last mid more said)
      → Tells (behind_speed n d s e sd near r i (length later) f u (nat_lt 0 (length later))) bits (speed_elements unit end start later ++ more) (speeds_said later ++ said)
  speeds_told sd {unit} {end} from start f u i r [] fields more scale same is at are row next =
      let told = distance_of_end from is at are.before in
      let distance = (end - start) / unit in
      tell D_STATIC refl row told.0.fits (and_from _ _ (le-leb 1 distance told.0.some) (same_end f from distance e near same ∙ eq-eqb (from + distance) e told.1)) refl (λ _ row.
      tell V_STATIC refl row (lit< tt) refl refl (λ _ row.
      tell Q_FRONT refl row (lit< tt) refl refl (λ _ row.
      tell N_ITER refl row (lit< tt) refl refl (λ mid row. next _ mid refl row))))
  speeds_told sd {unit} {end} from start f u i r (step ∷ later) fields more {said} {bits} scale same is at are row next =
      let parts = first_later speed_levels are in
      let told = distance_of_next from is at parts.0 in
      let distance = (step.0 - start) / unit in
      let l = speed_range step.1 parts.0.value in
      let words : List Said = Speed step.0 step.1 ∷ (speeds_said later ++ said) in
      let metre = metre_told s from distance f step.0 is scale same told.reaches parts.0.inside in
      let whole = speed_whole step.1 parts.0.value in
      let all : Fields = (D_STATIC, distance) ∷ (V_STATIC, step.1 / 5) ∷ (Q_FRONT, 0) ∷ (N_ITER, 0) ∷ (speed_elements unit end step.0 later ++ more) in
      subst (λ b. Tells (behind_speed n d s e sd near r i (suc (length later)) f u b) bits all words) (sym (some_left (length later)))
      (subst (λ m. Tells (at_speed n d s e sd near m f u) bits all words) (sym (less_one (length later)))
      (tell D_STATIC refl row told.fits (le-leb 1 distance told.some) refl (λ _ row.
      as_said (ap (λ at. Speed at (5 * (step.1 / 5)) ∷ (speeds_said later ++ said)) metre ∙ ap (λ v. Speed step.0 v ∷ (speeds_said later ++ said)) whole)
      (tell V_STATIC refl row (omega (arith, l.0, l.1)) (within 1 120 (step.1 / 5) (omega (arith, l.0)) (omega (arith, l.1))) refl (λ _ row.
      tell Q_FRONT refl row (lit< tt) refl refl (λ _ row.
      tell N_ITER refl row (lit< tt) refl refl (λ mid row.
      speeds_told sd (from + distance) step.0 (further f distance) u 3 (Some SpeedStep) later fields more scale (further_capped f from distance same) is (sym told.reaches) parts.1 row next)))))))

-- ---- the packets

-- the units of a message for this end
units_of : {end : ℕ} → IsFrame Far end (scale_of end) (end / unit_of end) → IsUnit (unit_of end) end (end / unit_of end)
units_of f = record { ones_or_tens = f.ones_or_tens; end_is = f.end_is; fits = f.count_fits }

module _ (n : ℕ) (nominal : Bool) (end : ℕ) (f : IsFrame Far end (scale_of end) (end / unit_of end)) (near : end / unit_of end ≤ 32000) where
  packet_21_told : (sd : ℕ) (grades : List (ℕ × ℤ)) (fields more : Fields) {words : List Said} {bits rest : List Bool} → IsProfile grade_levels (unit_of end) 31 end grades
      → Row (packet_21 nominal end grades ++ fields) bits rest
      → ((said up : ℕ) (mid : List Bool) → Row fields mid rest → Tells (at_27 n (direction_of nominal) (scale_of end) (end / unit_of end) said up) mid more words)
      → Tells (at_21 n (direction_of nominal) (scale_of end) (end / unit_of end) sd) bits (packet_21 nominal end grades ++ more) (grades_said grades ++ words)
  packet_21_told sd [] fields more profile row next = absurd cc
  packet_21_told sd (first ∷ later) fields more {words} profile row next =
      let s = started_of_profile grade_levels profile in
      let count = suc (length later) in
      let few : count ≤ 31 = s.few in
      let d = direction_of nominal in
      let e = end / unit_of end in
      let elements = gradient_elements (unit_of end) end 0 later in
      let start : unit_of_scale (scale_of end) * 0 ≡ first.0 = omega (arith, s.start) in
      tell NID_PACKET refl row (lit< tt) refl refl (λ _ row.
      tell Q_DIR refl row (direction_fits nominal) (same_number d) refl (λ _ row.
      tell L_PACKET refl row (omega arith) refl refl (λ _ row.
      tell Q_SCALE refl row f.scale_fits (same_number (scale_of end)) refl (λ _ row.
      tell D_GRADIENT refl row (lit< tt) refl refl (λ mid row.
      as_said (ap (λ at. Grade at first.1 ∷ (grades_said later ++ words)) start)
      (as_fields (sym (append_assoc (gradient_fields first.1) ((N_ITER, count) ∷ elements) more))
      (first_grade n d (scale_of end) e near (gradient_length count) first.1 ((N_ITER, count) ∷ elements ++ fields) ((N_ITER, count) ∷ elements ++ more) (grade_in_range first.1 s.value)
      (regroup (gradient_fields first.1) ((N_ITER, count) ∷ elements) fields row)
      (λ up _ row. tell N_ITER refl row (omega arith) (le-leb 1 count (omega arith)) (fits_count (gradient_length count)) (λ mid row.
      subst (λ m. Tells (behind_grade n d (scale_of end) e (gradient_length count) near (Some GradientHead) 7 m 0 up (nat_lt 0 m)) mid (elements ++ more) (grades_said later ++ words)) (sym (less_one (length later)))
      (grades_told n d (scale_of end) e near (gradient_length count) 0 0 0 up 7 (Some GradientHead) later fields more f.unit_is (omega arith) (units_of f) (omega arith) s.rest row
      (λ last mid row. next (gradient_length count) last mid row)))))))))))

  packet_27_told : (sd u : ℕ) (speeds : List (ℕ × ℕ)) (fields more : Fields) {words : List Said} {bits rest : List Bool} → IsProfile speed_levels (unit_of end) 31 end speeds
      → Row (packet_27 nominal end speeds ++ fields) bits rest
      → ((last : FieldWalk) (mid : List Bool) → field_of last ≡ None → Row fields mid rest → Tells last mid more words)
      → Tells (at_27 n (direction_of nominal) (scale_of end) (end / unit_of end) sd u) bits (packet_27 nominal end speeds ++ more) (speeds_said speeds ++ words)
  packet_27_told sd u [] fields more profile row next = absurd cc
  packet_27_told sd u (first ∷ later) fields more {words} profile row next =
      let s = started_of_profile speed_levels profile in
      let count = suc (length later) in
      let few : count ≤ 31 = s.few in
      let d = direction_of nominal in
      let e = end / unit_of end in
      let elements = speed_elements (unit_of end) end 0 later in
      let start : unit_of_scale (scale_of end) * 0 ≡ first.0 = omega (arith, s.start) in
      let whole = speed_whole first.1 s.value in
      let l = speed_range first.1 s.value in
      tell NID_PACKET refl row (lit< tt) refl refl (λ _ row.
      tell Q_DIR refl row (direction_fits nominal) (same_number d) refl (λ _ row.
      tell L_PACKET refl row (omega arith) refl refl (λ _ row.
      tell Q_SCALE refl row f.scale_fits (same_number (scale_of end)) refl (λ _ row.
      tell D_STATIC refl row (lit< tt) refl refl (λ _ row.
      as_said (ap (λ at. Speed at (5 * (first.1 / 5)) ∷ (speeds_said later ++ words)) start ∙ ap (λ v. Speed first.0 v ∷ (speeds_said later ++ words)) whole)
      (tell V_STATIC refl row (omega (arith, l.0, l.1)) (within 1 120 (first.1 / 5) (omega (arith, l.0)) (omega (arith, l.1))) refl (λ _ row.
      tell Q_FRONT refl row (lit< tt) refl refl (λ _ row.
      tell N_ITER refl row (lit< tt) refl refl (λ _ row.
      tell N_ITER refl row (omega arith) (le-leb 1 count (omega arith)) (fits_count (speed_length count)) (λ mid row.
      subst (λ m. Tells (behind_speed n d (scale_of end) e (speed_length count) near (Some SpeedHead) 8 m 0 u (nat_lt 0 m)) mid (elements ++ more) (speeds_said later ++ words)) (sym (less_one (length later)))
      (speeds_told n d (scale_of end) e near (speed_length count) 0 0 0 u 8 (Some SpeedHead) later fields more f.unit_is (omega arith) (units_of f) (omega arith) s.rest row next)))))))))))

-- ---- the message

message_short : (a : Authority) → IsAuthority Far a → message_length a < 2 ^ 10
message_short a is = let grades = is.grades.few in let speeds = is.speeds.few in omega arith

message_told : (a : Authority) {bits filling : List Bool} → IsAuthority Far a → Row (message_3 a) bits filling → Tells (at_row AtHeader false (message_length a)) bits (message_3 a) (said_of a)
message_told a {bits} {filling} is row =
    let f = frame_of_end Far a.end is.end in
    let near = near_end (scale_of a.end) (a.end / unit_of a.end) f.count_allowed in
    let country = is.country in
    let number = is.number in
    let p21 = packet_21 a.nominal a.end a.grades in
    let p27 = packet_27 a.nominal a.end a.speeds in
    let n = message_length a in
    let later : List Said = grades_said a.grades ++ (speeds_said a.speeds ++ []) in
    let words : Bool → ℕ → List Said → List Said = λ nominal end l. Time a.time ∷ Country a.group.country ∷ Group a.group.number ∷ Nominal nominal ∷ End end ∷ l in
    let metres : unit_of_scale (scale_of a.end) * (a.end / unit_of a.end) ≡ a.end = ap (λ k. k * (a.end / unit_of a.end)) f.unit_is ∙ f.end_is in
    as_said
    (ap (λ b. words b (unit_of_scale (scale_of a.end) * (a.end / unit_of a.end)) later) (nominal_said a.nominal)
    ∙ ap (λ m. words a.nominal m later) metres
    ∙ ap (λ l. words a.nominal a.end (grades_said a.grades ++ l)) (append-nil (speeds_said a.speeds)))
    (tell NID_MESSAGE refl row (lit< tt) refl refl (λ _ row.
    tell L_MESSAGE refl row (message_short a is) refl (no_fault n) (λ _ row.
    tell T_TRAIN refl row is.time refl refl (λ _ row.
    tell M_ACK refl row (lit< tt) refl refl (λ _ row.
    tell NID_C refl row (omega arith) refl refl (λ _ row.
    tell NID_BG refl row (omega arith) (within 0 16382 a.group.number (omega arith) number) refl (λ _ row.
    tell NID_PACKET refl row (lit< tt) refl refl (λ _ row.
    tell Q_DIR refl row (direction_fits a.nominal) (direction_allowed a.nominal) refl (λ _ row.
    tell L_PACKET refl row (lit< tt) refl refl (λ _ row.
    tell Q_SCALE refl row f.scale_fits f.scale_allowed refl (λ _ row.
    tell V_LOA refl row (lit< tt) refl refl (λ _ row.
    tell T_LOA refl row (lit< tt) refl refl (λ _ row.
    tell N_ITER refl row (lit< tt) refl refl (λ _ row.
    tell L_ENDSECTION refl row f.count_fits f.count_allowed refl (λ _ row.
    tell Q_SECTIONTIMER refl row (lit< tt) refl refl (λ _ row.
    tell Q_ENDTIMER refl row (lit< tt) refl refl (λ _ row.
    tell Q_DANGERPOINT refl row (lit< tt) refl refl (λ _ row.
    tell Q_OVERLAP refl row (lit< tt) refl refl (λ _ row.
    packet_21_told n a.nominal a.end f near 66 a.grades p27 p27 is.grades row (λ said up mid row.
    subst (λ l. Tells (at_27 n (direction_of a.nominal) (scale_of a.end) (a.end / unit_of a.end) said up) mid l (speeds_said a.speeds ++ [])) (append-nil p27)
    (packet_27_told n a.nominal a.end f near said up a.speeds [] [] is.speeds (subst (λ l. Row l mid filling) (sym (append-nil p27)) row)
    (λ last mid over row. told_all last mid over))))))))))))))))))))))

-- ---- bytes

record IsMessageOf (a : Authority) (bytes : List ℕ) : Type 0 where
  size : length bytes ≡ message_length a
  filling : List Bool
  row_is : Row (message_3 a) (byte_bits bytes) filling

message_of : (a : Authority) (bytes : List ℕ) → IsAuthority Far a → bytes ≡ message_bytes a → IsMessageOf a bytes
message_of a bytes is same =
    let bits = spelled (message_3 a) in
    let whole : bytes ≡ bytes_of (padded_bits bits) = same ∙ spelled_bytes a in
    record {
      size = ap length whole ∙ length-bytes_of_padded bits ∙ ap byte_count (length-said_3 (message_length a) a is);
      filling = zeros_behind bits;
      row_is = record { is = ap byte_bits whole ∙ byte_bits-padded bits };
    }

both_told : (bytes : List ℕ) (a : Authority) → IsBytes bytes → read_message Far bytes ≡ Ok a → told_of (message_reading bytes) ≡ (message_3 a, said_of a)
unfolding reading_of
both_told bytes a are read =
    let told = (round_trip Far bytes a are).0 read in
    let message = message_of a bytes told.0 told.1 in
    let tells = subst (λ n. Tells (at_row AtHeader false n) (byte_bits bytes) (message_3 a) (said_of a)) (sym message.size) (message_told a told.0 message.row_is) in
    tells.tells (suc (length (byte_bits bytes))) 0 (omega arith)

pub fields_are_those : FieldsAreThose
fields_are_those bytes a are read = ap (λ (told : Fields × List Said). told.0) (both_told bytes a are read)

pub words_are_those : WordsAreThose
words_are_those bytes a are read = ap (λ (told : Fields × List Said). told.1) (both_told bytes a are read)
