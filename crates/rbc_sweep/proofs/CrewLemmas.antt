-- What the seats of a crew gain, and what its passes know together.
use Rattle.std.proofs.Common.{All, Some, ◌≡◌, ℕ, zero, suc, ◌+◌, ◌-◌, ◌<◌, ◌≤◌, List, [], ◌∷◌, ◌++◌, length, map, take, drop, get_or, set, fold, Result, Ok, Err, IfOk, OnErr, sym, refl, ap, ◌∙◌, subst, append_assoc, add-zero, arith}
use Rattle.std.specs.List.{AllZip, flat_map, slice_get}
use Rattle.std.specs.List.Sorted.{IsPermutation}
use Rattle.std.proofs.lemmas.List.{append-nil, length-take, map-append, take_all, take_at, take-take}
use Rattle.std.proofs.lemmas.List.Concat.{flat_map-append}
use Rattle.std.proofs.lemmas.List.Elements.{All-append, All-nil, All-weaker}
use Rattle.std.proofs.lemmas.List.Sorted.{IsPermutation-append_left, IsPermutation-append_right, IsPermutation-refl, IsPermutation-trans}
use Rattle.rbc_model.specs.Histories.{Receipt}
use Rattle.rbc_desk.specs.Seats.{Seated}
use Rattle.rbc_desk.specs.Closing.{all_receipts}
use Rattle.rbc_desk.specs.Later.{IsLater}
use Rattle.rbc_desk.specs.Trains.{numbers_of}
use Rattle.rbc_sweep.specs.declared.jobs.Tally.{Tally}
use Rattle.rbc_sweep.specs.declared.order.Done.{Done}
use Rattle.rbc_sweep.specs.Jobs.{tally}
use Rattle.rbc_sweep.specs.Outcomes.{AreFirst, AreTrainsOfFirst, Begins, IsTold, IsToldToOne, receipts_each, receipts_of}
use Rattle.rbc_sweep.specs.declared.outcome.Outcome.{Outcome}
use Rattle.rbc_sweep.proofs.WorkLemmas.{begins_itself, begins_still, told_wider}
use Rattle.rbc_sweep.specs.Serving.{HasServed, HaveGained, job_of, joined, jobs, receipts_in}
use Rattle.rbc_sweep.proofs.Permutations.{inner_swapped}

-- ---- seats keep what they had

pub AreFirst-behind : (had has : Seated) (more : List Receipt) → has.receipts ≡ had.receipts ++ more → Begins had.told has.told → AreFirst had has
AreFirst-behind had has more e told = record {
  receipts = ap (λ l. take (length had.receipts) l) e ∙ take_at had.receipts more (length had.receipts) refl;
  told = told;
}

pub AreFirst-same : (had : Seated) → AreFirst had had
AreFirst-same had = record { receipts = take_all (length had.receipts) had.receipts (omega arith); told = begins_itself had.told }

AreFirst-trans : (xs ys zs : Seated) → AreFirst xs ys → AreFirst ys zs → AreFirst xs zs
AreFirst-trans xs ys zs p q =
    let a = xs.receipts in
    let b = ys.receipts in
    let shorter : length a ≤ length b = omega (arith, ap length p.receipts, length-take (length a) b) in
    record {
      receipts = sym (take-take (length a) (length b) zs.receipts shorter) ∙ ap (λ l. take (length a) l) q.receipts ∙ p.receipts;
      told = begins_still xs.told ys.told zs.told p.told q.told;
    }

pub kept_same : (had : List Seated) → AllZip AreFirst had had
kept_same [] = tt
kept_same (r ∷ rs) = (AreFirst-same r, kept_same rs)

pub kept-trans : (xs ys zs : List Seated) → AllZip AreFirst xs ys → AllZip AreFirst ys zs → AllZip AreFirst xs zs
kept-trans [] [] [] p q = tt
kept-trans [] [] (c ∷ zs) p q = q
kept-trans [] (b ∷ ys) zs p q = absurd p
kept-trans (a ∷ xs) [] zs p q = absurd p
kept-trans (a ∷ xs) (b ∷ ys) [] p q = absurd q
kept-trans (a ∷ xs) (b ∷ ys) (c ∷ zs) p q = (AreFirst-trans a b c p.0 q.0, kept-trans xs ys zs p.1 q.1)

-- ---- an outcome that a seat is told of

-- with seats that had been told less
pub told_before : (first had has : List Seated) (outcome : Outcome) → AllZip AreFirst first had → IsToldToOne had has outcome → IsToldToOne first has outcome
told_before first had has outcome kept t =
    let one = zip_back first had t.place t.before kept t.had_it in record {
      place = t.place;
      before = one.0;
      after = t.after;
      had_it = one.1;
      has_it = t.has_it;
      told = told_wider one.0 t.before t.after t.after outcome (let k = one.2 in k.told) (begins_itself t.after.told) t.told;
    }
  where
    zip_back : (xs ys : List Seated) (i : ℕ) (y : Seated) → AllZip AreFirst xs ys → slice_get ys i ≡ Some y → (x : Seated) × (slice_get xs i ≡ Some x) × AreFirst x y
    zip_back [] [] i y p e = cc
    zip_back [] (b ∷ ys) i y p e = absurd p
    zip_back (a ∷ xs) [] i y p e = absurd p
    zip_back (a ∷ xs) (b ∷ ys) zero y p e = (a, refl, subst (AreFirst a) (cc) p.0)
    zip_back (a ∷ xs) (b ∷ ys) (suc i) y p e = zip_back xs ys i y p.1 e

-- with seats that are told more
pub told_behind : (had has last : List Seated) (outcome : Outcome) → AllZip AreFirst has last → IsToldToOne had has outcome → IsToldToOne had last outcome
told_behind had has last outcome kept t =
    let one = zip_on has last t.place t.after kept t.has_it in record {
      place = t.place;
      before = t.before;
      after = one.0;
      had_it = t.had_it;
      has_it = one.1;
      told = told_wider t.before t.before t.after one.0 outcome (begins_itself t.before.told) (let k = one.2 in k.told) t.told;
    }
  where
    zip_on : (xs ys : List Seated) (i : ℕ) (x : Seated) → AllZip AreFirst xs ys → slice_get xs i ≡ Some x → (y : Seated) × (slice_get ys i ≡ Some y) × AreFirst x y
    zip_on [] [] i x p e = cc
    zip_on [] (b ∷ ys) i x p e = absurd p
    zip_on (a ∷ xs) [] i x p e = absurd p
    zip_on (a ∷ xs) (b ∷ ys) zero x p e = (b, refl, subst (λ s. AreFirst s b) (cc) p.0)
    zip_on (a ∷ xs) (b ∷ ys) (suc i) x p e = zip_on xs ys i x p.1 e

pub told_first : (one other : Seated) (had has : List Seated) (outcome : Outcome) → IsTold one other outcome → IsToldToOne (one ∷ had) (other ∷ has) outcome
told_first one other had has outcome t = record { place = 0; before = one; after = other; had_it = refl; has_it = refl; told = t }

pub told_next : (one other : Seated) (had has : List Seated) (outcome : Outcome) → IsToldToOne had has outcome → IsToldToOne (one ∷ had) (other ∷ has) outcome
told_next one other had has outcome t = record { place = suc t.place; before = t.before; after = t.after; had_it = t.had_it; has_it = t.has_it; told = t.told }

pub told_last : (seats : List Seated) (one other : Seated) (outcome : Outcome) → IsTold one other outcome → IsToldToOne (seats ++ one ∷ []) (seats ++ other ∷ []) outcome
told_last [] one other outcome t = told_first one other [] [] outcome t
told_last (s ∷ seats) one other outcome t = told_next s s (seats ++ one ∷ []) (seats ++ other ∷ []) outcome (told_last seats one other outcome t)

-- ---- and gain

pub HaveGained-none : (had : List Seated) → HaveGained had had []
HaveGained-none had = record {
  kept = kept_same had;
  just = subst (λ l. IsPermutation l (all_receipts had)) (sym (append-nil (all_receipts had))) (IsPermutation-refl (all_receipts had));
}

pub HaveGained-trans : (xs ys zs : List Seated) (one two : List Receipt) → HaveGained xs ys one → HaveGained ys zs two → HaveGained xs zs (one ++ two)
HaveGained-trans xs ys zs one two p q = record {
  kept = kept-trans xs ys zs p.kept q.kept;
  just = subst (λ l. IsPermutation l (all_receipts zs)) (append_assoc (all_receipts xs) one two)
      (IsPermutation-trans ((all_receipts xs ++ one) ++ two) (all_receipts ys ++ two) (all_receipts zs)
      (IsPermutation-append_left two (all_receipts xs ++ one) (all_receipts ys) p.just) q.just);
}

pub HaveGained-moved : (xs ys : List Seated) (one two : List Receipt) → HaveGained xs ys one → IsPermutation two one → HaveGained xs ys two
HaveGained-moved xs ys one two p moved = record {
  kept = p.kept;
  just = IsPermutation-trans (all_receipts xs ++ two) (all_receipts xs ++ one) (all_receipts ys)
      (IsPermutation-append_right (all_receipts xs) two one moved) p.just;
}

HaveGained-cons : (had has : Seated) (one : List Receipt) (xs ys : List Seated) (two : List Receipt) → has.receipts ≡ had.receipts ++ one → Begins had.told has.told → HaveGained xs ys two
    → HaveGained (had ∷ xs) (has ∷ ys) (one ++ two)
HaveGained-cons had has one xs ys two e told p = record {
  kept = (AreFirst-behind had has one e told, p.kept);
  just = IsPermutation-trans ((had.receipts ++ all_receipts xs) ++ (one ++ two)) ((had.receipts ++ one) ++ (all_receipts xs ++ two)) (has.receipts ++ all_receipts ys)
      (inner_swapped had.receipts (all_receipts xs) one two)
      (subst (λ l. IsPermutation ((had.receipts ++ one) ++ (all_receipts xs ++ two)) (l ++ all_receipts ys)) (sym e)
      (IsPermutation-append_right (had.receipts ++ one) (all_receipts xs ++ two) (all_receipts ys) p.just));
}

pub HaveGained-last : (seats : List Seated) (had has : Seated) (one : List Receipt) → has.receipts ≡ had.receipts ++ one → Begins had.told has.told
    → HaveGained (seats ++ had ∷ []) (seats ++ has ∷ []) one
HaveGained-last [] had has one e told =
    subst (HaveGained (had ∷ []) (has ∷ [])) (append-nil one) (HaveGained-cons had has one [] [] [] e told (HaveGained-none []))
HaveGained-last (s ∷ seats) had has one e told =
    HaveGained-cons s s [] (seats ++ had ∷ []) (seats ++ has ∷ []) one (sym (append-nil s.receipts)) (begins_itself s.told) (HaveGained-last seats had has one e told)

pub HaveGained-first : (seats : List Seated) (d has : Seated) → 0 < length seats → has.receipts ≡ (get_or seats 0 d).receipts → Begins (get_or seats 0 d).told has.told
    → HaveGained seats (set seats 0 has) []
HaveGained-first [] d has some e told = absurd (omega arith)
HaveGained-first (s ∷ seats) d has some e told =
    HaveGained-cons s has [] seats seats [] (e ∙ sym (append-nil s.receipts)) told (HaveGained-none seats)

-- the first of the seats is told which trains there are
pub receipts_each-first : (seats : List Seated) (d has : Seated) → 0 < length seats → has.receipts ≡ (get_or seats 0 d).receipts → receipts_each (set seats 0 has) ≡ receipts_each seats
receipts_each-first [] d has some e = absurd (omega arith)
receipts_each-first (s ∷ seats) d has some e = ap (λ r. r ∷ receipts_each seats) e

pub trains_told : {A E : Type 0} (r : Result A E) (trains : A → List ℕ) (seats : List Seated) (d has : Seated) → 0 < length seats → IsLater (get_or seats 0 d).told has.told
    → IfOk r (λ x. trains x ≡ numbers_of has.told) → IfOk r (λ x. AreTrainsOfFirst seats (set seats 0 has) (trains x))
trains_told (Ok x) trains [] d has some later all = absurd (omega arith)
trains_told (Ok x) trains (s ∷ seats) d has some later all = record { history = has.told; later = later; told = begins_itself has.told; all = all }
trains_told (Err e) trains seats d has some later all = tt

-- in any case the seats keep what they had
pub kept_either : {A E : Type 0} (r : Result A E) (had has : List Seated) (got : A → List Receipt) → IfOk r (λ x. HaveGained had has (got x)) → OnErr r (has ≡ had)
    → AllZip AreFirst had has
kept_either (Ok x) had has got ok err = ok.kept
kept_either (Err e) had has got ok err = subst (AllZip AreFirst had) (sym err) (kept_same had)

pub just_gained : {A E : Type 0} (r : Result A E) (had has : List Seated) (got : A → List Receipt) → IfOk r (λ x. HaveGained had has (got x))
    → IfOk r (λ x. IsPermutation (all_receipts had ++ got x) (all_receipts has))
just_gained (Ok x) had has got ok = ok.just
just_gained (Err e) had has got ok = tt

-- ---- a crew

zip_from : {W : Type 0} (R : W → W → Type 0) (ws vs : List W) → length vs ≡ length ws → ((i : ℕ) (d : W) → i < length ws → R (get_or ws i d) (get_or vs i d)) → AllZip R ws vs
zip_from R [] [] same each = tt
zip_from R [] (v ∷ vs) same each = absurd (omega arith)
zip_from R (w ∷ ws) [] same each = absurd (omega arith)
zip_from R (w ∷ ws) (v ∷ vs) same each = (each 0 w (omega arith), zip_from R ws vs (omega arith) (λ i d inside. each (suc i) d (omega arith)))

-- what a slice is written back to
pub zip_written : {W : Type 0} (R : W → W → Type 0) (ws vs : List W) (n : ℕ) → length vs ≡ n → length ws ≡ n
    → ((i : ℕ) (d : W) → i < length ws → R (get_or ws i d) (get_or vs i d)) → AllZip R ws (take n (vs ++ drop (length vs) ws))
zip_written R ws vs n many same each =
    subst (AllZip R ws) (sym (take_at vs (drop (length vs) ws) n many)) (zip_from R ws vs (many ∙ sym same) each)

-- one part more was lent
pub left_more : (u v w : Tally) (n m : ℕ) → v ≡ tally (u.parts - n) u.put u.taken → w ≡ tally (v.parts - 1) v.put v.taken → m ≡ n + 1
    → w ≡ tally (u.parts - m) u.put u.taken
left_more u v w n m was now more =
    let same : u.parts - n - 1 ≡ u.parts - m = omega arith in
    now ∙ ap (λ (t : Tally). tally (t.parts - 1) t.put t.taken) was ∙ ap (λ k. tally k u.put u.taken) same

pub receipts_in-append : (xs ys : List Done) → receipts_in (xs ++ ys) ≡ receipts_in xs ++ receipts_in ys
receipts_in-append xs ys = flat_map-append (λ (d : Done). receipts_of d.outcome.answer) xs ys

pub jobs-append : (xs ys : List Done) → jobs (xs ++ ys) ≡ jobs xs ++ jobs ys
jobs-append xs ys = map-append job_of xs ys

module _ {W : Type 0} (seat : W → Seated) (known : W → Tally) (done : W → List Done) where
  abbrev pub HasWorked : W → W → Type 0
  HasWorked w v = HasServed (tally 1 [] []) (seat w) (known v) (seat v) (done v)

  pub crew_gained : (ws vs : List W) → AllZip HasWorked ws vs → HaveGained (map seat ws) (map seat vs) (receipts_in (flat_map done vs))
  crew_gained [] [] p = HaveGained-none []
  crew_gained [] (v ∷ vs) p = absurd p
  crew_gained (w ∷ ws) [] p = absurd p
  crew_gained (w ∷ ws) (v ∷ vs) p =
      subst (HaveGained (map seat (w ∷ ws)) (map seat (v ∷ vs))) (sym (receipts_in-append (done v) (flat_map done vs)))
      (HaveGained-cons (seat w) (seat v) (receipts_in (done v)) (map seat ws) (map seat vs) (receipts_in (flat_map done vs)) p.0.gained p.0.begins (crew_gained ws vs p.1))

  pub crew_told : (ws vs : List W) → AllZip HasWorked ws vs → All (λ (d : Done). IsToldToOne (map seat ws) (map seat vs) d.outcome) (flat_map done vs)
  crew_told [] [] p = All-nil (λ (d : Done). IsToldToOne [] [] d.outcome)
  crew_told [] (v ∷ vs) p = absurd p
  crew_told (w ∷ ws) [] p = absurd p
  crew_told (w ∷ ws) (v ∷ vs) p =
      let one = seat w in
      let other = seat v in
      let had = map seat ws in
      let has = map seat vs in
      All-append (λ (d : Done). IsToldToOne (one ∷ had) (other ∷ has) d.outcome) (done v) (flat_map done vs)
      (All-weaker (λ (d : Done). IsTold one other d.outcome) (λ (d : Done). IsToldToOne (one ∷ had) (other ∷ has) d.outcome) (λ d t. told_first one other had has d.outcome t) (done v) p.0.told)
      (All-weaker (λ (d : Done). IsToldToOne had has d.outcome) (λ (d : Done). IsToldToOne (one ∷ had) (other ∷ has) d.outcome) (λ d t. told_next one other had has d.outcome t) (flat_map done vs) (crew_told ws vs p.1))

  pub crew_long : (ws vs : List W) → AllZip HasWorked ws vs → length vs ≡ length ws
  crew_long [] [] p = refl
  crew_long [] (v ∷ vs) p = absurd p
  crew_long (w ∷ ws) [] p = absurd p
  crew_long (w ∷ ws) (v ∷ vs) p = ap suc (crew_long ws vs p.1)

  pub crew_known : (u : Tally) (ws vs : List W) → AllZip HasWorked ws vs
      → fold joined u (map known vs) ≡ tally (u.parts + length vs) u.put (u.taken ++ jobs (flat_map done vs))
  crew_known u [] [] p = λ i. record { parts = sym (add-zero u.parts) i; put = u.put; taken = sym (append-nil u.taken) i }
  crew_known u [] (v ∷ vs) p = absurd p
  crew_known u (w ∷ ws) [] p = absurd p
  crew_known u (w ∷ ws) (v ∷ vs) p =
      let mine : Tally = tally 1 [] (jobs (done v)) in
      let next : joined u (known v) ≡ tally (u.parts + 1) u.put (u.taken ++ jobs (done v)) =
      ap (joined u) p.0.taken ∙ ap (λ put. tally (u.parts + 1) put (u.taken ++ jobs (done v))) (append-nil u.put) in
      let rest = flat_map done vs in
      let parts : u.parts + 1 + length vs ≡ u.parts + length (v ∷ vs) = omega arith in
      let taken : (u.taken ++ jobs (done v)) ++ jobs rest ≡ u.taken ++ jobs (flat_map done (v ∷ vs)) =
      append_assoc u.taken (jobs (done v)) (jobs rest) ∙ ap (λ l. u.taken ++ l) (sym (jobs-append (done v) rest)) in
      ap (λ t. fold joined t (map known vs)) next ∙ crew_known (tally (u.parts + 1) u.put (u.taken ++ jobs (done v))) ws vs p.1
      ∙ (λ i. tally (parts i) u.put (taken i))
