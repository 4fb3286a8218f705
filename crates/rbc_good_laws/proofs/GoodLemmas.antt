-- The test of a scene tells whether it is a good one.
use Rattle.std.proofs.Common.{◌≡◌, ◌≢◌, ℕ, zero, suc, ◌+◌, ◌<◌, ◌≤◌, Bool, true, false, not, ◌&&◌, IsTrue, List, [], ◌∷◌, length, nat_lt, nat_le, Option, Some, None, refl, ap, sym, subst, arith}
use Rattle.std.specs.Prelude.{All, AllPairs, ◌==◌}
use Rattle.std.specs.Bool.{Decides}
use Rattle.std.specs.Cmp.{unsigned_Decides}
use Rattle.std.specs.List.{list_all}
use Rattle.std.proofs.lemmas.Bool.{leb-true, ltb-true, le-leb}
use Rattle.std.proofs.lemmas.Bool.Decides.{Decides-and, Decides-like, Decides-by_and}
use Rattle.std.proofs.lemmas.List.Elements.{All-from_recursion, recursion_from_All}
use Rattle.rbc_model.specs.declared.places.Leg.{Leg}
use Rattle.rbc_model.specs.declared.tracks.Lock.{Lock}
use Rattle.rbc_model.specs.Tracks.{Track, is_linked}
use Rattle.rbc_model.specs.SoundTracks.{sections_differ, are_linked}
use Rattle.rbc_model.specs.Lines.{Line, IsLine, line_length, leg_at}
use Rattle.rbc_model.specs.Locks.{Locks, row, next}
use Rattle.rbc_model.specs.Trains.{Train}
use Rattle.rbc_model.specs.Obstacles.{is_locked}
use Rattle.rbc_model.proofs.SamenessLemmas.{leg_eq-true, leg_eq-itself}
use Rattle.rbc_scene_laws.specs.Good.{IsGoodLocks, IsGoodTrain}
use Rattle.rbc_scene_laws.proofs.BasicLemmas.{EachPair, AllPairs-from_recursion, recursion_from_AllPairs, the_some}
use Rattle.rbc_scene_laws.proofs.OnLineLemmas.{IsLine-OnLine, OnLine-IsLine}
use Rattle.rbc_good_laws.specs.Tests.{share_metre, legs_locked}
use Rattle.rbc_good_laws.specs.Told.{own_leg}
use Rattle.rbc_good_laws.specs.Good.{is_found, is_good_before, is_good_row, are_good_rows, are_good_locks, is_good_line, is_good_train, pass_pairwise, is_good_scene}
use Rattle.rbc_good_laws.specs.Laws.{GoodScenesAreDecided}
use Rattle.rbc_good_laws.proofs.TestLemmas.{apart_by_sections, held_locked_by_legs, rows_behind_by_next}

-- ---- tests of numbers and lists

at_most : (a b : ℕ) → Decides (nat_le a b) (a ≤ b)
at_most a b = (leb-true a b, le-leb a b)

below : (a b : ℕ) → Decides (nat_lt a b) (a < b)
below a b = (ltb-true a b, λ h. grind arith)

differ : (t : Bool) (P : Type 0) → Decides t P → Decides (not t) (P → ⊥)
differ true P d = (λ h. cc, λ h. absurd (h (d.0 refl)))
differ false P d = (λ h p. let never : false ≡ true = d.1 p in cc, λ h. refl)

lacks : (t : Bool) → Decides (not t) (t ≡ false)
lacks true = (λ h. cc, λ h. cc)
lacks false = (λ h. refl, λ h. refl)

of_all : {X : Type 0} (p : X → Bool) (P : X → Type 0) → ((x : X) → Decides (p x) (P x)) → (xs : List X) → Decides (list_all p xs) (All P xs)
of_all p P each xs = Decides-by_and p P (list_all p) each refl (λ x ys. refl) xs

of_pairs : {X : Type 0} (p : X → X → Bool) (R : X → X → Type 0) → ((x y : X) → Decides (p x y) (R x y)) → (xs : List X) → Decides (pass_pairwise p xs) (EachPair R xs)
of_pairs p R each [] = (λ h. tt, λ h. refl)
of_pairs p R each (x ∷ xs) =
    let first = of_all (p x) (R x) (each x) xs in
    Decides-and (list_all (p x) xs) (pass_pairwise p xs) (λ h. recursion_from_All (R x) xs (first.0 h), λ h. first.1 (All-from_recursion (R x) xs h)) (of_pairs p R each xs)

all_pairs : {X : Type 0} (p : X → X → Bool) (R : X → X → Type 0) → ((x y : X) → Decides (p x y) (R x y)) → (xs : List X) → Decides (pass_pairwise p xs) (AllPairs R xs)
all_pairs p R each xs =
    let d = of_pairs p R each xs in
    (λ h. AllPairs-from_recursion R xs (d.0 h), λ h. d.1 (recursion_from_AllPairs R xs h))

-- ---- rows

found_is : (own : Leg) (o : Option Leg) → Decides (is_found own o) (o ≡ Some own)
found_is own None = (λ h. cc, λ h. cc)
found_is own (Some other) = (λ h. ap Some (leg_eq-true other own h), λ h. subst (λ l. is_found own (Some l) ≡ true) (sym (the_some other own h)) (leg_eq-itself own))

module _ (track : Track) (locks : Locks) where
  -- what is told of a row with a leg before
  IsRow : ℕ → Lock → Type 0
  IsRow section lock = (before : Leg) → lock.before ≡ Some before → IsTrue (is_linked track before (own_leg section lock)) × (next locks before ≡ Some (own_leg section lock))

  row_is : (section : ℕ) (lock : Lock) → Decides (is_good_row track locks section (Some lock)) (IsRow section lock)
  unfolding IsRow
  row_is section lock = by_before lock.before
    where
      test : (before : Leg) → Decides (is_linked track before (own_leg section lock) && is_found (own_leg section lock) (next locks before)) (IsTrue (is_linked track before (own_leg section lock)) × (next locks before ≡ Some (own_leg section lock)))
      test before =
          Decides-and (is_linked track before (own_leg section lock)) (is_found (own_leg section lock) (next locks before)) (λ h. h, λ h. h) (found_is (own_leg section lock) (next locks before))

      by_before : (o : Option Leg) → Decides (is_good_before track locks (own_leg section lock) o) ((before : Leg) → o ≡ Some before → IsTrue (is_linked track before (own_leg section lock)) × (next locks before ≡ Some (own_leg section lock)))
      by_before None = (λ h before e. cc, λ h. refl)
      by_before (Some first) = (
        λ h before e. subst (λ b. IsTrue (is_linked track b (own_leg section lock)) × (next locks b ≡ Some (own_leg section lock))) (the_some first before e) ((test first).0 h),
        λ h. (test first).1 (h first refl),
      )

  rows_are : (n : ℕ) (rows : Locks) → Decides (are_good_rows track locks n rows) ((k : ℕ) (lock : Lock) → row rows k ≡ Some lock → IsRow (n + k) lock)
  rows_are n [] = (λ h k lock e. cc, λ h. refl)
  rows_are n (first ∷ rows) =
      let both = Decides-and (is_good_row track locks n first) (are_good_rows track locks (n + 1) rows) (first_is first) (rows_are (n + 1) rows) in (
        λ h k lock e. split k lock e (both.0 h),
        λ h. both.1 (λ lock e. subst (λ m. IsRow m lock) (let z : n + 0 ≡ n = omega arith in z) (h 0 lock e), λ k lock e. subst (λ m. IsRow m lock) (let z : n + suc k ≡ n + 1 + k = omega arith in z) (h (suc k) lock e)),
      )
    where
      first_is : (o : Option Lock) → Decides (is_good_row track locks n o) ((lock : Lock) → o ≡ Some lock → IsRow n lock)
      first_is None = (λ h lock e. cc, λ h. refl)
      first_is (Some held) = (λ h lock e. subst (IsRow n) (the_some held lock e) ((row_is n held).0 h), λ h. (row_is n held).1 (h held refl))

      split : (k : ℕ) (lock : Lock) → row (first ∷ rows) k ≡ Some lock
          → ((lock : Lock) → first ≡ Some lock → IsRow n lock) × ((k : ℕ) (lock : Lock) → row rows k ≡ Some lock → IsRow (n + 1 + k) lock) → IsRow (n + k) lock
      split zero lock e parts = subst (λ m. IsRow m lock) (let z : n ≡ n + 0 = omega arith in z) (parts.0 lock e)
      split (suc k) lock e parts = subst (λ m. IsRow m lock) (let z : n + 1 + k ≡ n + suc k = omega arith in z) (parts.1 k lock e)

  pub locks_are : Decides (are_good_locks track locks) (IsGoodLocks track locks)
  unfolding IsRow
  locks_are =
      let each = rows_are 0 locks in
      let both = Decides-and (length locks == length track.sections) (are_good_rows track locks 0 locks) (unsigned_Decides (length locks) (length track.sections)) each in (
        λ h.
            let parts = both.0 h in
            let at = λ (section : ℕ) (lock : Lock) (there : row locks section ≡ Some lock). subst (λ m. IsRow m lock) (let z : 0 + section ≡ section = omega arith in z) (parts.1 section lock there) in
            record {
              as_many = parts.0;
              linked = λ section lock before there behind. (at section lock there before behind).0;
              one_behind = (rows_behind_by_next locks).1 (λ section lock before there behind. (at section lock there before behind).1);
            },
        λ good.
            both.1 (
              good.as_many,
              λ section lock there. subst (λ m. IsRow m lock) (let z : section ≡ 0 + section = omega arith in z)
                  (λ before behind. (good.linked section lock before there behind, (rows_behind_by_next locks).0 good.one_behind section lock before there behind)),
            ),
      )

-- ---- trains

pub line_is : (track : Track) (line : Line) → Decides (is_good_line track line) (IsLine track line)
line_is track line =
    Decides-like (is_good_line track line)
    (λ e. IsLine-OnLine track line (record { some_leg = e.0.0.0; of_track = recursion_from_All (λ (leg : Leg). leg.section < length track.sections) line e.0.0.1; differ = e.0.1; linked = e.1 }))
    (λ l. let on = OnLine-IsLine track line l in (((on.some_leg, l.of_track), on.differ), on.linked))
    (Decides-and (nat_lt 0 (length line) && list_all (λ leg. nat_lt leg.section (length track.sections)) line && sections_differ line) (are_linked track line)
    (Decides-and (nat_lt 0 (length line) && list_all (λ leg. nat_lt leg.section (length track.sections)) line) (sections_differ line)
    (Decides-and (nat_lt 0 (length line)) (list_all (λ leg. nat_lt leg.section (length track.sections)) line) (below 0 (length line))
    (of_all (λ leg. nat_lt leg.section (length track.sections)) (λ (leg : Leg). leg.section < length track.sections) (λ leg. below leg.section (length track.sections)) line))
    (λ h. h, λ h. h))
    (λ h. h, λ h. h))

pub train_is : (track : Track) (train : Train) → Decides (is_good_train track train) (IsGoodTrain track train)
train_is track train =
    let n = line_length track train.line in
    Decides-like (is_good_train track train)
    (λ e. record { line = e.0.0.0.0.0.0; origin = e.0.0.0.0.0.1; rear = e.0.0.0.0.1; front = e.0.0.0.1; behind = e.0.0.1; from = e.0.1; to = e.1 })
    (λ g. ((((((g.line, g.origin), g.rear), g.front), g.behind), g.from), g.to))
    (Decides-and (is_good_line track train.line && nat_le train.origin train.front && nat_le train.rear train.front && nat_le train.front n && nat_le train.rear train.from && nat_le train.from train.to) (nat_le train.to n)
    (Decides-and (is_good_line track train.line && nat_le train.origin train.front && nat_le train.rear train.front && nat_le train.front n && nat_le train.rear train.from) (nat_le train.from train.to)
    (Decides-and (is_good_line track train.line && nat_le train.origin train.front && nat_le train.rear train.front && nat_le train.front n) (nat_le train.rear train.from)
    (Decides-and (is_good_line track train.line && nat_le train.origin train.front && nat_le train.rear train.front) (nat_le train.front n)
    (Decides-and (is_good_line track train.line && nat_le train.origin train.front) (nat_le train.rear train.front)
    (Decides-and (is_good_line track train.line) (nat_le train.origin train.front) (line_is track train.line) (at_most train.origin train.front))
    (at_most train.rear train.front))
    (at_most train.front n))
    (at_most train.rear train.from))
    (at_most train.from train.to))
    (at_most train.to n))

-- ---- the scene

pub good_scenes_decided : GoodScenesAreDecided
good_scenes_decided track scene =
    let trains = scene.trains in
    let numbers = λ (a b : Train). not (a.report.train == b.report.train) in
    let shares = λ (a b : Train). not (share_metre track a b) in
    let locked = λ (train : Train). legs_locked track scene.locks train.from train.to 0 train.line in
    let apart = all_pairs shares (λ a b. share_metre track a b ≡ false) (λ a b. lacks (share_metre track a b)) trains in
    let sections = apart_by_sections track scene in
    Decides-like (is_good_scene track scene)
    (λ e. record { locks = e.0.0.0.0; trains = e.0.0.0.1; numbers_differ = e.0.0.1; apart = e.0.1; locked = e.1 })
    (λ g. ((((g.locks, g.trains), g.numbers_differ), g.apart), g.locked))
    (Decides-and (are_good_locks track scene.locks && list_all (is_good_train track) trains && pass_pairwise numbers trains && pass_pairwise shares trains) (list_all locked trains)
    (Decides-and (are_good_locks track scene.locks && list_all (is_good_train track) trains && pass_pairwise numbers trains) (pass_pairwise shares trains)
    (Decides-and (are_good_locks track scene.locks && list_all (is_good_train track) trains) (pass_pairwise numbers trains)
    (Decides-and (are_good_locks track scene.locks) (list_all (is_good_train track) trains) (locks_are track scene.locks) (of_all (is_good_train track) (IsGoodTrain track) (train_is track) trains))
    (all_pairs numbers (λ (a b : Train). a.report.train ≢ b.report.train) (λ a b. differ (a.report.train == b.report.train) (a.report.train ≡ b.report.train) (unsigned_Decides a.report.train b.report.train)) trains))
    (λ h. sections.1 (apart.0 h), λ h. apart.1 (sections.0 h)))
    (of_all locked (λ (train : Train). (i : ℕ) (leg : Leg) → train.from ≤ i → i < train.to → leg_at track train.line i ≡ Some leg → IsTrue (is_locked scene.locks None leg)) (λ train. held_locked_by_legs track scene.locks train) trains))
