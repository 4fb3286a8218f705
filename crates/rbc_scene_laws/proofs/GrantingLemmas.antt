-- A grant: its metres have no obstacle, so no other authority has them and they are locked, and the scene stays good.
use Rattle.std.proofs.Common.{◌≡◌, ℕ, ◌+◌, ◌-◌, ◌<◌, ◌≤◌, max, Bool, true, false, cond, ◌&&◌, ◌||◌, not, List, [], ◌∷◌, ◌++◌, length, take, drop, Option, Some, None, Ok, Err, refl, ap, sym, ◌∙◌, subst, arith, inl, inr}
use Rattle.std.specs.Prelude.{is_none, ◌==◌, option_map, option_and_then, find, filter}
use Rattle.std.specs.Option.{option_map_or, option_eq}
use Rattle.std.specs.List.{AllByRecursion}
use Rattle.std.proofs.lemmas.List.{take-append-drop, length-append}
use Rattle.std.proofs.lemmas.List.Elements.{recursion_from_All}
use Rattle.std.proofs.lemmas.Bool.{and_from, not_from_false, both_ways}
use Rattle.rbc_model.specs.declared.places.Metre.{Metre}
use Rattle.rbc_model.specs.declared.places.Leg.{Leg}
use Rattle.rbc_model.specs.declared.tracks.Lock.{Lock}
use Rattle.rbc_model.specs.declared.refusals.Refusal.TheVariants.{UnknownTrain, NotSafe}
use Rattle.rbc_model.specs.declared.refusals.Obstacle.{Obstacle}
use Rattle.rbc_model.specs.declared.refusals.Obstacle.TheVariants.{NotLocked as LegNotLocked, Held}
use Rattle.rbc_model.specs.Tracks.{Track, IsMetreOf, metres_of, metre_of_leg, leg_eq, direction_eq}
use Rattle.rbc_model.specs.Lines.{Line, at_place, line_length, leg_at, metre_at, last_leg, legs_begun_before}
use Rattle.rbc_model.specs.Locks.{Locks, row}
use Rattle.rbc_model.specs.Trains.{Train}
use Rattle.rbc_model.specs.Obstacles.{obstacle, first_some, no_link, not_locked, own, occupied, held, limit, unlocked_section, is_locked, first_with, way, is_clear}
use Rattle.rbc_model.specs.Scenes.{Scene, train_numbered, others, authority_has}
use Rattle.rbc_model.specs.Views.{start_of, is_safe, is_expressible_end, IsSafe, way_end}
use Rattle.rbc_model.specs.Events.{after_grant, with_train, with_authority}
use Rattle.rbc_model.proofs.ScanLemmas.{le_or_lt, first_blocked-ge_start}
use Rattle.rbc_model.proofs.EndLemmas.{IsSafe-is_safe, le_reach-IsSafe, reach-le}
use Rattle.rbc_model.proofs.StopLemmas.{IsStopped-reach}
use Rattle.rbc_model.proofs.ExtentLemmas.{place-authority_has}
use Rattle.rbc_scene_laws.specs.Good.{IsGoodScene, IsGoodTrain, IsGoodLocks}
use Rattle.rbc_scene_laws.proofs.BasicLemmas.{and_left, the_some}
use Rattle.rbc_scene_laws.proofs.SpotLemmas.{at_place-on, at_place-append_left, line_length-append}
use Rattle.rbc_scene_laws.proofs.TrainListLemmas.{find-none, find-holds}
use Rattle.rbc_scene_laws.proofs.AuthorityLemmas.{Apart, IsHeldLocked, good_with_train}
use Rattle.rbc_scene_laws.proofs.OnLineLemmas.{OnLine, OnLine-IsLine, IsLine-OnLine, OnLine-left}
use Rattle.rbc_scene_laws.proofs.LengtheningLemmas.{IsAhead, ahead_fully}
use Rattle.rbc_scene_laws.proofs.ReachingLemmas.{begun_reach, line_length-take_more, take_past}
use Rattle.rbc_model.proofs.BasicLemmas.{if_in, if_past}

-- ---- a place without an obstacle

record IsClearOf (track : Track) (scene : Scene) (train : Train) (line : Line) (i : ℕ) : Type 0 where
  locked : not_locked track scene line i ≡ None
  held : held track scene train line i ≡ None

six_none : (a b c d e f : Option Obstacle) → first_some (a ∷ b ∷ c ∷ d ∷ e ∷ f ∷ []) ≡ None → (b ≡ None) × (e ≡ None)
six_none None None None None None f h = (refl, refl)
six_none None None None None (Some x) f h = cc
six_none None None None (Some x) e f h = cc
six_none None None (Some x) d e f h = cc
six_none None (Some x) c d e f h = cc
six_none (Some x) b c d e f h = cc

clear_of : (track : Track) (scene : Scene) (train : Train) (i : ℕ) → obstacle track scene train i ≡ None → IsClearOf track scene train (way track scene train) i
clear_of track scene train i h =
    let line = way track scene train in
    let e = six_none (no_link track scene line i) (not_locked track scene line i) (own track scene line i) (occupied track scene train line i) (held track scene train line i) (limit track train i) h in
    record { locked = e.0; held = e.1 }

-- its leg is locked
none_mapped : {A B : Type 0} (f : A → B) (o : Option A) → option_map f o ≡ None → o ≡ None
none_mapped f None h = refl
none_mapped f (Some x) h = cc

passed_lock : (b : Bool) (section : ℕ) → cond b None (Some section) ≡ None → b ≡ true
passed_lock true section h = refl
passed_lock false section h = cc

locked_weaker : (locks : Locks) (before : Option Leg) (leg : Leg) → is_locked locks before leg ≡ true → is_locked locks None leg ≡ true
locked_weaker locks before leg h = by_row (row locks leg.section) h
  where
    test : Option Leg → Lock → Bool
    test b lock = direction_eq lock.direction leg.direction && (is_none b || option_eq leg_eq lock.before b)

    by_row : (o : Option Lock) → option_map_or (test before) o false ≡ true → option_map_or (test None) o false ≡ true
    by_row None e = e
    by_row (Some lock) e = and_from (direction_eq lock.direction leg.direction) true (and_left (direction_eq lock.direction leg.direction) (is_none before || option_eq leg_eq lock.before before) e) refl

leg_locked : (track : Track) (locks : Locks) (before : Option Leg) (line : Line) (i : ℕ) (leg : Leg) → unlocked_section track locks before line i ≡ None → leg_at track line i ≡ Some leg → is_locked locks None leg ≡ true
leg_locked track locks before [] i leg h there = cc
leg_locked track locks before (l ∷ line) i leg h there =
    let m = metres_of track l.section in
    let first : Option ℕ = cond (is_locked locks before l) None (Some l.section) in
    let rest : Option ℕ = unlocked_section track locks (Some l) line (i - m) in
    elim (le_or_lt m i) [
      | inl past ↦
          leg_locked track locks (Some l) line (i - m) leg (sym (if_past first rest i m past) ∙ h) (sym (if_past (Some l) (leg_at track line (i - m)) i m past) ∙ there)
      | inr here ↦
          subst (λ z. is_locked locks None z ≡ true) (the_some l leg (sym (if_in (Some l) (leg_at track line (i - m)) i m here) ∙ there))
          (locked_weaker locks before l (passed_lock (is_locked locks before l) l.section (sym (if_in first rest i m here) ∙ h)))
    ]

-- and no other train's authority has its metre
rest_none : {X : Type 0} (b : Bool) (x : X) (rest : Option X) → cond b (Some x) rest ≡ None → rest ≡ None
rest_none true x rest h = cc
rest_none false x rest h = h

others_lack : (test : Train → Bool) (stays : Train → Bool) (xs : List Train) → find test (filter stays xs) ≡ None → AllByRecursion (λ x. stays x ≡ true → test x ≡ false) xs
others_lack test stays [] h = tt
others_lack test stays (x ∷ xs) h = by_stay (stays x) refl h (λ none. others_lack test stays xs none)
  where
    by_stay : (b : Bool) → stays x ≡ b → find test (cond b (x ∷ filter stays xs) (filter stays xs)) ≡ None → (find test (filter stays xs) ≡ None → AllByRecursion (λ y. stays y ≡ true → test y ≡ false) xs)
        → AllByRecursion (λ y. stays y ≡ true → test y ≡ false) (x ∷ xs)
    by_stay true e none later = let n = find-none test (x ∷ filter stays xs) none in ((λ s. n.0), later (rest_none (test x) x (find test (filter stays xs)) none))
    by_stay false e none later = ((λ s. absurd (both_ways (stays x) e s)), later none)

metre_free : (track : Track) (scene : Scene) (train : Train) (line : Line) (i : ℕ) (metre : Metre) → held track scene train line i ≡ None → metre_at track line i ≡ Some metre
    → find (authority_has track metre) (others scene train) ≡ None
metre_free track scene train line i metre h there =
    none_mapped (λ (other : Train). other.report.train) (find (authority_has track metre) (others scene train))
    (sym (ap (option_and_then (λ m. option_map (λ (other : Train). other.report.train) (find (authority_has track m) (others scene train)))) there)
    ∙ none_mapped Held (first_with track scene train line i (authority_has track)) h)

-- ---- the train after

-- what a grant may be made of
record IsGrantable (track : Track) (scene : Scene) (train : Train) (to : ℕ) (line : Line) : Type 0 where
  on : OnLine track line
  rest : Line
  is : way track scene train ≡ line ++ rest
  front : train.front ≤ line_length track line
  far : to ≤ line_length track line

pub last_there : (line : Line) → 0 < length line → (leg : Leg) × (last_leg line ≡ Some leg)
last_there [] h = absurd (omega arith)
last_there (leg ∷ []) h = (leg, refl)
last_there (leg ∷ next ∷ line) h = last_there (next ∷ line) (omega arith)

to_on_way : (track : Track) (scene : Scene) (train : Train) (to : ℕ) → IsGoodTrain track train → IsAhead track train.line (way track scene train) → IsSafe track scene train to → to ≤ way_end track scene train
to_on_way track scene train to good a safe =
    let last = last_there train.line good.line.some_leg in
    let longer : line_length track (way track scene train) ≡ line_length track train.line + line_length track a.more = ap (line_length track) a.is ∙ line_length-append track train.line a.more in
    let front = good.front in
    let low = first_blocked-ge_start (is_clear track scene train) (start_of train) (way_end track scene train) (let g : start_of train ≤ way_end track scene train = omega arith in g) in
    let near = le_reach-IsSafe track scene train to low (IsStopped-reach track scene train last.0 last.1) safe in
    let far = reach-le track scene train in
    omega arith

abbrev pub line_for : Track → Scene → Train → ℕ → Line
line_for track scene train to = take (max (length train.line) (legs_begun_before track to (way track scene train))) (way track scene train)

grantable : (track : Track) (scene : Scene) (train : Train) (to : ℕ) → IsGoodLocks track scene.locks → IsGoodTrain track train → IsSafe track scene train to → IsGrantable track scene train to (line_for track scene train to)
grantable track scene train to locks good safe =
    let on = OnLine-IsLine track train.line good.line in
    let a = ahead_fully track scene.locks locks (length track.sections) train.line on in
    let line = way track scene train in
    let k = max (length train.line) (legs_begun_before track to line) in
    let longer : take k line ≡ train.line ++ take (k - length train.line) a.more = ap (take k) a.is ∙ take_past k train.line a.more (let g : length train.line ≤ k = omega arith in g) in
    let some : 0 < length (take k line) = subst (λ (z : Line). 0 < length z) (sym longer) (let e = length-append train.line (take (k - length train.line) a.more) in let s = on.some_leg in let g : 0 < length (train.line ++ take (k - length train.line) a.more) = omega arith in g) in
    let parts = take-append-drop k line in
    let metres : line_length track (take k line) ≡ line_length track train.line + line_length track (take (k - length train.line) a.more) = ap (line_length track) longer ∙ line_length-append track train.line (take (k - length train.line) a.more) in
    record {
      on = OnLine-left track (take k line) (drop k line) some (subst (OnLine track) (sym parts) a.on);
      rest = drop k line;
      is = sym parts;
      front = let f = good.front in omega arith;
      far =
          let reach = begun_reach track to line (to_on_way track scene train to good a safe) in
          let more = line_length-take_more track (legs_begun_before track to line) k line (omega arith) in
          omega arith;
    }

module _ (track : Track) (scene : Scene) (train : Train) (to : ℕ) (line : Line) (good : IsGoodTrain track train) (safe : IsSafe track scene train to) (g : IsGrantable track scene train to line) where
  abbrev granted : Train
  granted = with_authority train line (start_of train) to

  good_train : IsGoodTrain track granted
  good_train = record {
    line = IsLine-OnLine track line g.on;
    origin = good.origin;
    rear = good.rear;
    front = g.front;
    behind = let b = good.behind in let r = good.rear in omega arith;
    from = let f = safe.beyond_front in omega arith;
    to = g.far;
  }

  -- what stands on the new line stands on the way
  on_way : {X : Type 0} (say : Leg → ℕ → X) (i : ℕ) (x : X) → at_place say track line i ≡ Some x → at_place say track (way track scene train) i ≡ Some x
  on_way say i x h = ap (λ (l : Line). at_place say track l i) g.is ∙ at_place-append_left say track line g.rest i (at_place-on say track line i x h) ∙ h

  held_locked : IsHeldLocked track scene.locks granted
  held_locked i leg low high there =
      let c = clear_of track scene train i (safe.clear i low high) in
      leg_locked track scene.locks None (way track scene train) i leg (none_mapped LegNotLocked (unlocked_section track scene.locks None (way track scene train) i) c.locked) (on_way (λ l k. l) i leg there)

  free_metre : (metre : Metre) → IsMetreOf track metre → authority_has track metre granted ≡ true
      → AllByRecursion (λ (x : Train). not (x.report.train == train.report.train) ≡ true → authority_has track metre x ≡ false) scene.trains
  free_metre metre of_track has =
      let found = place-authority_has track metre granted of_track has in
      let c = clear_of track scene train found.0 (safe.clear found.0 found.1 found.2) in
      others_lack (authority_has track metre) (λ (x : Train). not (x.report.train == train.report.train)) scene.trains
      (metre_free track scene train (way track scene train) found.0 metre c.held (on_way (metre_of_leg track) found.0 metre found.3))

apart_from_all : (track : Track) (after : Train) (number : ℕ) (xs : List Train)
    → ((metre : Metre) → IsMetreOf track metre → authority_has track metre after ≡ true → AllByRecursion (λ (x : Train). not (x.report.train == number) ≡ true → authority_has track metre x ≡ false) xs)
    → AllByRecursion (λ (other : Train). (other.report.train == number) ≡ false → Apart track after other) xs
apart_from_all track after number [] h = tt
apart_from_all track after number (x ∷ xs) h = (
  (λ unlike metre of_track has also. both_ways (authority_has track metre x) ((h metre of_track has).0 (not_from_false (x.report.train == number) unlike)) also),
  apart_from_all track after number xs (λ metre of_track has. (h metre of_track has).1),
)

-- ---- the scene after

pub record IsGranted (track : Track) (scene : Scene) (number distance : ℕ) (after : Scene) : Type 0 where
  pub train : Train
  pub there : train_numbered scene number ≡ Some train
  pub safe : is_safe track scene train (train.origin + distance) ≡ true
  pub is : with_train scene (with_authority train (line_for track scene train (train.origin + distance)) (start_of train) (train.origin + distance)) ≡ after

granted_by : (b : Bool) (x y : Scene) → cond b (Ok x) (Err NotSafe) ≡ Ok y → (b ≡ true) × (x ≡ y)
granted_by true x y h = (refl, cc)
granted_by false x y h = cc

pub granted_to : (track : Track) (scene after : Scene) (number distance : ℕ) (o : Option Train) → train_numbered scene number ≡ o
    → option_map_or
    (λ (train : Train). cond (is_safe track scene train (train.origin + distance) && is_expressible_end track train (train.origin + distance))
    (Ok (with_train scene (with_authority train (line_for track scene train (train.origin + distance)) (start_of train) (train.origin + distance)))) (Err NotSafe))
    o (Err (UnknownTrain number)) ≡ Ok after
    → IsGranted track scene number distance after
granted_to track scene after number distance None e h = cc
granted_to track scene after number distance (Some train) e h =
    let to = train.origin + distance in
    let p = granted_by (is_safe track scene train to && is_expressible_end track train to) (with_train scene (with_authority train (line_for track scene train to) (start_of train) to)) after h in
    record { train = train; there = e; safe = and_left (is_safe track scene train to) (is_expressible_end track train to) p.0; is = p.1 }

pub good_after_grant : (track : Track) (scene after : Scene) (number distance : ℕ) → after_grant track scene number distance ≡ Ok after → IsGoodScene track scene → IsGoodScene track after
good_after_grant track scene after number distance h good =
    let g = granted_to track scene after number distance (train_numbered scene number) refl h in
    let train = g.train in
    let to = train.origin + distance in
    let line = line_for track scene train to in
    let fine = find-holds (IsGoodTrain track) (λ (t : Train). t.report.train == number) scene.trains train g.there (recursion_from_All (IsGoodTrain track) scene.trains good.trains) in
    let safe = IsSafe-is_safe track scene train to g.safe in
    let made = grantable track scene train to good.locks fine safe in
    subst (IsGoodScene track) g.is
    (good_with_train track scene (with_authority train line (start_of train) to) good
    (good_train track scene train to line fine safe made)
    (held_locked track scene train to line fine safe made)
    (apart_from_all track (with_authority train line (start_of train) to) train.report.train scene.trains (free_metre track scene train to line fine safe made)))
