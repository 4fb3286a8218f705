-- A route that is locked: its rows are good and change no row that was there, so the scene stays good.
use Rattle.std.proofs.Common.{◌≡◌, ℕ, zero, suc, Bool, true, false, ◌&&◌, not, List, [], ◌∷◌, length, map, Option, Some, None, Result, Ok, Err, refl, ap, sym, ◌∙◌, subst, inl, inr, length-set, nat_le}
use Rattle.std.specs.Prelude.{is_some, ◌==◌, slice_get, option_map, filter_map, fold}
use Rattle.std.specs.Result.{result_map_both}
use Rattle.std.specs.Option.{option_map_or}
use Rattle.std.specs.List.{AllByRecursion, list_any, list_all, cons_option}
use Rattle.std.proofs.lemmas.List.Elements.{All-from_recursion, recursion_from_All}
use Rattle.rbc_model.specs.declared.limits.TheConstants.{MOST_LEGS}
use Rattle.rbc_model.specs.declared.places.Leg.{Leg}
use Rattle.rbc_model.specs.declared.tracks.Lock.{Lock}
use Rattle.rbc_model.specs.declared.refusals.Refusal.{Refusal}
use Rattle.rbc_model.specs.declared.refusals.Refusal.TheVariants.{Clash, LinkTaken}
use Rattle.rbc_model.specs.Results.{unless}
use Rattle.rbc_model.specs.Tracks.{Track, Route, is_linked, leg_eq, direction_eq}
use Rattle.rbc_model.specs.SoundTracks.{IsSound, sections_differ, are_linked, but_last, is_good_entry, is_good_route, is_leg_of}
use Rattle.rbc_model.specs.Lines.{has_section}
use Rattle.rbc_model.specs.Locks.{Locks, row, next, locked, clash, taken_link, needed_rows, with_leg_before, with_row}
use Rattle.rbc_model.specs.Trains.{Train}
use Rattle.rbc_model.specs.Obstacles.{is_locked}
use Rattle.rbc_model.specs.Scenes.{Scene}
use Rattle.rbc_model.specs.Events.{after_lock, with_locks}
use Rattle.rbc_model.proofs.SamenessLemmas.{leg_eq-itself}
use Rattle.rbc_scene_laws.specs.Good.{OneRowBehindEach, IsGoodScene, IsGoodLocks}
use Rattle.rbc_scene_laws.proofs.BasicLemmas.{EachPair, and_left, and_right, each_weaker, each_both, the_some}
use Rattle.rbc_scene_laws.proofs.RowLemmas.{row-set_other, row-set_cases, is_locked-row, is_locked-none, next-some}
use Rattle.rbc_scene_laws.proofs.TrainListLemmas.{find-none}
use Rattle.rbc_scene_laws.proofs.AuthorityLemmas.{IsHeldLocked}
use Rattle.std.proofs.lemmas.Bool.{not-true, or_parts, or_from, both_ways}
use Rattle.rbc_model.proofs.BasicLemmas.{flipped}

abbrev pub Need : Type 0
Need = Leg × Option Leg

-- ---- one row more

-- no row is behind the leg
abbrev pub NoneBehind : Locks → Leg → Type 0
NoneBehind locks before = (section : ℕ) (lock : Lock) → row locks section ≡ Some lock → lock.before ≡ Some before → ⊥

-- a row that a route needs: what it is behind is linked to it
abbrev IsLinkedNeed : Track → Need → Type 0
IsLinkedNeed track need = (before : Leg) → need.1 ≡ Some before → is_linked track before need.0 ≡ true

abbrev pub IsFreeNeed : Locks → Need → Type 0
IsFreeNeed locks need = (before : Leg) → need.1 ≡ Some before → NoneBehind locks before

abbrev pub BeforesDiffer : Need → Need → Type 0
BeforesDiffer a b = (before : Leg) → a.1 ≡ Some before → b.1 ≡ Some before → ⊥

abbrev pub the_lock : ℕ → Need → Lock
the_lock number need = record { direction = need.0.direction; route = number; before = need.1 }

-- no leg stands before two rows, with the row too
pub one_behind-with_row : (number : ℕ) (locks : Locks) (need : Need) → OneRowBehindEach locks → IsFreeNeed locks need → OneRowBehindEach (with_row number locks need)
one_behind-with_row number locks need one free = λ a b x y before at also behind too.
    elim (row-set_cases locks need.0.section a (Some (the_lock number need)) x at) [
      | inl e ↦ elim (row-set_cases locks need.0.section b (Some (the_lock number need)) y also) [
        | inl f ↦ sym e.0 ∙ f.0
        | inr f ↦ absurd (free before (new_before x before (the_some (the_lock number need) x e.1) behind) b y f.1 too)
      ]
      | inr e ↦ elim (row-set_cases locks need.0.section b (Some (the_lock number need)) y also) [
        | inl f ↦ absurd (free before (new_before y before (the_some (the_lock number need) y f.1) too) a x e.1 behind)
        | inr f ↦ one a b x y before e.1 f.1 behind too
      ]
    ]
  where
    new_before : (lock : Lock) (before : Leg) → the_lock number need ≡ lock → lock.before ≡ Some before → need.1 ≡ Some before
    new_before lock before e behind = ap (λ (l : Lock). l.before) e ∙ behind

good_with_row : (track : Track) (number : ℕ) (locks : Locks) (need : Need) → IsGoodLocks track locks → IsLinkedNeed track need → IsFreeNeed locks need → IsGoodLocks track (with_row number locks need)
good_with_row track number locks need good linked free = record {
  as_many = length-set locks need.0.section (Some (the_lock number need)) ∙ good.as_many;
  linked = λ s lock before there behind. elim (row-set_cases locks need.0.section s (Some (the_lock number need)) lock there) [
    | inl e ↦ new_linked s lock before e.0 (the_some (the_lock number need) lock e.1) behind
    | inr e ↦ good.linked s lock before e.1 behind
  ];
  one_behind = one_behind-with_row number locks need good.one_behind free;
}
  where
    new_linked : (s : ℕ) (lock : Lock) (before : Leg) → need.0.section ≡ s → the_lock number need ≡ lock → lock.before ≡ Some before → is_linked track before (record { section = s; direction = lock.direction }) ≡ true
    new_linked s lock before e f behind =
        subst (λ t. is_linked track before (record { section = t; direction = lock.direction }) ≡ true) e
        (subst (λ (l : Lock). is_linked track before (record { section = need.0.section; direction = l.direction }) ≡ true) f
        (linked before (ap (λ (l : Lock). l.before) f ∙ behind)))

-- what the rows after the first need is still free
pub free_later : (number : ℕ) (locks : Locks) (need later : Need) → IsFreeNeed locks later → BeforesDiffer need later → IsFreeNeed (with_row number locks need) later
free_later number locks need later free differ before at s lock there behind =
    elim (row-set_cases locks need.0.section s (Some (the_lock number need)) lock there) [
      | inl e ↦ differ before (ap (λ (l : Lock). l.before) (the_some (the_lock number need) lock e.1) ∙ behind) at
      | inr e ↦ free before at s lock e.1 behind
    ]

good_with_rows : (track : Track) (number : ℕ) (needs : List Need) (locks : Locks) → IsGoodLocks track locks → AllByRecursion (IsLinkedNeed track) needs → AllByRecursion (IsFreeNeed locks) needs → EachPair BeforesDiffer needs
    → IsGoodLocks track (fold (with_row number) locks needs)
good_with_rows track number [] locks good linked free differ = good
good_with_rows track number (need ∷ needs) locks good linked free differ =
    good_with_rows track number needs (with_row number locks need) (good_with_row track number locks need good linked.0 free.0) linked.1
    (each_both (IsFreeNeed locks) (BeforesDiffer need) (IsFreeNeed (with_row number locks need)) needs (λ later f d. free_later number locks need later f d) free.1 differ.0)
    differ.1

row-with_rows : (number : ℕ) (needs : List Need) (locks : Locks) (s : ℕ) → AllByRecursion (λ need. (need.0.section ≡ s) → ⊥) needs → row (fold (with_row number) locks needs) s ≡ row locks s
row-with_rows number [] locks s h = refl
row-with_rows number (need ∷ needs) locks s h =
    row-with_rows number needs (with_row number locks need) s h.1 ∙ row-set_other locks need.0.section s (Some (the_lock number need)) h.0

-- ---- the rows that a good route needs

-- the leg before is linked to the first leg
abbrev Enters : Track → Option Leg → List Leg → Type 0
Enters track before [] = Unit {0}
Enters track before (first ∷ legs) = (b : Leg) → before ≡ Some b → is_linked track b first ≡ true

linked_needs : (track : Track) (before : Option Leg) (legs : List Leg) → Enters track before legs → are_linked track legs ≡ true → AllByRecursion (IsLinkedNeed track) (with_leg_before before legs)
linked_needs track before [] enters linked = tt
linked_needs track before (leg ∷ []) enters linked = (enters, tt)
linked_needs track before (leg ∷ after ∷ legs) enters linked = (
  enters,
  linked_needs track (Some leg) (after ∷ legs)
      (λ b e. subst (λ z. is_linked track z after ≡ true) (the_some leg b e) (and_left (is_linked track leg after) (are_linked track (after ∷ legs)) linked))
      (and_right (is_linked track leg after) (are_linked track (after ∷ legs)) linked),
)

-- a leg that is none of the legs but perhaps the last stands before none of the rows after the first
others_before : (b leg : Leg) (legs : List Leg) → list_any (leg_eq b) (but_last (leg ∷ legs)) ≡ false → AllByRecursion (λ (need : Need). (need.1 ≡ Some b) → ⊥) (with_leg_before (Some leg) legs)
others_before b leg [] h = tt
others_before b leg (l ∷ legs) h = (
  (λ e. both_ways (leg_eq b leg) ((or_parts (leg_eq b leg) (list_any (leg_eq b) (but_last (l ∷ legs))) h).0) (subst (λ z. leg_eq b z ≡ true) (sym (the_some leg b e)) (leg_eq-itself b))),
  others_before b l legs ((or_parts (leg_eq b leg) (list_any (leg_eq b) (but_last (l ∷ legs))) h).1),
)

-- a leg of another section than the legs is none of them
unlike : (b leg : Leg) → (leg.section == b.section) ≡ false → leg_eq b leg ≡ false
unlike b leg h = ap (λ t. t && direction_eq b.direction leg.direction) (flipped leg.section b.section h)

none_but_last : (b : Leg) (legs : List Leg) → has_section legs b.section ≡ false → list_any (leg_eq b) (but_last legs) ≡ false
none_but_last b [] h = refl
none_but_last b (leg ∷ []) h = refl
none_but_last b (leg ∷ l ∷ legs) h =
    or_from (leg_eq b leg) (list_any (leg_eq b) (but_last (l ∷ legs)))
    (unlike b leg ((or_parts (leg.section == b.section) (has_section (l ∷ legs) b.section) h).0))
    (none_but_last b (l ∷ legs) ((or_parts (leg.section == b.section) (has_section (l ∷ legs) b.section) h).1))

first_differs : (before : Option Leg) (leg : Leg) (legs : List Leg) → ((b : Leg) → before ≡ Some b → list_any (leg_eq b) (but_last (leg ∷ legs)) ≡ false) → AllByRecursion (BeforesDiffer (leg, before)) (with_leg_before (Some leg) legs)
first_differs None leg legs h = no_before (with_leg_before (Some leg) legs)
  where
    no_before : (needs : List Need) → AllByRecursion (BeforesDiffer (leg, None)) needs
    no_before [] = tt
    no_before (need ∷ needs) = ((λ b e f. cc), no_before needs)
first_differs (Some before) leg legs h =
    each_weaker (λ (need : Need). (need.1 ≡ Some before) → ⊥) (BeforesDiffer (leg, Some before)) (with_leg_before (Some leg) legs)
    (λ need none b e f. none (f ∙ sym e))
    (others_before before leg legs (h before refl))

pub differ_needs : (before : Option Leg) (legs : List Leg) → sections_differ legs ≡ true → ((b : Leg) → before ≡ Some b → list_any (leg_eq b) (but_last legs) ≡ false) → EachPair BeforesDiffer (with_leg_before before legs)
differ_needs before [] differ enters = tt
differ_needs before (leg ∷ legs) differ enters = (
  first_differs before leg legs enters,
  differ_needs (Some leg) legs (and_right (not (has_section legs leg.section)) (sections_differ legs) differ)
      (λ b e. subst (λ z. list_any (leg_eq z) (but_last legs) ≡ false) (the_some leg b e)
      (none_but_last leg legs (not-true (has_section legs leg.section) (and_left (not (has_section legs leg.section)) (sections_differ legs) differ)))),
)

-- ---- what an accepted route finds

-- no section of it has a row
apart_from_row : (locks : Locks) (s : ℕ) (lock : Lock) → row locks s ≡ Some lock → (before : Option Leg) (legs : List Leg) → AllByRecursion (λ section. is_some (row locks section) ≡ false) (map (λ (leg : Leg). leg.section) legs)
    → AllByRecursion (λ (need : Need). (need.0.section ≡ s) → ⊥) (with_leg_before before legs)
apart_from_row locks s lock there before [] h = tt
apart_from_row locks s lock there before (leg ∷ legs) h =
    ((λ e. both_ways (is_some (row locks leg.section)) h.0 (ap (λ k. is_some (row locks k)) e ∙ ap is_some there)), apart_from_row locks s lock there (Some leg) legs h.1)

-- and nothing is behind what its rows are behind
split : (Q : Leg → Type 0) (o : Option Leg) (rest : List Leg) → AllByRecursion Q (cons_option o rest) → ((b : Leg) → o ≡ Some b → Q b) × AllByRecursion Q rest
split Q None rest h = ((λ b e. cc), h)
split Q (Some leg) rest h = ((λ b e. subst Q (the_some leg b e) h.0), h.1)

pub free_needs : (locks : Locks) (needs : List Need) → AllByRecursion (λ leg. is_some (next locks leg) ≡ false) (filter_map (λ (need : Need). need.1) needs) → AllByRecursion (IsFreeNeed locks) needs
free_needs locks [] h = tt
free_needs locks (need ∷ needs) h =
    let parts = split (λ leg. is_some (next locks leg) ≡ false) need.1 (filter_map (λ (n : Need). n.1) needs) h in
    ((λ before at s lock there behind. both_ways (is_some (next locks before)) (parts.0 before at) (next-some locks before s lock there behind)), free_needs locks needs parts.1)

pub all_got : {X : Type 0} (test : X → Bool) (xs : List X) (k : ℕ) (x : X) → list_all test xs ≡ true → slice_get xs k ≡ Some x → test x ≡ true
all_got test [] k x h e = cc
all_got test (y ∷ xs) zero x h e = subst (λ z. test z ≡ true) (the_some y x e) (and_left (test y) (list_all test xs) h)
all_got test (y ∷ xs) (suc k) x h e = all_got test xs k x (and_right (test y) (list_all test xs) h) e

-- ---- the locks after

pub record IsGoodRoute (track : Track) (route : Route) : Type 0 where
  pub of_track : list_all (is_leg_of track) route.legs ≡ true
  pub differ : sections_differ route.legs ≡ true
  pub linked : are_linked track route.legs ≡ true
  pub entry : option_map_or (is_good_entry track route.legs) route.after true ≡ true

pub good_route : (track : Track) (route : Route) → is_good_route track route ≡ true → IsGoodRoute track route
good_route track route h =
    let a = nat_le 1 (length route.legs) && nat_le (length route.legs) MOST_LEGS && list_all (is_leg_of track) route.legs in
    let b = sections_differ route.legs in
    let c = are_linked track route.legs in
    let d = option_map_or (is_good_entry track route.legs) route.after true in
    let abc = and_left (a && b && c) d h in
    let ab = and_left (a && b) c abc in
    record {
      of_track = and_right (nat_le 1 (length route.legs) && nat_le (length route.legs) MOST_LEGS) (list_all (is_leg_of track) route.legs) (and_left a b ab);
      differ = and_right a b ab;
      linked = and_right (a && b) c abc;
      entry = and_right (a && b && c) d h;
    }

enters_by : (track : Track) (after : Option Leg) (legs : List Leg) → option_map_or (is_good_entry track legs) after true ≡ true → Enters track after legs
enters_by track after [] h = tt
enters_by track None (first ∷ legs) h = λ b e. cc
enters_by track (Some after) (first ∷ legs) h = λ b e. subst (λ z. is_linked track z first ≡ true) (the_some after b e) (and_left (is_linked track after first) (not (list_any (leg_eq after) (but_last (first ∷ legs)))) h)

pub not_among : (track : Track) (after : Option Leg) (legs : List Leg) → option_map_or (is_good_entry track legs) after true ≡ true → (b : Leg) → after ≡ Some b → list_any (leg_eq b) (but_last legs) ≡ false
not_among track after [] h b e = refl
not_among track None (first ∷ legs) h b e = cc
not_among track (Some after) (first ∷ legs) h b e =
    subst (λ z. list_any (leg_eq z) (but_last (first ∷ legs)) ≡ false) (the_some after b e)
    (not-true (list_any (leg_eq after) (but_last (first ∷ legs))) (and_right (is_linked track after first) (not (list_any (leg_eq after) (but_last (first ∷ legs)))) h))

-- locks that are good, and have the rows that there were
record IsLockedFrom (track : Track) (before after : Locks) : Type 0 where
  good : IsGoodLocks track after
  kept : (s : ℕ) (lock : Lock) → row before s ≡ Some lock → row after s ≡ Some lock

pub unless_none : {A E F : Type 0} (f : F → E) (o : Option F) (r : Result A E) (a : A) → unless (option_map f o) r ≡ Ok a → (o ≡ None) × (r ≡ Ok a)
unless_none f None r a h = (refl, h)
unless_none f (Some x) r a h = cc

pub the_ok : {A E : Type 0} (a b : A) → ◌≡◌ {A = Result A E} (Ok a) (Ok b) → a ≡ b
the_ok a b h = cc

locked_from : (track : Track) (number : ℕ) (locks after : Locks) (o : Option Route) → IsSound track → IsGoodLocks track locks → slice_get track.routes number ≡ o
    → option_map_or (λ (route : Route). unless (option_map Clash (clash locks route)) (unless (option_map LinkTaken (taken_link locks route)) (Ok (fold (with_row number) locks (needed_rows route))))) o (Ok locks) ≡ Ok after → IsLockedFrom track locks after
locked_from track number locks after None sound good e h = subst (IsLockedFrom track locks) (the_ok {E = Refusal} locks after h) (record { good = good; kept = λ s lock there. there })
locked_from track number locks after (Some route) sound good e h =
    let r = good_route track route (all_got (is_good_route track) track.routes number route sound.routes e) in
    let one = unless_none Clash (clash locks route) (unless (option_map LinkTaken (taken_link locks route)) (Ok (fold (with_row number) locks (needed_rows route)))) after h in
    let two = unless_none LinkTaken (taken_link locks route) (Ok (fold (with_row number) locks (needed_rows route))) after one.1 in
    let apart = find-none (λ section. is_some (row locks section)) (map (λ (leg : Leg). leg.section) route.legs) one.0 in
    let free = find-none (λ leg. is_some (next locks leg)) (filter_map (λ (need : Need). need.1) (needed_rows route)) two.0 in
    subst (IsLockedFrom track locks) (the_ok {E = Refusal} (fold (with_row number) locks (needed_rows route)) after two.1)
    (record {
      good = good_with_rows track number (needed_rows route) locks good
          (linked_needs track route.after route.legs (enters_by track route.after route.legs r.entry) r.linked)
          (free_needs locks (needed_rows route) free)
          (differ_needs route.after route.legs r.differ (not_among track route.after route.legs r.entry));
      kept = λ s lock there. row-with_rows number (needed_rows route) locks s (apart_from_row locks s lock there route.after route.legs apart) ∙ there;
    })

-- ---- the scene after

is_locked_some : (locks after : Locks) (leg : Leg) (o : Option Lock) → row locks leg.section ≡ o → ((lock : Lock) → o ≡ Some lock → row after leg.section ≡ Some lock) → is_locked locks None leg ≡ true → is_locked after None leg ≡ true
is_locked_some locks after leg None e kept h = absurd (let f = is_locked-none locks leg e in both_ways (is_locked locks None leg) f h)
is_locked_some locks after leg (Some lock) e kept h = is_locked-row after locks None leg (kept lock refl ∙ sym e) ∙ h

held_kept : (track : Track) (locks after : Locks) (train : Train) → ((s : ℕ) (lock : Lock) → row locks s ≡ Some lock → row after s ≡ Some lock) → IsHeldLocked track locks train → IsHeldLocked track after train
held_kept track locks after train kept held i leg low high there =
    is_locked_some locks after leg (row locks leg.section) refl (λ lock e. kept leg.section lock e) (held i leg low high there)

pub mapped : (scene after : Scene) (r : Result Locks Refusal) → result_map_both (with_locks scene) (λ (e : Refusal). e) r ≡ Ok after → (locks : Locks) × (r ≡ Ok locks) × (with_locks scene locks ≡ after)
mapped scene after (Ok locks) h = (locks, refl, cc)
mapped scene after (Err e) h = cc

pub good_after_lock : (track : Track) (scene after : Scene) (number : ℕ) → IsSound track → after_lock track scene number ≡ Ok after → IsGoodScene track scene → IsGoodScene track after
good_after_lock track scene after number sound h good =
    let m = mapped scene after (locked track scene.locks number) h in
    let l = locked_from track number scene.locks m.0 (slice_get track.routes number) sound good.locks refl m.1 in
    subst (IsGoodScene track) m.2
    (record {
      locks = l.good;
      trains = good.trains;
      numbers_differ = good.numbers_differ;
      apart = good.apart;
      locked = All-from_recursion (IsHeldLocked track m.0) scene.trains
          (each_weaker (IsHeldLocked track scene.locks) (IsHeldLocked track m.0) scene.trains (λ train held. held_kept track scene.locks m.0 train l.kept held)
          (recursion_from_All (IsHeldLocked track scene.locks) scene.trains good.locked));
    })
