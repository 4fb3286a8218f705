-- A route of a sound track finds room where none of its sections is locked, and nothing behind the legs that its rows are behind.
use Rattle.std.proofs.Common.{◌≡◌, ℕ, ◌<◌, true, false, not, List, [], ◌∷◌, length, map, Option, Some, None, Result, Ok, refl, sym, ap, ◌∙◌, subst, arith, length-set, nat_lt}
use Rattle.std.specs.Prelude.{is_some, ◌==◌, slice_get, option_map, filter_map, fold}
use Rattle.std.specs.Option.{option_map_or, option_or}
use Rattle.std.specs.List.{AllByRecursion, list_all}
use Rattle.std.specs.Result.{result_err}
use Rattle.rbc_model.specs.Results.{unless}
use Rattle.rbc_model.specs.declared.places.Leg.{Leg}
use Rattle.rbc_model.specs.declared.tracks.Lock.{Lock}
use Rattle.rbc_model.specs.declared.refusals.Refusal.{Refusal}
use Rattle.rbc_model.specs.declared.refusals.Refusal.TheVariants.{Clash, LinkTaken}
use Rattle.rbc_model.specs.Tracks.{Track, Route, is_linked}
use Rattle.rbc_model.specs.SoundTracks.{IsSound, sections_differ, is_leg_of, is_good_entry, is_good_route}
use Rattle.rbc_model.specs.Lines.{has_section}
use Rattle.rbc_model.specs.Locks.{Locks, row, next, clash, taken_link, locked, needed_rows, with_leg_before, with_row}
use Rattle.rbc_scene_laws.proofs.BasicLemmas.{EachPair, and_left, and_right, each_weaker, each_both, the_some}
use Rattle.rbc_scene_laws.proofs.TrainListLemmas.{find-none}
use Rattle.rbc_scene_laws.proofs.RowLemmas.{row-set_other}
use Rattle.rbc_scene_laws.proofs.LengtheningLemmas.{linked_from_below}
use Rattle.rbc_scene_laws.proofs.LockingLemmas.{Need, IsFreeNeed, BeforesDiffer, the_lock, free_later, free_needs, differ_needs, good_route, not_among, all_got}
use Rattle.rbc_locks.specs.Room.{HaveRoom, lock_refusal}
use Rattle.rbc_locks.proofs.NextLemmas.{next-none}
use Rattle.std.proofs.lemmas.Bool.{not-true, or_parts, eqb-false}

-- ---- one row after the other

-- sections that are not locked, and differ from the one that is locked, stay so
still_empty : (number : ℕ) (locks : Locks) (need : Need) (legs : List Leg) → has_section legs need.0.section ≡ false → AllByRecursion (λ (leg : Leg). row locks leg.section ≡ None) legs
    → AllByRecursion (λ (leg : Leg). row (with_row number locks need) leg.section ≡ None) legs
still_empty number locks need [] h empty = tt
still_empty number locks need (leg ∷ legs) h empty = (
  row-set_other locks need.0.section leg.section (Some (the_lock number need))
      (λ e. eqb-false leg.section need.0.section ((or_parts (leg.section == need.0.section) (has_section legs need.0.section) h).0) (sym e))
      ∙ empty.0,
  still_empty number locks need legs ((or_parts (leg.section == need.0.section) (has_section legs need.0.section) h).1) empty.1,
)

still_within : (number : ℕ) (locks : Locks) (need : Need) (leg : Leg) → leg.section < length locks → leg.section < length (with_row number locks need)
still_within number locks need leg h = let e = length-set locks need.0.section (Some (the_lock number need)) in omega arith

room_for : (number : ℕ) (before : Option Leg) (legs : List Leg) (locks : Locks) → AllByRecursion (λ (leg : Leg). leg.section < length locks) legs → ((b : Leg) → before ≡ Some b → b.section < length locks)
    → sections_differ legs ≡ true → AllByRecursion (λ (leg : Leg). row locks leg.section ≡ None) legs → AllByRecursion (IsFreeNeed locks) (with_leg_before before legs) → EachPair BeforesDiffer (with_leg_before before legs)
    → HaveRoom number locks (with_leg_before before legs)
room_for number before [] locks within entered differ empty free apart = tt
room_for number before (leg ∷ legs) locks within entered differ empty free apart = (
  record { of_track = within.0; not_locked = empty.0; before_of_track = entered; free = λ b e. next-none locks b (free.0 b e) },
  room_for number (Some leg) legs (with_row number locks (leg, before))
      (each_weaker (λ (l : Leg). l.section < length locks) (λ (l : Leg). l.section < length (with_row number locks (leg, before))) legs (λ l h. still_within number locks (leg, before) l h) within.1)
      (λ b e. still_within number locks (leg, before) b (subst (λ (l : Leg). l.section < length locks) (the_some leg b e) within.0))
      (and_right (not (has_section legs leg.section)) (sections_differ legs) differ)
      (still_empty number locks (leg, before) legs (not-true (has_section legs leg.section) (and_left (not (has_section legs leg.section)) (sections_differ legs) differ)) empty.1)
      (each_both (IsFreeNeed locks) (BeforesDiffer (leg, before)) (IsFreeNeed (with_row number locks (leg, before))) (with_leg_before (Some leg) legs)
      (λ later f d. free_later number locks (leg, before) later f d)
      free.1
      apart.0)
      apart.1,
)

-- ---- a route

legs_within : (track : Track) (locks : Locks) (legs : List Leg) → length locks ≡ length track.sections → list_all (is_leg_of track) legs ≡ true → AllByRecursion (λ (leg : Leg). leg.section < length locks) legs
legs_within track locks [] many h = tt
legs_within track locks (leg ∷ legs) many h = (
  below leg.section (length track.sections) (length locks) (sym many) (and_left (is_leg_of track leg) (list_all (is_leg_of track) legs) h),
  legs_within track locks legs many (and_right (is_leg_of track leg) (list_all (is_leg_of track) legs) h),
)
  where
    below : (s n m : ℕ) → n ≡ m → nat_lt s n ≡ true → s < m
    below s n m e h = grind arith

entry_within : (track : Track) (locks : Locks) (after : Option Leg) (legs : List Leg) → IsSound track → length locks ≡ length track.sections → option_map_or (is_good_entry track legs) after true ≡ true
    → (b : Leg) → after ≡ Some b → b.section < length locks
entry_within track locks None legs sound many h b e = cc
entry_within track locks (Some after) [] sound many h b e = cc
entry_within track locks (Some after) (first ∷ legs) sound many h b e =
    subst (λ (l : Leg). l.section < length locks) (the_some after b e)
    (let w = linked_from_below track after first sound (and_left (is_linked track after first) _ h) in omega arith)

not_locked : (locks : Locks) (legs : List Leg) → AllByRecursion (λ section. is_some (row locks section) ≡ false) (map (λ (leg : Leg). leg.section) legs) → AllByRecursion (λ (leg : Leg). row locks leg.section ≡ None) legs
not_locked locks [] h = tt
not_locked locks (leg ∷ legs) h = (none (row locks leg.section) h.0, not_locked locks legs h.1)
  where
    none : (o : Option Lock) → is_some o ≡ false → o ≡ None
    none None e = refl
    none (Some lock) e = cc

pub room_of_route : (track : Track) (locks : Locks) (number : ℕ) (route : Route) → IsSound track → length locks ≡ length track.sections → slice_get track.routes number ≡ Some route → clash locks route ≡ None → taken_link locks route ≡ None
    → HaveRoom number locks (needed_rows route)
room_of_route track locks number route sound many e none free =
    let r = good_route track route (all_got (is_good_route track) track.routes number route sound.routes e) in
    room_for number route.after route.legs locks
    (legs_within track locks route.legs many r.of_track)
    (entry_within track locks route.after route.legs sound many r.entry)
    r.differ
    (not_locked locks route.legs (find-none (λ section. is_some (row locks section)) (map (λ (leg : Leg). leg.section) route.legs) none))
    (free_needs locks (needed_rows route) (find-none (λ leg. is_some (next locks leg)) (filter_map (λ (need : Need). need.1) (needed_rows route)) free))
    (differ_needs route.after route.legs r.differ (not_among track route.after route.legs r.entry))

-- ---- a route that nothing refuses

pub no_clash : (locks : Locks) (route : Route) → lock_refusal locks route ≡ None → clash locks route ≡ None
no_clash locks route h = by_clash (clash locks route) (taken_link locks route) h
  where
    by_clash : (a : Option ℕ) (b : Option Leg) → option_or (option_map Clash a) (option_map LinkTaken b) ≡ None → a ≡ None
    by_clash None b e = refl
    by_clash (Some section) b e = cc

pub no_taken_link : (locks : Locks) (route : Route) → lock_refusal locks route ≡ None → taken_link locks route ≡ None
no_taken_link locks route h = by_clash (clash locks route) (taken_link locks route) h
  where
    by_clash : (a : Option ℕ) (b : Option Leg) → option_or (option_map Clash a) (option_map LinkTaken b) ≡ None → b ≡ None
    by_clash a None e = refl
    by_clash None (Some leg) e = cc
    by_clash (Some section) (Some leg) e = cc

-- how many rows there are
pub length-with_rows : (number : ℕ) (needs : List Need) (locks : Locks) → length (fold (with_row number) locks needs) ≡ length locks
length-with_rows number [] locks = refl
length-with_rows number (need ∷ needs) locks = length-with_rows number needs (with_row number locks need) ∙ length-set locks need.0.section (Some (the_lock number need))

-- ---- why a route can't be locked

err-unless : {A E : Type 0} (first second : Option E) (x : A) → option_or first second ≡ result_err (unless first (unless second (Ok x)))
err-unless None None x = refl
err-unless None (Some refusal) x = refl
err-unless (Some refusal) second x = refl

abbrev all_locked : Locks → ℕ → Route → Result Locks Refusal
all_locked locks number route =
    unless (option_map Clash (clash locks route)) (unless (option_map LinkTaken (taken_link locks route)) (Ok (fold (with_row number) locks (needed_rows route))))

pub err-locked : (track : Track) (locks : Locks) (number : ℕ) (route : Route) → slice_get track.routes number ≡ Some route → lock_refusal locks route ≡ result_err (locked track locks number)
err-locked track locks number route there =
    err-unless (option_map Clash (clash locks route)) (option_map LinkTaken (taken_link locks route)) (fold (with_row number) locks (needed_rows route))
    ∙ ap (λ found. result_err (option_map_or (all_locked locks number) found (Ok locks))) (sym there)
