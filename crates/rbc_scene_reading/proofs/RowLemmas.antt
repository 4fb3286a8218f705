-- A row that its route needs leaves the locks good.
use Rattle.std.proofs.Common.{◌≡◌, ℕ, ◌<◌, Bool, true, false, not, ◌||◌, List, [], ◌∷◌, length, Option, Some, None, Result, Ok, refl, sym, ap, ◌∙◌, subst, inl, inr, length-set}
use Rattle.std.specs.Prelude.{is_some, slice_get, option_map, IfSome}
use Rattle.std.proofs.lemmas.Option.{slice_get_within}
use Rattle.std.specs.List.{AllByRecursion, list_any, list_all}
use Rattle.std.specs.Option.{option_eq, option_map_or}
use Rattle.std.proofs.lemmas.Bool.{both_ways, ltb-true}
use Rattle.rbc_model.specs.declared.places.Leg.{Leg}
use Rattle.rbc_model.specs.declared.tracks.Lock.{Lock}
use Rattle.rbc_model.specs.declared.refusals.Refusal.{Refusal}
use Rattle.rbc_model.specs.declared.refusals.Refusal.TheVariants.{Clash, LinkTaken}
use Rattle.rbc_model.specs.Results.{unless}
use Rattle.rbc_model.specs.Tracks.{Route, Track, is_linked, leg_eq}
use Rattle.rbc_model.specs.SoundTracks.{IsSound, are_linked, but_last, is_good_entry, is_good_route, is_leg_of}
use Rattle.rbc_model.specs.Locks.{Locks, row, next, with_leg_before, with_row, needed_rows}
use Rattle.rbc_model.proofs.SamenessLemmas.{leg_eq-true}
use Rattle.rbc_scene_laws.specs.Good.{IsGoodLocks, OneRowBehindEach}
use Rattle.rbc_scene_laws.proofs.BasicLemmas.{and_left, and_right, the_some}
use Rattle.rbc_scene_laws.proofs.RowLemmas.{next-some, row-set_cases}
use Rattle.rbc_scene_laws.proofs.LengtheningLemmas.{linked_from_below}
use Rattle.rbc_scene_laws.proofs.LockingLemmas.{Need, all_got, good_route, one_behind-with_row, the_lock, the_ok, unless_none}
use Rattle.rbc_good_laws.specs.Told.{is_needed, needs, same_need}
use Rattle.rbc_scene.specs.Added.{added, taken_before}

-- ---- a row of a route

same_before : (a b : Option Leg) → option_eq leg_eq a b ≡ true → a ≡ b
same_before None None h = refl
same_before None (Some b) h = cc
same_before (Some a) None h = cc
same_before (Some a) (Some b) h = ap Some (leg_eq-true a b h)

the_need : (a b : Need) → same_need a b ≡ true → a ≡ b
the_need (leg, before) (other, behind) h =
    let e = leg_eq-true leg other (and_left (leg_eq leg other) (option_eq leg_eq before behind) h) in
    let f = same_before before behind (and_right (leg_eq leg other) (option_eq leg_eq before behind) h) in
    ap (λ (l : Leg). (l, before)) e ∙ ap (λ (b : Option Leg). (other, b)) f

-- what holds of all rows of a route holds of one that it needs
of_needed : (P : Need → Type 0) (need : Need) (rows : List Need) → list_any (λ other. same_need other need) rows ≡ true → AllByRecursion P rows → P need
of_needed P need [] h all = absurd (let never : ⊥ = cc in never)
of_needed P need (first ∷ rows) h all = by_first (same_need first need) refl h (λ g. of_needed P need rows g all.1)
  where
    by_first : (t : Bool) → same_need first need ≡ t → (t || list_any (λ other. same_need other need) rows) ≡ true → (list_any (λ other. same_need other need) rows ≡ true → P need) → P need
    by_first true e g later = subst P (the_need first need e) all.0
    by_first false e g later = later g

-- a row's leg is one of the track's, and the leg before is linked to it
abbrev pub IsOfTrack : Track → Need → Type 0
IsOfTrack track need = (is_leg_of track need.0 ≡ true) × ((before : Leg) → need.1 ≡ Some before → is_linked track before need.0 ≡ true)

rows_of_track : (track : Track) (before : Option Leg) (legs : List Leg) → ((b leg : Leg) (later : List Leg) → before ≡ Some b → legs ≡ leg ∷ later → is_linked track b leg ≡ true)
    → list_all (is_leg_of track) legs ≡ true → are_linked track legs ≡ true → AllByRecursion (IsOfTrack track) (with_leg_before before legs)
rows_of_track track before [] enters of linked = tt
rows_of_track track before (leg ∷ legs) enters of linked = (
  (and_left (is_leg_of track leg) (list_all (is_leg_of track) legs) of, λ b e. enters b leg legs e refl),
  rows_of_track track (Some leg) legs (λ b after later e f. next_linked legs after later f linked b e) (and_right (is_leg_of track leg) (list_all (is_leg_of track) legs) of) (rest_linked legs linked),
)
  where
    next_linked : (legs : List Leg) (after : Leg) (later : List Leg) → legs ≡ after ∷ later → are_linked track (leg ∷ legs) ≡ true → (b : Leg) → (let o : Option Leg = Some leg in o) ≡ Some b → is_linked track b after ≡ true
    next_linked [] after later e h b f = absurd (let never : ⊥ = cc in never)
    next_linked (second ∷ legs) after later e h b f =
        let same : second ≡ after = cc in
        subst (λ (l : Leg). is_linked track b l ≡ true) same
        (subst (λ (l : Leg). is_linked track l second ≡ true) (the_some leg b f) (and_left (is_linked track leg second) (are_linked track (second ∷ legs)) h))

    rest_linked : (legs : List Leg) → are_linked track (leg ∷ legs) ≡ true → are_linked track legs ≡ true
    rest_linked [] h = refl
    rest_linked (second ∷ legs) h = and_right (is_linked track leg second) (are_linked track (second ∷ legs)) h

-- the leg that a good route is entered from is linked to the first one
entered : (track : Track) (after : Option Leg) (legs : List Leg) → option_map_or (is_good_entry track legs) after true ≡ true
    → (b leg : Leg) (later : List Leg) → after ≡ Some b → legs ≡ leg ∷ later → is_linked track b leg ≡ true
entered track None legs h b leg later e f = absurd (let never : ⊥ = cc in never)
entered track (Some after) [] h b leg later e f = absurd (let never : ⊥ = cc in never)
entered track (Some after) (first ∷ legs) h b leg later e f =
    let same : first ≡ leg = cc in
    subst (λ (l : Leg). is_linked track b l ≡ true) same
    (subst (λ (l : Leg). is_linked track l first ≡ true) (the_some after b e) (and_left (is_linked track after first) (not (list_any (leg_eq after) (but_last (first ∷ legs)))) h))

-- ---- a row that its route needs

pub record IsRowOf (track : Track) (leg : Leg) (number : ℕ) (before : Option Leg) : Type 0 where
  pub route : number < length track.routes
  pub within : leg.section < length track.sections
  pub behind : IfSome before (λ b. b.section < length track.sections)
  pub linked : (b : Leg) → before ≡ Some b → is_linked track b leg ≡ true

module _ (track : Track) (sound : IsSound track) (leg : Leg) (number : ℕ) (before : Option Leg) where
  abbrev lock : Lock
  lock = record { direction = leg.direction; route = number; before = before }

  by_route : (o : Option Route) → slice_get track.routes number ≡ o → option_map_or (needs (leg, before)) o false ≡ true → IsRowOf track leg number before
  by_route None e h = absurd (let never : ⊥ = cc in never)
  by_route (Some route) e h =
      let r = good_route track route (all_got (is_good_route track) track.routes number route sound.routes e) in
      let of = of_needed (IsOfTrack track) (leg, before) (needed_rows route) h (rows_of_track track route.after route.legs (entered track route.after route.legs r.entry) r.of_track r.linked) in
      record {
        route = slice_get_within track.routes number route e;
        within = ltb-true leg.section (length track.sections) of.0;
        behind = by_before before refl of.1;
        linked = of.1;
      }
    where
      by_before : (o : Option Leg) → before ≡ o → ((b : Leg) → before ≡ Some b → is_linked track b leg ≡ true) → IfSome o (λ b. b.section < length track.sections)
      by_before None e linked = tt
      by_before (Some b) e linked = linked_from_below track b leg sound (linked b e)

  pub row_of : is_needed track leg.section lock ≡ true → IsRowOf track leg number before
  row_of h = by_route (slice_get track.routes number) refl h

-- ---- the locks with it

module _ (locks after : Locks) (leg : Leg) (number : ℕ) (before : Option Leg) (is : added locks number leg before ≡ Ok after) where
  abbrev rest : Result Locks Refusal
  rest = unless (let o : Option Refusal = option_map LinkTaken (taken_before locks before) in o) (Ok (with_row number locks (leg, before)))

  pub not_taken : taken_before locks before ≡ None
  not_taken = (unless_none LinkTaken (taken_before locks before) (Ok (with_row number locks (leg, before))) after ((unless_none (λ (l : Lock). Clash leg.section) (row locks leg.section) rest after is).1)).0

  pub is_with_row : with_row number locks (leg, before) ≡ after
  is_with_row =
      the_ok (with_row number locks (leg, before)) after
      ((unless_none LinkTaken (taken_before locks before) (Ok (with_row number locks (leg, before))) after ((unless_none (λ (l : Lock). Clash leg.section) (row locks leg.section) rest after is).1)).1)

  none_behind : (b : Leg) → before ≡ Some b → (section : ℕ) (lock : Lock) → row locks section ≡ Some lock → lock.before ≡ Some b → ⊥
  none_behind b e section lock there behind =
      both_ways (is_some (next locks b)) (ap is_some (by_next (next locks b) refl (subst (λ (o : Option Leg). taken_before locks o ≡ None) e not_taken))) (next-some locks b section lock there behind)
    where
      by_next : (o : Option Leg) → next locks b ≡ o → option_map (λ (l : Leg). b) o ≡ None → next locks b ≡ None
      by_next None f g = f
      by_next (Some l) f g = absurd (let never : ⊥ = cc in never)

  -- what is said of each row is said of all with this one too
  pub each_row : (Says : ℕ → Lock → Type 0) → ((section : ℕ) (lock : Lock) → row locks section ≡ Some lock → Says section lock) → Says leg.section (the_lock number (leg, before))
      → (section : ℕ) (lock : Lock) → row after section ≡ Some lock → Says section lock
  each_row Says all this section lock there =
      elim (row-set_cases locks leg.section section (Some (the_lock number (leg, before))) lock (ap (λ (l : Locks). row l section) is_with_row ∙ there)) [
        | inl e ↦ subst (λ s. Says s lock) e.0 (subst (Says leg.section) (the_some (the_lock number (leg, before)) lock e.1) this)
        | inr e ↦ all section lock e.1
      ]

  pub good_with_row : (track : Track) → IsGoodLocks track locks → IsRowOf track leg number before → IsGoodLocks track after
  good_with_row track good of = record {
    as_many = ap length (sym is_with_row) ∙ length-set locks leg.section (Some (the_lock number (leg, before))) ∙ good.as_many;
    linked = λ section lock b there behind.
        each_row (λ s l. l.before ≡ Some b → is_linked track b (record { section = s; direction = l.direction }) ≡ true) (λ s l at is_behind. good.linked s l b at is_behind) (of.linked b) section lock there behind;
    one_behind = subst OneRowBehindEach is_with_row (one_behind-with_row number locks (leg, before) good.one_behind none_behind);
  }
