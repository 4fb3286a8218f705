-- The table of next legs keeps step with the rows.
use Rattle.std.proofs.Common.{◌≡◌, ℕ, suc, zero, ◌<◌, true, List, [], ◌∷◌, length, map, Option, Some, None, refl, ap, sym, ◌∙◌, subst, arith, inl, inr, ◌⊎◌, length-set, replicate}
use Rattle.std.specs.Prelude.{is_some, slice_get, slice_set, option_and_then}
use Rattle.std.specs.Option.{option_map_or}
use Rattle.std.proofs.lemmas.Option.{slice_get_within}
use Rattle.rbc_model.specs.declared.places.Direction.{Direction}
use Rattle.rbc_model.specs.declared.places.Direction.TheVariants.{Rising, Falling}
use Rattle.rbc_model.specs.declared.places.Leg.{Leg}
use Rattle.rbc_model.specs.declared.tracks.Lock.{Lock}
use Rattle.rbc_model.specs.Tracks.{Track, leg_eq}
use Rattle.rbc_model.specs.Locks.{Locks, no_locks, row, next, with_row}
use Rattle.rbc_model.proofs.SamenessLemmas.{leg_eq-true, leg_eq-itself}
use Rattle.rbc_scene_laws.specs.Good.{OneRowBehindEach}
use Rattle.rbc_scene_laws.proofs.BasicLemmas.{the_some}
use Rattle.rbc_scene_laws.proofs.RowLemmas.{next-some, same_leg, slice_get-set_other, same_or_not}
use Rattle.rbc_scene_laws.proofs.LockingLemmas.{Need, IsFreeNeed, one_behind-with_row}
use Rattle.rbc_scene_laws.proofs.FreeingLemmas.{one_behind-freed}
use Rattle.rbc_locks.specs.declared.next_table.NextLegs.{NextLegs}
use Rattle.rbc_locks.specs.NextTables.{no_next, next_in, with_next_in, next_leg, with_next, IsNextTable}
use Rattle.rbc_locks.specs.Room.{HasRoom}
use Rattle.rbc_locks.proofs.NextLemmas.{next-none, none_behind, next-with_row_other, next-with_row_self, next-freed_other, next-freed_self}
use Rattle.std.proofs.lemmas.Bool.{cases_Bool, both_ways}

-- ---- tables

slice_get-set_at : {X : Type 0} (xs : List X) (s : ℕ) (x : X) → s < length xs → slice_get (slice_set xs s x) s ≡ Some x
slice_get-set_at [] s x h = absurd (omega arith)
slice_get-set_at (y ∷ xs) zero x h = refl
slice_get-set_at (y ∷ xs) (suc s) x h = slice_get-set_at xs s x (omega arith)

slice_get_some : {X : Type 0} (xs : List X) (s : ℕ) → s < length xs → is_some (slice_get xs s) ≡ true
slice_get_some [] s h = absurd (omega arith)
slice_get_some (y ∷ xs) zero h = refl
slice_get_some (y ∷ xs) (suc s) h = slice_get_some xs s (omega arith)

next_in-with_self : (direction : Direction) (next : Option Leg) (legs : NextLegs) → next_in direction (with_next_in direction next legs) ≡ next
next_in-with_self Rising next legs = refl
next_in-with_self Falling next legs = refl

next_in-with_other : (a b : Direction) (next : Option Leg) (legs : NextLegs) → ((a ≡ b) → ⊥) → next_in b (with_next_in a next legs) ≡ next_in b legs
next_in-with_other Rising Rising next legs h = absurd (h refl)
next_in-with_other Rising Falling next legs h = refl
next_in-with_other Falling Rising next legs h = refl
next_in-with_other Falling Falling next legs h = absurd (h refl)

pub length-with_next : (table : List NextLegs) (leg : Leg) (next : Option Leg) → length (with_next table leg next) ≡ length table
length-with_next table leg next = by_legs (slice_get table leg.section)
  where
    by_legs : (o : Option NextLegs) → length (option_map_or (λ (legs : NextLegs). slice_set table leg.section (with_next_in leg.direction next legs)) o table) ≡ length table
    by_legs None = refl
    by_legs (Some legs) = length-set table leg.section (with_next_in leg.direction next legs)

pub next_leg-with_next_self : (table : List NextLegs) (leg : Leg) (next : Option Leg) → leg.section < length table → next_leg (with_next table leg next) leg ≡ next
next_leg-with_next_self table leg next within = by_legs (slice_get table leg.section) (slice_get_some table leg.section within)
  where
    by_legs : (o : Option NextLegs) → is_some o ≡ true
        → next_leg (option_map_or (λ (legs : NextLegs). slice_set table leg.section (with_next_in leg.direction next legs)) o table) leg ≡ next
    by_legs None h = cc
    by_legs (Some legs) h =
        ap (option_and_then (next_in leg.direction)) (slice_get-set_at table leg.section (with_next_in leg.direction next legs) within)
        ∙ next_in-with_self leg.direction next legs

pub next_leg-with_next_other : (table : List NextLegs) (leg other : Leg) (next : Option Leg) → ((leg ≡ other) → ⊥) → next_leg (with_next table leg next) other ≡ next_leg table other
next_leg-with_next_other table leg other next apart = by_legs (slice_get table leg.section) refl
  where
    same_section : (legs : NextLegs) → slice_get table leg.section ≡ Some legs → leg.section ≡ other.section
        → next_leg (slice_set table leg.section (with_next_in leg.direction next legs)) other ≡ next_leg table other
    same_section legs e s =
        subst (λ k. option_and_then (next_in other.direction) (slice_get (slice_set table leg.section (with_next_in leg.direction next legs)) k) ≡ option_and_then (next_in other.direction) (slice_get table k)) s
        (ap (option_and_then (next_in other.direction)) (slice_get-set_at table leg.section (with_next_in leg.direction next legs) (slice_get_within table leg.section legs e))
        ∙ next_in-with_other leg.direction other.direction next legs (λ d. apart (same_leg leg other s d))
        ∙ sym (ap (option_and_then (next_in other.direction)) e))

    by_legs : (o : Option NextLegs) → slice_get table leg.section ≡ o
        → next_leg (option_map_or (λ (legs : NextLegs). slice_set table leg.section (with_next_in leg.direction next legs)) o table) other ≡ next_leg table other
    by_legs None e = refl
    by_legs (Some legs) e =
        elim (same_or_not leg.section other.section) [
          | inl s ↦ same_section legs e s
          | inr n ↦ ap (option_and_then (next_in other.direction)) (slice_get-set_other table leg.section other.section (with_next_in leg.direction next legs) n)
        ]

-- ---- what a table keeps

-- two legs are one, or they are not
leg_cases : (a b : Leg) → (a ≡ b) ⊎ ((a ≡ b) → ⊥)
leg_cases a b = elim (cases_Bool (leg_eq a b)) [
  | inl e ↦ inl (leg_eq-true a b e)
  | inr e ↦ inr (λ same. both_ways (leg_eq a b) e (subst (λ (l : Leg). leg_eq a l ≡ true) same (leg_eq-itself a)))
]

free_need : (locks : Locks) (need : Need) → HasRoom locks need → IsFreeNeed locks need
free_need locks need room before h = none_behind locks before (room.free before h)

pub next_table-with_row_none : (number : ℕ) (locks : Locks) (table : List NextLegs) (leg : Leg) → IsNextTable locks table → HasRoom locks (leg, None) → IsNextTable (with_row number locks (leg, None)) table
next_table-with_row_none number locks table leg t room =
    let one : OneRowBehindEach (with_row number locks (leg, None)) = one_behind-with_row number locks (leg, None) t.one_behind (free_need locks (leg, None) room) in
    record {
      as_many = t.as_many ∙ sym (length-set locks leg.section (Some (record { direction = leg.direction; route = number; before = None })));
      one_behind = one;
      found = λ l. next-with_row_other number locks (leg, None) l one room.not_locked (λ e. cc) ∙ t.found l;
    }

pub next_table-with_row : (number : ℕ) (locks : Locks) (table : List NextLegs) (leg before : Leg) → IsNextTable locks table → HasRoom locks (leg, Some before)
    → IsNextTable (with_row number locks (leg, Some before)) (with_next table before (Some leg))
next_table-with_row number locks table leg before t room =
    let one : OneRowBehindEach (with_row number locks (leg, Some before)) = one_behind-with_row number locks (leg, Some before) t.one_behind (free_need locks (leg, Some before) room) in
    record {
      as_many = length-with_next table before (Some leg) ∙ t.as_many ∙ sym (length-set locks leg.section (Some (record { direction = leg.direction; route = number; before = Some before })));
      one_behind = one;
      found = λ l. elim (leg_cases before l) [
        | inl e ↦ subst (λ (z : Leg). next (with_row number locks (leg, Some before)) z ≡ next_leg (with_next table before (Some leg)) z) e
            (next-with_row_self number locks (leg, Some before) before one room.of_track refl
            ∙ sym (next_leg-with_next_self table before (Some leg) (let w = room.before_of_track before refl in let m = t.as_many in omega arith)))
        | inr n ↦ next-with_row_other number locks (leg, Some before) l one room.not_locked (λ e. n (the_some before l e))
            ∙ t.found l ∙ sym (next_leg-with_next_other table before l (Some leg) n)
      ];
    }

-- a leg more that is locked behind another, in the rows and the table as they are written
pub next_table-row_behind : (number : ℕ) (rows now : Locks) (table after : List NextLegs) (leg before : Leg) (index : ℕ) (o : Option Leg) → IsNextTable rows table → rows ≡ now → HasRoom now (leg, o) → index ≡ leg.section → o ≡ Some before
    → after ≡ with_next table before (Some leg) → IsNextTable (slice_set rows index (Some (record { direction = leg.direction; route = number; before = o }))) after
next_table-row_behind number rows now table after leg before index o t e room at is written =
    rw (at, is, written)
    (next_table-with_row number rows table leg before t (subst (λ (n : Locks). HasRoom n (leg, Some before)) (sym e) (subst (λ (b : Option Leg). HasRoom now (leg, b)) is room)))

pub next_table-row_alone : (number : ℕ) (rows now : Locks) (table : List NextLegs) (leg : Leg) (index : ℕ) (o : Option Leg) → IsNextTable rows table → rows ≡ now → HasRoom now (leg, o) → index ≡ leg.section → o ≡ None
    → IsNextTable (slice_set rows index (Some (record { direction = leg.direction; route = number; before = o }))) table
next_table-row_alone number rows now table leg index o t e room at is =
    rw (at, is)
    (next_table-with_row_none number rows table leg t (subst (λ (n : Locks). HasRoom n (leg, None)) (sym e) (subst (λ (b : Option Leg). HasRoom now (leg, b)) is room)))

-- a leg before a row is one of the table's
pub before_of_table : (locks : Locks) (table : List NextLegs) (section : ℕ) (lock : Lock) (before : Leg) → IsNextTable locks table → row locks section ≡ Some lock → lock.before ≡ Some before
    → before.section < length table
before_of_table locks table section lock before t there h = by_legs (slice_get table before.section) refl
  where
    by_legs : (o : Option NextLegs) → slice_get table before.section ≡ o → before.section < length table
    by_legs None e =
        absurd (both_ways (is_some (next locks before)) (ap is_some (t.found before ∙ ap (option_and_then (next_in before.direction)) e)) (next-some locks before section lock there h))
    by_legs (Some legs) e = slice_get_within table before.section legs e

pub next_table-freed_none : (locks : Locks) (table : List NextLegs) (section : ℕ) (lock : Lock) → IsNextTable locks table → row locks section ≡ Some lock → lock.before ≡ None
    → IsNextTable (slice_set locks section None) table
next_table-freed_none locks table section lock t there h = record {
  as_many = t.as_many ∙ sym (length-set locks section None);
  one_behind = one_behind-freed locks section t.one_behind;
  found = λ l. next-freed_other locks section lock l t.one_behind there (λ e. let f : None ≡ Some l = sym h ∙ e in cc) ∙ t.found l;
}

pub next_table-freed : (locks : Locks) (table : List NextLegs) (section : ℕ) (lock : Lock) (before : Leg) → IsNextTable locks table → row locks section ≡ Some lock → lock.before ≡ Some before
    → IsNextTable (slice_set locks section None) (with_next table before None)
next_table-freed locks table section lock before t there h = record {
  as_many = length-with_next table before None ∙ t.as_many ∙ sym (length-set locks section None);
  one_behind = one_behind-freed locks section t.one_behind;
  found = λ l. elim (leg_cases before l) [
    | inl e ↦ subst (λ (z : Leg). next (slice_set locks section None) z ≡ next_leg (with_next table before None) z) e
        (next-freed_self locks section lock before t.one_behind there h
        ∙ sym (next_leg-with_next_self table before None (before_of_table locks table section lock before t there h)))
    | inr n ↦ next-freed_other locks section lock l t.one_behind there (λ e. n (the_some before l (sym h ∙ e)))
        ∙ t.found l ∙ sym (next_leg-with_next_other table before l None n)
  ];
}

-- ---- where nothing is locked

row-none : (n s : ℕ) (lock : Lock) → row (replicate n None) s ≡ Some lock → ⊥
row-none zero s lock h = cc
row-none (suc n) zero lock h = cc
row-none (suc n) (suc s) lock h = row-none n s lock h

next_leg-none : (n : ℕ) (leg : Leg) → next_leg (replicate n no_next) leg ≡ None
next_leg-none n leg = at n leg.section leg.direction
  where
    in_no_next : (direction : Direction) → next_in direction no_next ≡ None
    in_no_next Rising = refl
    in_no_next Falling = refl

    at : (n s : ℕ) (direction : Direction) → option_and_then (next_in direction) (slice_get (replicate n no_next) s) ≡ None
    at zero s direction = refl
    at (suc n) zero direction = in_no_next direction
    at (suc n) (suc s) direction = at n s direction

length-none : {X : Type 0} (n : ℕ) (x : X) → length (replicate n x) ≡ n
length-none zero x = refl
length-none (suc n) x = let e = length-none n x in omega arith

pub next_table-none : (n : ℕ) → IsNextTable (replicate n None) (replicate n no_next)
next_table-none n = record {
  as_many = length-none n no_next ∙ sym (length-none n None);
  one_behind = λ a b x y before at also behind too. absurd (row-none n a x at);
  found = λ leg. next-none (replicate n None) leg (λ s lock at before. row-none n s lock at) ∙ sym (next_leg-none n leg);
}

pub no_locks-replicate : (track : Track) → replicate (length track.sections) None ≡ no_locks track
no_locks-replicate track = each track.sections
  where
    each : {X : Type 0} (xs : List X) → replicate (length xs) None ≡ map (λ (x : X). let none : Option Lock = None in none) xs
    each [] = refl
    each (x ∷ xs) = ap (λ locks. None ∷ locks) (each xs)
