-- The rows that are written are read back.
use Rattle.std.proofs.Common.{◌≡◌, ℕ, zero, suc, ◌+◌, ◌≤◌, List, [], ◌∷◌, ◌++◌, length, map, Option, Some, None, Result, Ok, refl, sym, ap, ◌∙◌, subst, arith, append_assoc, length-append}
use Rattle.std.specs.Prelude.{slice_set, option_map, IsTrue}
use Rattle.std.specs.Result.{result_map_both}
use Rattle.std.proofs.lemmas.Bool.{le-leb}
use Rattle.rbc_model.specs.declared.places.Leg.{Leg}
use Rattle.rbc_model.specs.declared.refusals.Refusal.{Refusal}
use Rattle.rbc_model.specs.declared.refusals.Refusal.TheVariants.{Clash, LinkTaken}
use Rattle.rbc_model.specs.declared.tracks.Lock.{Lock}
use Rattle.rbc_model.specs.Results.{demand, unless, ◌>>=◌, ◌>>◌}
use Rattle.rbc_model.specs.Tracks.{Section, Track}
use Rattle.rbc_model.specs.Locks.{Locks, next, no_locks, row, with_row}
use Rattle.rbc_model.specs.Scenes.{Scene}
use Rattle.rbc_scene_laws.specs.Good.{IsGoodLocks}
use Rattle.rbc_scene_laws.proofs.RowLemmas.{next-row}
use Rattle.rbc_good_laws.specs.Told.{is_needed}
use Rattle.rbc_scene.specs.Added.{added, taken_before}
use Rattle.rbc_scene_words.specs.SceneLine.{SceneLine}
use Rattle.rbc_scene_words.specs.SaidScenes.{said_locks}
use Rattle.rbc_scene_reading.specs.declared.fault.SceneFault.{SceneFault}
use Rattle.rbc_scene_reading.specs.declared.fault.SceneFault.TheVariants.{NotOfRoute, Order}
use Rattle.rbc_scene_reading.specs.declared.stage.Stage.TheVariants.{Rows}
use Rattle.rbc_scene_reading.specs.Readings.{Reading}
use Rattle.rbc_scene_reading.specs.Reading.{locks_with, row_fault, with_row_told}
use Rattle.rbc_scene_reading.proofs.StepLemmas.{Ends}

-- ---- rows that were read, and none behind them

abbrev none : Option Lock → Option Lock
none row = None

row_behind : (before later : Locks) (k : ℕ) → row (before ++ later) (length before + k) ≡ row later k
row_behind [] later k = ap (row later) (let e : 0 + k ≡ k = omega arith in e)
row_behind (first ∷ before) later k = ap (row (first ∷ before ++ later)) (let e : suc (length before) + k ≡ suc (length before + k) = omega arith in e) ∙ row_behind before later k

set_behind : (before later : Locks) (old new : Option Lock) → slice_set (before ++ old ∷ later) (length before) new ≡ before ++ new ∷ later
set_behind [] later old new = refl
set_behind (first ∷ before) later old new = ap (λ rows. first ∷ rows) (set_behind before later old new)

no_rows : (locks : Locks) (k : ℕ) (lock : Lock) → row (map none locks) k ≡ Some lock → ⊥
no_rows [] k lock h = cc
no_rows (first ∷ locks) zero lock h = cc
no_rows (first ∷ locks) (suc k) lock h = no_rows locks k lock h

-- what was read is part of what was written
of_whole : (before later : Locks) (k : ℕ) (lock : Lock) → row (before ++ map none later) k ≡ Some lock → row (before ++ later) k ≡ Some lock
of_whole [] later k lock h = absurd (no_rows later k lock h)
of_whole (first ∷ before) later zero lock h = h
of_whole (first ∷ before) later (suc k) lock h = of_whole before later k lock h

one_more : (before : Locks) (last : Option Lock) → length (before ++ last ∷ []) ≡ length before + 1
one_more before last = let e = length-append before (last ∷ []) in omega arith

-- a track where nothing is locked has as many rows
no_rows_yet : (locks : Locks) (sections : List Section) → length locks ≡ length sections → map none locks ≡ map (λ (section : Section). let row : Option Lock = None in row) sections
no_rows_yet [] [] e = refl
no_rows_yet [] (section ∷ sections) e = absurd (omega arith)
no_rows_yet (first ∷ locks) [] e = absurd (omega arith)
no_rows_yet (first ∷ locks) (section ∷ sections) e = ap (λ rows. let row : Option Lock = None in row ∷ rows) (no_rows_yet locks sections (omega arith))

module _ (track : Track) (version : ℕ) (scene : Scene) (good : IsGoodLocks track scene.locks) (needed : (section : ℕ) (lock : Lock) → row scene.locks section ≡ Some lock → IsTrue (is_needed track section lock)) where
  -- once the first rows were read
  abbrev pub rows_read : Locks → ℕ → Reading
  rows_read locks first = record { track = track; version = version; scene = record { locks = locks; trains = [] }; stage = Rows first }

  module _ (before later : Locks) (lock : Lock) (is : before ++ Some lock ∷ later ≡ scene.locks) where
    abbrev now : Locks
    now = before ++ None ∷ map none later

    abbrev leg : Leg
    leg = record { section = length before; direction = lock.direction }

    here : row scene.locks (length before) ≡ Some lock
    here = subst (λ (l : Locks). row l (length before) ≡ Some lock) is (ap (row (before ++ Some lock ∷ later)) (let e : length before ≡ length before + 0 = omega arith in e) ∙ row_behind before (Some lock ∷ later) 0)

    empty : row now (length before) ≡ None
    empty = ap (row now) (let e : length before ≡ length before + 0 = omega arith in e) ∙ row_behind before (None ∷ map none later) 0

    -- no row that was read is behind the leg before
    free : taken_before now lock.before ≡ None
    free = by_before lock.before refl
      where
        by_next : (b : Leg) → lock.before ≡ Some b → (o : Option Leg) → next now b ≡ o → option_map (λ (l : Leg). b) o ≡ None
        by_next b e None f = refl
        by_next b e (Some behind) f =
            let r = next-row now b behind f in
            let there : row scene.locks behind.section ≡ Some r.lock = subst (λ (l : Locks). row l behind.section ≡ Some r.lock) is (of_whole before (Some lock ∷ later) behind.section r.lock r.there) in
            let same : behind.section ≡ length before = good.one_behind behind.section (length before) r.lock lock b there here r.before e in
            let never : None ≡ Some r.lock = sym empty ∙ ap (row now) (sym same) ∙ r.there in
            absurd (let no : ⊥ = cc in no)

        by_before : (o : Option Leg) → lock.before ≡ o → taken_before now o ≡ None
        by_before None e = refl
        by_before (Some b) e = by_next b e (next now b) refl

    with_it : with_row lock.route now (leg, lock.before) ≡ before ++ Some lock ∷ map none later
    with_it = set_behind before (map none later) None (Some lock)

    added_it : added now lock.route leg lock.before ≡ Ok (before ++ Some lock ∷ map none later)
    added_it =
        ap (λ (o : Option Lock). unless (option_map (λ (l : Lock). Clash leg.section) o) (unless (option_map LinkTaken (taken_before now lock.before)) (Ok (with_row lock.route now (leg, lock.before))))) empty
        ∙ ap (λ (o : Option Leg). unless (let refusal : Option Refusal = option_map LinkTaken o in refusal) (Ok (with_row lock.route now (leg, lock.before)))) free
        ∙ ap Ok with_it

    row_read : (first : ℕ) → first ≤ length before → with_row_told leg lock.route lock.before (rows_read now first) ≡ Ok (rows_read (before ++ Some lock ∷ map none later) (length before + 1))
    row_read first low =
        ap (λ b. demand b Order >> (locks_with track now leg lock.route lock.before >>= after)) (le-leb first (length before) low)
        ∙ ap (λ b. demand b (NotOfRoute leg.section lock.route) >> result_map_both (λ locks. locks) row_fault (added now lock.route leg lock.before) >>= after) (needed (length before) lock here)
        ∙ ap (λ (r : Result Locks Refusal). result_map_both (λ locks. locks) row_fault r >>= after) added_it
      where
        after : Locks → Result Reading SceneFault
        after locks = Ok (rows_read locks (length before + 1))

  -- ---- all of them

  abbrev End : Reading → List SceneLine → Type 0
  End = Ends track version scene

  all_rows_read : (before later : Locks) (first : ℕ) (rest : List SceneLine) → before ++ later ≡ scene.locks → first ≤ length before → ((first : ℕ) → End (rows_read scene.locks first) rest)
      → End (rows_read (before ++ map none later) first) (said_locks (length before) later ++ rest)
  all_rows_read before [] first rest is low behind = subst (λ (l : Locks). End (rows_read l first) rest) (sym is) (behind first)
  all_rows_read before (None ∷ later) first rest is low behind =
      subst (λ (l : Locks). End (rows_read l first) (said_locks (length before + 1) later ++ rest)) (append_assoc before (None ∷ []) (map none later))
      (subst (λ n. End (rows_read ((before ++ None ∷ []) ++ map none later) first) (said_locks n later ++ rest)) (one_more before None)
      (all_rows_read (before ++ None ∷ []) later first rest (append_assoc before (None ∷ []) later ∙ is) (let e = one_more before None in omega arith) behind))
  all_rows_read before (Some lock ∷ later) first rest is low behind = (
    rows_read (before ++ Some lock ∷ map none later) (length before + 1),
    row_read before later lock is first low,
    refl,
    subst (λ (l : Locks). End (rows_read l (length before + 1)) (said_locks (length before + 1) later ++ rest)) (append_assoc before (Some lock ∷ []) (map none later))
        (subst (λ n. End (rows_read ((before ++ Some lock ∷ []) ++ map none later) (length before + 1)) (said_locks n later ++ rest)) (one_more before (Some lock))
        (all_rows_read (before ++ Some lock ∷ []) later (length before + 1) rest (append_assoc before (Some lock ∷ []) later ∙ is) (let e = one_more before (Some lock) in omega arith) behind)),
  )

  -- what the rows lead to, from none on
  pub rows_end : (rest : List SceneLine) → ((first : ℕ) → End (rows_read scene.locks first) rest) → End (rows_read (no_locks track) 0) (said_locks 0 scene.locks ++ rest)
  rows_end rest behind =
      subst (λ (l : Locks). End (rows_read l 0) (said_locks 0 scene.locks ++ rest)) (no_rows_yet scene.locks track.sections good.as_many) (all_rows_read [] scene.locks 0 rest refl (omega arith) behind)
