-- The leg that is locked behind another, once a row was written or a section was freed.
use Rattle.std.proofs.Common.{◌≡◌, ℕ, suc, zero, ◌<◌, [], ◌∷◌, length, Option, Some, None, refl, ap, sym, ◌∙◌, subst, arith, inl, inr}
use Rattle.std.specs.Prelude.{is_some, slice_get, slice_set}
use Rattle.std.specs.Option.{option_flatten}
use Rattle.rbc_model.specs.declared.places.Leg.{Leg}
use Rattle.rbc_model.specs.declared.tracks.Lock.{Lock}
use Rattle.rbc_model.specs.Locks.{Locks, row, next, with_row}
use Rattle.rbc_scene_laws.specs.Good.{OneRowBehindEach}
use Rattle.rbc_scene_laws.proofs.BasicLemmas.{the_some}
use Rattle.rbc_scene_laws.proofs.RowLemmas.{row-set_other, row-set_self, row-set_cases, next-row, next-some, next-is_one}
use Rattle.rbc_scene_laws.proofs.LockingLemmas.{Need, NoneBehind, the_lock}
use Rattle.rbc_scene_laws.proofs.FreeingLemmas.{row-set_none, one_behind-freed}
use Rattle.std.proofs.lemmas.Bool.{both_ways}

-- a leg that no row is behind has no next one, and the other way
pub next-none : (locks : Locks) (leg : Leg) → NoneBehind locks leg → next locks leg ≡ None
next-none locks leg none = by_next (next locks leg) refl
  where
    by_next : (o : Option Leg) → next locks leg ≡ o → o ≡ None
    by_next None e = refl
    by_next (Some behind) e = let r = next-row locks leg behind e in absurd (none behind.section r.lock r.there r.before)

pub none_behind : (locks : Locks) (leg : Leg) → next locks leg ≡ None → NoneBehind locks leg
none_behind locks leg e section lock there before =
    both_ways (is_some (next locks leg)) (ap is_some e) (next-some locks leg section lock there before)

-- locks with the same rows behind a leg have the same leg behind it
pub next-same : (a b : Locks) (leg : Leg) → OneRowBehindEach b
    → ((s : ℕ) (lock : Lock) → lock.before ≡ Some leg → row a s ≡ Some lock → row b s ≡ Some lock)
    → ((s : ℕ) (lock : Lock) → lock.before ≡ Some leg → row b s ≡ Some lock → row a s ≡ Some lock) → next b leg ≡ next a leg
next-same a b leg one there back = by_next (next a leg) refl
  where
    by_next : (o : Option Leg) → next a leg ≡ o → next b leg ≡ o
    by_next None e = next-none b leg (λ s lock at before. none_behind a leg e s lock (back s lock before at) before)
    by_next (Some behind) e =
        let r = next-row a leg behind e in
        next-is_one b leg behind one (record { lock = r.lock; there = there behind.section r.lock r.before r.there; direction = r.direction; before = r.before })

-- ---- one row more

-- a section of the track that was not locked
row_was : (locks : Locks) (s t : ℕ) (lock : Lock) → row locks s ≡ None → row locks t ≡ Some lock → (s ≡ t) → ⊥
row_was locks s t lock empty at e = let f : None ≡ Some lock = sym empty ∙ ap (row locks) e ∙ at in cc

flat_set_at : (locks : Locks) (s : ℕ) (x : Option Lock) → s < length locks → option_flatten (slice_get (slice_set locks s x) s) ≡ x
flat_set_at [] s x h = absurd (omega arith)
flat_set_at (y ∷ locks) zero x h = refl
flat_set_at (y ∷ locks) (suc s) x h = flat_set_at locks s x (omega arith)

pub row-set_at : (locks : Locks) (s : ℕ) (x : Option Lock) → s < length locks → row (slice_set locks s x) s ≡ x
row-set_at locks s x h = flat_set_at locks s x h

-- a leg that the row is not behind keeps its next one
pub next-with_row_other : (number : ℕ) (locks : Locks) (need : Need) (leg : Leg) → OneRowBehindEach (with_row number locks need) → row locks need.0.section ≡ None → ((need.1 ≡ Some leg) → ⊥)
    → next (with_row number locks need) leg ≡ next locks leg
next-with_row_other number locks need leg one empty other =
    next-same locks (with_row number locks need) leg one
    (λ s lock before at. row-set_other locks need.0.section s (Some (the_lock number need)) (row_was locks need.0.section s lock empty at) ∙ at)
    (λ s lock before at. elim (row-set_cases locks need.0.section s (Some (the_lock number need)) lock at) [
      | inl e ↦ absurd (other (ap (λ (l : Lock). l.before) (the_some (the_lock number need) lock e.1) ∙ before))
      | inr e ↦ e.1
    ])

-- and the one that it is behind has its leg
pub next-with_row_self : (number : ℕ) (locks : Locks) (need : Need) (leg : Leg) → OneRowBehindEach (with_row number locks need) → need.0.section < length locks → need.1 ≡ Some leg
    → next (with_row number locks need) leg ≡ Some need.0
next-with_row_self number locks need leg one within before =
    next-is_one (with_row number locks need) leg need.0 one
    (record { lock = the_lock number need; there = row-set_at locks need.0.section (Some (the_lock number need)) within; direction = refl; before = before })

-- ---- a row less

pub next-freed_other : (locks : Locks) (section : ℕ) (lock : Lock) (leg : Leg) → OneRowBehindEach locks → row locks section ≡ Some lock → ((lock.before ≡ Some leg) → ⊥)
    → next (slice_set locks section None) leg ≡ next locks leg
next-freed_other locks section lock leg one there other =
    next-same locks (slice_set locks section None) leg (one_behind-freed locks section one)
    (λ s l before at. row-set_other locks section s None (λ e. other (ap (λ (x : Lock). x.before) (the_some lock l (sym there ∙ ap (row locks) e ∙ at)) ∙ before)) ∙ at)
    (λ s l before at. row-set_none locks section s l at)

pub next-freed_self : (locks : Locks) (section : ℕ) (lock : Lock) (leg : Leg) → OneRowBehindEach locks → row locks section ≡ Some lock → lock.before ≡ Some leg
    → next (slice_set locks section None) leg ≡ None
next-freed_self locks section lock leg one there h = next-none (slice_set locks section None) leg gone
  where
    gone : NoneBehind (slice_set locks section None) leg
    gone s l at before =
        let same : section ≡ s = one section s lock l leg there (row-set_none locks section s l at) h before in
        let n : None ≡ Some l = row-set_self locks section None l (subst (λ k. row (slice_set locks section None) k ≡ Some l) (sym same) at) in cc
