-- Lock rows: what a written row leaves of the others, and the rows that `next` and `prev` name.
use Rattle.std.proofs.Common.{◌≡◌, ℕ, zero, suc, ◌+◌, ◌-◌, ◌≤◌, Bool, true, false, cond, ◌&&◌, ◌||◌, List, [], ◌∷◌, Option, Some, None, refl, ap, ap₂, sym, ◌∙◌, subst, arith, ◌⊎◌, inl, inr, is_none}
use Rattle.std.specs.Prelude.{slice_set, slice_get, is_some, ◌==◌, option_map, option_and_then, IsTrue}
use Rattle.std.specs.Option.{option_flatten, option_map_or, option_eq}
use Rattle.rbc_model.specs.declared.places.Leg.{Leg}
use Rattle.rbc_model.specs.declared.tracks.Lock.{Lock}
use Rattle.rbc_model.specs.Tracks.{Track, is_linked, leg_eq, direction_eq}
use Rattle.rbc_model.specs.Locks.{Locks, row, next, prev, is_behind, section_behind, locked_leg}
use Rattle.rbc_model.specs.Obstacles.{is_locked}
use Rattle.rbc_model.proofs.SamenessLemmas.{leg_eq-true, leg_eq-itself, direction_eq-true}
use Rattle.rbc_scene_laws.specs.Good.{OneRowBehindEach, IsGoodLocks}
use Rattle.rbc_scene_laws.proofs.BasicLemmas.{the_some}
use Rattle.std.proofs.lemmas.Bool.{eqb-false}

-- ---- a written row

pub slice_get-set_other : {X : Type 0} (xs : List X) (s t : ℕ) (x : X) → ((s ≡ t) → ⊥) → slice_get (slice_set xs s x) t ≡ slice_get xs t
slice_get-set_other [] s t x h = refl
slice_get-set_other (y ∷ xs) zero zero x h = absurd (h refl)
slice_get-set_other (y ∷ xs) zero (suc t) x h = refl
slice_get-set_other (y ∷ xs) (suc s) zero x h = refl
slice_get-set_other (y ∷ xs) (suc s) (suc t) x h = slice_get-set_other xs s t x (λ e. h (ap suc e))

pub row-set_other : (locks : Locks) (s t : ℕ) (x : Option Lock) → ((s ≡ t) → ⊥) → row (slice_set locks s x) t ≡ row locks t
row-set_other locks s t x h = ap option_flatten (slice_get-set_other locks s t x h)

flat_set_self : (locks : Locks) (s : ℕ) (x : Option Lock) (lock : Lock) → option_flatten (slice_get (slice_set locks s x) s) ≡ Some lock → x ≡ Some lock
flat_set_self [] s x lock h = cc
flat_set_self (y ∷ locks) zero x lock h = h
flat_set_self (y ∷ locks) (suc s) x lock h = flat_set_self locks s x lock h

-- what stands in the written row, if anything
pub row-set_self : (locks : Locks) (s : ℕ) (x : Option Lock) (lock : Lock) → row (slice_set locks s x) s ≡ Some lock → x ≡ Some lock
row-set_self locks s x lock h = flat_set_self locks s x lock h

pub same_or_not : (a b : ℕ) → (a ≡ b) ⊎ ((a ≡ b) → ⊥)
same_or_not a b = by_test (a == b) refl
  where
    by_test : (t : Bool) → (a == b) ≡ t → (a ≡ b) ⊎ ((a ≡ b) → ⊥)
    by_test true e = inl (let g : (a == b) ≡ true = e in grind arith)
    by_test false e = inr (eqb-false a b e)

-- a row after one was written is the written one, or was there
pub row-set_cases : (locks : Locks) (s t : ℕ) (x : Option Lock) (lock : Lock) → row (slice_set locks s x) t ≡ Some lock → ((s ≡ t) × (x ≡ Some lock)) ⊎ (((s ≡ t) → ⊥) × (row locks t ≡ Some lock))
row-set_cases locks s t x lock h =
    elim (same_or_not s t) [
      | inl e ↦ inl (e, row-set_self locks s x lock (subst (λ k. row (slice_set locks s x) k ≡ Some lock) (sym e) h))
      | inr n ↦ inr (n, sym (row-set_other locks s t x n) ∙ h)
    ]

-- ---- whether a leg is locked depends on its row alone
pub is_locked-row : (a b : Locks) (before : Option Leg) (leg : Leg) → row a leg.section ≡ row b leg.section → is_locked a before leg ≡ is_locked b before leg
is_locked-row a b before leg e = ap (λ o. option_map_or (λ (lock : Lock). direction_eq lock.direction leg.direction && (is_none before || option_eq leg_eq lock.before before)) o false) e

pub is_locked-none : (locks : Locks) (leg : Leg) → row locks leg.section ≡ None → is_locked locks None leg ≡ false
is_locked-none locks leg e = ap (λ o. option_map_or (λ (lock : Lock). direction_eq lock.direction leg.direction && true) o false) e

-- ---- the leg behind another

behind_there : (leg : Leg) (o : Option Lock) → is_behind leg o ≡ true → (lock : Lock) × (o ≡ Some lock) × (lock.before ≡ Some leg)
behind_there leg None h = cc
behind_there leg (Some lock) h = (lock, refl, by_before lock.before h)
  where
    by_before : (o : Option Leg) → option_eq leg_eq o (Some leg) ≡ true → o ≡ Some leg
    by_before None e = cc
    by_before (Some before) e = ap Some (leg_eq-true before leg e)

is_behind-before : (leg : Leg) (lock : Lock) → lock.before ≡ Some leg → is_behind leg (Some lock) ≡ true
is_behind-before leg lock h = ap (λ o. option_eq leg_eq o (Some leg)) h ∙ leg_eq-itself leg

behind_cases : (b : Bool) (n section : ℕ) (rest : Option ℕ) → cond b (Some n) rest ≡ Some section → ((b ≡ true) × (n ≡ section)) ⊎ (rest ≡ Some section)
behind_cases true n section rest h = inl (refl, cc)
behind_cases false n section rest h = inr h

-- the section found, counted from n, has a row behind the leg
pub section_behind-found : (leg : Leg) (n : ℕ) (locks : Locks) (section : ℕ) → section_behind leg n locks ≡ Some section → (n ≤ section) × ((lock : Lock) × (row locks (section - n) ≡ Some lock) × (lock.before ≡ Some leg))
section_behind-found leg n [] section h = cc
section_behind-found leg n (o ∷ locks) section h =
    elim (behind_cases (is_behind leg o) n section (section_behind leg (n + 1) locks) h) [
      | inl e ↦
          let there = behind_there leg o e.0 in
          (let same = e.1 in omega arith, (there.0, at_first (section - n) (let same = e.1 in let z : section - n ≡ 0 = omega arith in z) there.0 there.1, there.2))
      | inr e ↦
          let rest = section_behind-found leg (n + 1) locks section e in
          (let low = rest.0 in omega arith, (rest.1.0, at_next (section - n) (section - (n + 1)) (let low = rest.0 in let z : section - n ≡ suc (section - (n + 1)) = omega arith in z) rest.1.0 rest.1.1, rest.1.2))
    ]
  where
    at_first : (k : ℕ) → k ≡ 0 → (lock : Lock) → o ≡ Some lock → row (o ∷ locks) k ≡ Some lock
    at_first k z lock e = subst (λ j. row (o ∷ locks) j ≡ Some lock) (sym z) e

    at_next : (k j : ℕ) → k ≡ suc j → (lock : Lock) → row locks j ≡ Some lock → row (o ∷ locks) k ≡ Some lock
    at_next k j z lock e = subst (λ i. row (o ∷ locks) i ≡ Some lock) (sym z) e

-- and one is found where there is one
some_either : {X : Type 0} (b : Bool) (x : X) (rest : Option X) → is_some rest ≡ true → is_some (cond b (Some x) rest) ≡ true
some_either true x rest h = refl
some_either false x rest h = h

some_first : {X : Type 0} (b : Bool) (x : X) (rest : Option X) → b ≡ true → is_some (cond b (Some x) rest) ≡ true
some_first b x rest h = rw h refl

pub section_behind-some : (leg : Leg) (n : ℕ) (locks : Locks) (section : ℕ) (lock : Lock) → row locks section ≡ Some lock → lock.before ≡ Some leg → is_some (section_behind leg n locks) ≡ true
section_behind-some leg n [] section lock h k = cc
section_behind-some leg n (o ∷ locks) zero lock h k = some_first (is_behind leg o) n (section_behind leg (n + 1) locks) (ap (is_behind leg) h ∙ is_behind-before leg lock k)
section_behind-some leg n (o ∷ locks) (suc section) lock h k = some_either (is_behind leg o) n (section_behind leg (n + 1) locks) (section_behind-some leg (n + 1) locks section lock h k)

-- ---- `next` and `prev` by rows

-- the row that names the next leg
pub record IsBehindRow (locks : Locks) (leg behind : Leg) : Type 0 where
  pub lock : Lock
  pub there : row locks behind.section ≡ Some lock
  pub direction : lock.direction ≡ behind.direction
  pub before : lock.before ≡ Some leg

locked_leg-row : (locks : Locks) (section : ℕ) (lock : Lock) → row locks section ≡ Some lock → locked_leg locks section ≡ Some (record { section = section; direction = lock.direction })
locked_leg-row locks section lock h = ap (option_map (λ (l : Lock). let leg : Leg = record { section = section; direction = l.direction } in leg)) h

next_from : (locks : Locks) (leg behind : Leg) (o : Option ℕ) → section_behind leg 0 locks ≡ o → option_and_then (locked_leg locks) o ≡ Some behind → IsBehindRow locks leg behind
next_from locks leg behind None e h = cc
next_from locks leg behind (Some section) e h =
    let found = section_behind-found leg 0 locks section e in
    let lock : Lock = found.1.0 in
    let there : row locks section ≡ Some lock = subst (λ k. row locks k ≡ Some lock) (let z : section - 0 ≡ section = omega arith in z) found.1.1 in
    let same : record { section = section; direction = lock.direction } ≡ behind = the_some (record { section = section; direction = lock.direction }) behind (sym (locked_leg-row locks section lock there) ∙ h) in
    record {
      lock = lock;
      there = subst (λ (l : Leg). row locks l.section ≡ Some lock) same there;
      direction = ap (λ (l : Leg). l.direction) same;
      before = found.1.2;
    }

pub next-row : (locks : Locks) (leg behind : Leg) → next locks leg ≡ Some behind → IsBehindRow locks leg behind
next-row locks leg behind h = next_from locks leg behind (section_behind leg 0 locks) refl h

-- where a row is behind the leg, there is a next
some_next : (locks : Locks) (leg : Leg) (o : Option ℕ) → section_behind leg 0 locks ≡ o → is_some o ≡ true → is_some (option_and_then (locked_leg locks) o) ≡ true
some_next locks leg None e h = cc
some_next locks leg (Some section) e h =
    let found = section_behind-found leg 0 locks section e in
    let lock : Lock = found.1.0 in
    let there : row locks section ≡ Some lock = subst (λ k. row locks k ≡ Some lock) (let z : section - 0 ≡ section = omega arith in z) found.1.1 in
    ap is_some (locked_leg-row locks section lock there)

pub next-some : (locks : Locks) (leg : Leg) (section : ℕ) (lock : Lock) → row locks section ≡ Some lock → lock.before ≡ Some leg → is_some (next locks leg) ≡ true
next-some locks leg section lock h k = some_next locks leg (section_behind leg 0 locks) refl (section_behind-some leg 0 locks section lock h k)

pub same_leg : (a b : Leg) → a.section ≡ b.section → a.direction ≡ b.direction → a ≡ b
same_leg a b s d = ap₂ (λ x y. let l : Leg = record { section = x; direction = y } in l) s d

-- where no leg stands before two rows it is the leg of that row
pub next-is_one : (locks : Locks) (leg behind : Leg) → OneRowBehindEach locks → IsBehindRow locks leg behind → next locks leg ≡ Some behind
next-is_one locks leg behind one r = by_next (next locks leg) refl (next-some locks leg behind.section r.lock r.there r.before)
  where
    by_next : (o : Option Leg) → next locks leg ≡ o → is_some o ≡ true → o ≡ Some behind
    by_next None e h = cc
    by_next (Some other) e h =
        let q = next-row locks leg other e in
        let section : other.section ≡ behind.section = one other.section behind.section q.lock r.lock leg q.there r.there q.before r.before in
        let lock : q.lock ≡ r.lock = the_some q.lock r.lock (sym q.there ∙ ap (row locks) section ∙ r.there) in
        let direction : other.direction ≡ behind.direction = sym q.direction ∙ ap (λ (l : Lock). l.direction) lock ∙ r.direction in
        ap Some (same_leg other behind section direction)

-- the row of a leg that has a leg before
prev_from : (locks : Locks) (leg before : Leg) (o : Option Lock) → row locks leg.section ≡ o → option_and_then (λ (lock : Lock). cond (direction_eq lock.direction leg.direction) lock.before None) o ≡ Some before → IsBehindRow locks before leg
prev_from locks leg before None e h = cc
prev_from locks leg before (Some lock) e h =
    let parts = passed (direction_eq lock.direction leg.direction) lock.before h in
    record { lock = lock; there = e; direction = direction_eq-true lock.direction leg.direction parts.0; before = parts.1 }
  where
    passed : (b : Bool) (o : Option Leg) → cond b o None ≡ Some before → (b ≡ true) × (o ≡ Some before)
    passed true o k = (refl, k)
    passed false o k = cc

pub prev-row : (locks : Locks) (leg before : Leg) → prev locks leg ≡ Some before → IsBehindRow locks before leg
prev-row locks leg before h = prev_from locks leg before (row locks leg.section) refl h

-- what stands behind another is linked to it
pub linked-row : (track : Track) (locks : Locks) (leg behind : Leg) → IsGoodLocks track locks → IsBehindRow locks leg behind → IsTrue (is_linked track leg behind)
linked-row track locks leg behind good r =
    subst (λ d. is_linked track leg (record { section = behind.section; direction = d }) ≡ true) r.direction (good.linked behind.section r.lock leg r.there r.before)
