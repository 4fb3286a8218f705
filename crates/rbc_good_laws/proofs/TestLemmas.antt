-- Two trains hold a metre of a section together exactly where what they hold there meets; and what is locked leg by leg is locked metre by metre.
use Rattle.std.proofs.Common.{◌≡◌, ℕ, ◌+◌, ◌-◌, ◌<◌, ◌≤◌, Bool, true, false, not, ◌&&◌, ◌||◌, cond, IsTrue, List, [], ◌∷◌, max, min, nat_lt, Some, None, refl, ap, sym, subst, ◌∙◌, arith}
use Rattle.std.specs.Prelude.{AllPairs, ◌==◌}
use Rattle.std.specs.List.{AllByRecursion, list_any}
use Rattle.std.proofs.lemmas.Bool.{ltb-true}
use Rattle.rbc_model.specs.declared.places.Direction.TheVariants.{Rising}
use Rattle.rbc_model.specs.declared.places.Leg.{Leg}
use Rattle.rbc_model.specs.declared.places.Metre.{Metre}
use Rattle.rbc_model.specs.Tracks.{Track, metres_of, IsMetreOf}
use Rattle.rbc_model.specs.Lines.{Line, leg_at}
use Rattle.rbc_model.specs.Locks.{Locks}
use Rattle.rbc_model.specs.Trains.{Train}
use Rattle.rbc_model.specs.Scenes.{authority_has}
use Rattle.rbc_model.specs.Obstacles.{is_locked}
use Rattle.rbc_scene_laws.proofs.BasicLemmas.{EachPair, AllPairs-from_recursion, recursion_from_AllPairs, the_some}
use Rattle.rbc_scene_laws.proofs.RowLemmas.{next-is_one}
use Rattle.rbc_reach_laws.specs.Spans.{lies_in, leg_span}
use Rattle.rbc_reach_laws.proofs.LegSpanLemmas.{authority_has-span}
use Rattle.rbc_reach_laws.proofs.PlaceLemmas.{authority_on}
use Rattle.rbc_good_laws.specs.Tests.{offsets_held, meet, hold_both, share_metre, legs_locked}
use Rattle.rbc_good_laws.specs.Laws.{AuthoritiesAreApartBySections, HeldAreLockedByLegs, RowsAreBehindByNext}

-- ---- spans

-- what lies in both makes them meet
meet_there : (a b : ℕ × ℕ) (k : ℕ) → lies_in a k ≡ true → lies_in b k ≡ true → meet a b ≡ true
meet_there a b k h g = grind arith

-- where they meet the greater of their beginnings lies in both
there_met : (a b : ℕ × ℕ) → meet a b ≡ true → (lies_in a (max a.0 b.0) ≡ true) × (lies_in b (max a.0 b.0) ≡ true)
there_met a b h = (grind arith, grind arith)

-- ---- a section

module _ (track : Track) (a b : Train) where
  Apart : Type 0
  Apart = (metre : Metre) → IsMetreOf track metre → IsTrue (authority_has track metre a) → IsTrue (authority_has track metre b) → ⊥

  -- a train has an offset of a section in its authority exactly where it lies in what it holds there
  has_offset : (train : Train) (metre : Metre) → IsMetreOf track metre → authority_has track metre train ≡ lies_in (offsets_held track metre.section train) metre.offset
  has_offset train metre inside = authority_has-span track (record { section = metre.section; direction = Rising }) metre.offset train inside

  apart_sections : Apart → (section : ℕ) → hold_both track section a b ≡ false
  unfolding Apart
  apart_sections apart section = by_test (hold_both track section a b) refl
    where
      by_test : (t : Bool) → hold_both track section a b ≡ t → t ≡ false
      by_test false e = refl
      by_test true e =
          let x = offsets_held track section a in
          let y = offsets_held track section b in
          let k = max x.0 y.0 in
          let metre : Metre = record { section = section; offset = k } in
          let both = there_met x y e in
          let ends : x.1 ≤ metres_of track section = authority_on track a None (record { section = section; direction = Rising }) in
          let inside : k < metres_of track section = below x y (metres_of track section) e ends in
          absurd (apart metre inside (has_offset a metre inside ∙ both.0) (has_offset b metre inside ∙ both.1))
        where
          below : (x y : ℕ × ℕ) (m : ℕ) → meet x y ≡ true → x.1 ≤ m → max x.0 y.0 < m
          below x y m h g = let l : max x.0 y.0 < min x.1 y.1 = ltb-true (max x.0 y.0) (min x.1 y.1) h in omega (arith, l, g)

  sections_apart : ((section : ℕ) → hold_both track section a b ≡ false) → Apart
  unfolding Apart
  sections_apart none metre inside first second =
      let met = meet_there (offsets_held track metre.section a) (offsets_held track metre.section b) metre.offset (sym (has_offset a metre inside) ∙ first) (sym (has_offset b metre inside) ∙ second) in
      let never : true ≡ false = sym met ∙ none metre.section in
      cc

  -- ---- the sections of the line

  -- a train holds nothing of a section that its line has not
  none_held : (section q x y : ℕ) (line : Line) → list_any (λ (leg : Leg). leg.section == section) line ≡ false → leg_span track (record { section = section; direction = Rising }) q x y line ≡ (0, 0)
  none_held section q x y [] h = refl
  none_held section q x y (leg ∷ line) h = by_test (leg.section == section) refl h (none_held section (q + metres_of track leg.section) x y line)
    where
      by_test : (t : Bool) → (leg.section == section) ≡ t → (t || list_any (λ (leg : Leg). leg.section == section) line) ≡ false
          → (list_any (λ (leg : Leg). leg.section == section) line ≡ false → leg_span track (record { section = section; direction = Rising }) (q + metres_of track leg.section) x y line ≡ (0, 0))
          → leg_span track (record { section = section; direction = Rising }) q x y (leg ∷ line) ≡ (0, 0)
      by_test true e g later = cc
      by_test false e g later = rw e (later g)

  some_found : (line : Line) (test : Leg → Bool) (section : ℕ) → list_any (λ (leg : Leg). leg.section == section) line ≡ true → ((leg : Leg) → (leg.section == section) ≡ true → test leg ≡ true) → list_any test line ≡ true
  some_found [] test section h each = cc
  some_found (leg ∷ line) test section h each = by_test (leg.section == section) refl h (λ g. some_found line test section g each)
    where
      either : (s t : Bool) → t ≡ true → (s || t) ≡ true
      either true t e = refl
      either false t e = e

      first : (s t : Bool) → s ≡ true → (s || t) ≡ true
      first true t e = refl
      first false t e = cc

      by_test : (t : Bool) → (leg.section == section) ≡ t → (t || list_any (λ (leg : Leg). leg.section == section) line) ≡ true → (list_any (λ (leg : Leg). leg.section == section) line ≡ true → list_any test line ≡ true)
          → list_any test (leg ∷ line) ≡ true
      by_test true e g later = first (test leg) (list_any test line) (each leg e)
      by_test false e g later = either (test leg) (list_any test line) (later g)

  -- where they share nothing on the sections of the first one's line they do on none
  on_line : share_metre track a b ≡ false → (section : ℕ) → hold_both track section a b ≡ false
  on_line none section = by_line (list_any (λ (leg : Leg). leg.section == section) a.line) refl
    where
      here : (leg : Leg) → (leg.section == section) ≡ true → leg.section ≡ section
      here leg e = grind arith

      by_test : (t : Bool) → hold_both track section a b ≡ t → list_any (λ (leg : Leg). leg.section == section) a.line ≡ true → t ≡ false
      by_test false e f = refl
      by_test true e f =
          let found = some_found a.line (λ leg. hold_both track leg.section a b) section f (λ leg same. ap (λ s. hold_both track s a b) (here leg same) ∙ e) in
          let never : true ≡ false = sym found ∙ none in
          cc

      nothing : (y : ℕ × ℕ) → meet (0, 0) y ≡ false
      nothing y = grind arith

      by_line : (t : Bool) → list_any (λ (leg : Leg). leg.section == section) a.line ≡ t → hold_both track section a b ≡ false
      by_line true e = by_test (hold_both track section a b) refl e
      by_line false e = ap (λ x. meet x (offsets_held track section b)) (none_held section 0 a.from a.to a.line e) ∙ nothing (offsets_held track section b)

  none_on_line : ((section : ℕ) → hold_both track section a b ≡ false) → (line : Line) → list_any (λ leg. hold_both track leg.section a b) line ≡ false
  none_on_line none [] = refl
  none_on_line none (leg ∷ line) = rw (none leg.section) (none_on_line none line)

  pub pair_apart : share_metre track a b ≡ false → (metre : Metre) → IsMetreOf track metre → IsTrue (authority_has track metre a) → IsTrue (authority_has track metre b) → ⊥
  unfolding Apart
  pair_apart none = sections_apart (on_line none)

  pub apart_pair : ((metre : Metre) → IsMetreOf track metre → IsTrue (authority_has track metre a) → IsTrue (authority_has track metre b) → ⊥) → share_metre track a b ≡ false
  unfolding Apart
  apart_pair apart = none_on_line (apart_sections apart) a.line

-- ---- all pairs

each_so : {X : Type 0} (P Q : X → Type 0) (xs : List X) → ((x : X) → P x → Q x) → AllByRecursion P xs → AllByRecursion Q xs
each_so P Q [] f h = tt
each_so P Q (x ∷ xs) f h = (f x h.0, each_so P Q xs f h.1)

pairs_so : {X : Type 0} (R S : X → X → Type 0) (xs : List X) → ((x y : X) → R x y → S x y) → EachPair R xs → EachPair S xs
pairs_so R S [] f h = tt
pairs_so R S (x ∷ xs) f h = (each_so (R x) (S x) xs (f x) h.0, pairs_so R S xs f h.1)

all_so : {X : Type 0} (R S : X → X → Type 0) (xs : List X) → ((x y : X) → R x y → S x y) → AllPairs R xs → AllPairs S xs
all_so R S xs f h = AllPairs-from_recursion S xs (pairs_so R S xs f (recursion_from_AllPairs R xs h))

pub apart_by_sections : AuthoritiesAreApartBySections
apart_by_sections track scene = (
  all_so (λ a b. (metre : Metre) → IsMetreOf track metre → IsTrue (authority_has track metre a) → IsTrue (authority_has track metre b) → ⊥) (λ a b. share_metre track a b ≡ false) scene.trains (λ a b. apart_pair track a b),
  all_so (λ a b. share_metre track a b ≡ false) (λ a b. (metre : Metre) → IsMetreOf track metre → IsTrue (authority_has track metre a) → IsTrue (authority_has track metre b) → ⊥) scene.trains (λ a b. pair_apart track a b),
)

-- ---- legs that are locked

module _ (track : Track) (locks : Locks) (a b : ℕ) where
  legs_so : (p : ℕ) (line : Line) → legs_locked track locks a b p line ≡ true
      → (i : ℕ) (leg : Leg) → a ≤ p + i → p + i < b → leg_at track line i ≡ Some leg → is_locked locks None leg ≡ true
  legs_so p [] all i leg low high at = cc
  legs_so p (first ∷ line) all i leg low high at = by_place (nat_lt i (metres_of track first.section)) refl at
      (λ locked low high at. legs_so (p + metres_of track first.section) line locked (i - metres_of track first.section) leg low high at)
    where
      m : ℕ
      m = metres_of track first.section

      left : (x y : Bool) → (x && y) ≡ true → x ≡ true
      left true y e = refl
      left false y e = cc

      right : (x y : Bool) → (x && y) ≡ true → y ≡ true
      right true y e = e
      right false y e = cc

      then_locked : (t l : Bool) → (not t || l) ≡ true → t ≡ true → l ≡ true
      then_locked true l e f = e
      then_locked false l e f = cc

      touched : (m : ℕ) → nat_lt i m ≡ true → nat_lt (max a p) (min b (p + m)) ≡ true
      touched m e = grind arith

      by_place : (t : Bool) → nat_lt i (metres_of track first.section) ≡ t → cond t (Some first) (leg_at track line (i - metres_of track first.section)) ≡ Some leg
          → (legs_locked track locks a b (p + metres_of track first.section) line ≡ true → a ≤ p + metres_of track first.section + (i - metres_of track first.section)
          → p + metres_of track first.section + (i - metres_of track first.section) < b → leg_at track line (i - metres_of track first.section) ≡ Some leg → is_locked locks None leg ≡ true)
          → is_locked locks None leg ≡ true
      by_place true e f later =
          let tests = not (nat_lt (max a p) (min b (p + metres_of track first.section))) || is_locked locks None first in
          let here : is_locked locks None first ≡ true =
          then_locked (nat_lt (max a p) (min b (p + metres_of track first.section))) (is_locked locks None first)
          (left tests (legs_locked track locks a b (p + metres_of track first.section) line) all) (touched (metres_of track first.section) e) in
          subst (λ l. is_locked locks None l ≡ true) (the_some first leg f) here
      by_place false e f later =
          let tests = not (nat_lt (max a p) (min b (p + metres_of track first.section))) || is_locked locks None first in
          let beyond : metres_of track first.section ≤ i = past (metres_of track first.section) e in
          later (right tests (legs_locked track locks a b (p + metres_of track first.section) line) all) (omega (arith, low, beyond)) (omega (arith, high, beyond)) f
        where
          past : (n : ℕ) → nat_lt i n ≡ false → n ≤ i
          past n g = grind arith

  legs_back : (p : ℕ) (line : Line)
      → ((i : ℕ) (leg : Leg) → a ≤ p + i → p + i < b → leg_at track line i ≡ Some leg → is_locked locks None leg ≡ true) → legs_locked track locks a b p line ≡ true
  legs_back p [] each = refl
  legs_back p (first ∷ line) each =
      both (first_locked (metres_of track first.section) refl)
      (legs_back (p + metres_of track first.section) line
      (λ i leg low high at. each (metres_of track first.section + i) leg (omega (arith, low)) (omega (arith, high)) (later i leg at)))
    where
      both : {x y : Bool} → x ≡ true → y ≡ true → (x && y) ≡ true
      both {x = true} {y = y} e f = f
      both {x = false} {y = y} e f = cc

      later : (i : ℕ) (leg : Leg) → leg_at track line i ≡ Some leg → leg_at track (first ∷ line) (metres_of track first.section + i) ≡ Some leg
      later i leg at =
          let past : nat_lt (metres_of track first.section + i) (metres_of track first.section) ≡ false = grind arith in
          let same : metres_of track first.section + i - metres_of track first.section ≡ i = omega arith in
          rw (past, same) at

      first_locked : (m : ℕ) → metres_of track first.section ≡ m → (not (nat_lt (max a p) (min b (p + metres_of track first.section))) || is_locked locks None first) ≡ true
      first_locked m same = by_test (nat_lt (max a p) (min b (p + metres_of track first.section))) refl
        where
          place : (n : ℕ) → nat_lt (max a p) (min b (p + n)) ≡ true → (a ≤ p + (max a p - p)) × (p + (max a p - p) < b) × (nat_lt (max a p - p) n ≡ true)
          place n e = (grind arith, grind arith, grind arith)

          by_test : (t : Bool) → nat_lt (max a p) (min b (p + metres_of track first.section)) ≡ t → (not t || is_locked locks None first) ≡ true
          by_test false e = refl
          by_test true e =
              let there = place (metres_of track first.section) e in
              each (max a p - p) first there.0 there.1 (rw there.2 refl)

pub held_locked_by_legs : HeldAreLockedByLegs
held_locked_by_legs track locks train = (
  λ all i leg low high at. legs_so track locks train.from train.to 0 train.line all i leg (omega (arith, low)) (omega (arith, high)) at,
  λ each. legs_back track locks train.from train.to 0 train.line (λ i leg low high at. each i leg (omega (arith, low)) (omega (arith, high)) at),
)

-- ---- rows

pub rows_behind_by_next : RowsAreBehindByNext
rows_behind_by_next locks = (
  λ one section lock before there behind.
      next-is_one locks before (record { section = section; direction = lock.direction }) one (record { lock = lock; there = there; direction = refl; before = behind }),
  λ each s t x y before at also behind too.
      let first = each s x before at behind in
      let second = each t y before also too in
      ap (λ (l : Leg). l.section) (the_some (record { section = s; direction = x.direction }) (record { section = t; direction = y.direction }) (sym first ∙ second)),
)
