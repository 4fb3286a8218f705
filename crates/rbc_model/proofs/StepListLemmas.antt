-- A list of steps or of their starts: the first, and those behind it.
use Rattle.std.proofs.Common.{◌≡◌, ℕ, ◌<◌, ◌≤◌, Bool, true, false, List, [], ◌∷◌, Option, Some, None, refl, subst, nat_le, nat_lt, ◌==◌, if◌then◌else◌}
use Rattle.std.specs.List.{list_all}
use Rattle.std.specs.Option.{option_or}
use Rattle.std.proofs.lemmas.Bool.{le-leb, ltb-true, eqb-true}
use Rattle.rbc_model.specs.Levels.{Levels, IsInRange}
use Rattle.rbc_model.specs.Profiles.{value_at, rises_above, rises_from_zero}
use Rattle.rbc_model.proofs.CountingLemmas.{both_of}

pub all_split : {X : Type 0} (test : X → Bool) (x : X) (xs : List X) → list_all test (x ∷ xs) ≡ true → (test x ≡ true) × (list_all test xs ≡ true)
all_split test x xs e = both_of (test x) (list_all test xs) e

-- the first start is above the number, and the later ones rise above it
pub rises_split : (low start : ℕ) (later : List ℕ) → rises_above low (start ∷ later) ≡ true → (low < start) × (rises_above start later ≡ true)
rises_split low start later e = let b = both_of (nat_lt low start) (rises_above start later) e in (ltb-true low start b.0, b.1)

pub zero_split : (start : ℕ) (later : List ℕ) → rises_from_zero (start ∷ later) ≡ true → (start ≡ 0) × (rises_above start later ≡ true)
zero_split start later e =
    let b = both_of (start == 0) (rises_above 0 later) e in
    let first : start ≡ 0 = eqb-true start 0 b.0 in
    (first, rw first b.1)

module _ {V : Type 0} where
  or_some : (o : Option V) (v : V) → (w : V) × (option_or o (Some v) ≡ Some w)
  or_some None v = (v, refl)
  or_some (Some w) v = (w, refl)

  -- once a step has started, there is a value
  pub value_at-some : (step : ℕ × V) (steps : List (ℕ × V)) (x : ℕ) → step.0 ≤ x → (v : V) × (value_at (step ∷ steps) x ≡ Some v)
  value_at-some step steps x h = rw (le-leb step.0 x h) (or_some (value_at steps x) step.1)

module _ {V : Type 0} (levels : Levels V) where
  in_range_or : (t : Bool) (v w : V) (o : Option V) → IsInRange levels v → (o ≡ Some w → IsInRange levels w) → option_or o (if t then Some v else None) ≡ Some w → IsInRange levels w
  in_range_or true v w None r h e = let same : v ≡ w = cc in subst (λ u. IsInRange levels u) same r
  in_range_or false v w None r h e = h e
  in_range_or t v w (Some u) r h e = h e

  -- the values that a list of steps has are in range
  pub value_in_range : (steps : List (ℕ × V)) (x : ℕ) (v : V) → list_all (λ step. levels.in_range step.1) steps ≡ true → value_at steps x ≡ Some v → IsInRange levels v
  value_in_range [] x v all e = absurd cc
  value_in_range (step ∷ steps) x v all e =
      let a = all_split (λ step. levels.in_range step.1) step steps all in
      in_range_or (nat_le step.0 x) step.1 v (value_at steps x) a.0 (λ f. value_in_range steps x v a.1 f) e
