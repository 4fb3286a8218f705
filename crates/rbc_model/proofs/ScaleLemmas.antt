-- Ends that a message can give, in either format, and the units of their profiles.
use Rattle.std.proofs.Common.{◌≡◌, ℕ, ℤ, ◌%◌, ◌<◌, ◌≤◌, Bool, true, false, ◌⊎◌, inl, inr, Some, refl, arith, nat_le, ◌==◌, if◌then◌else◌}
use Rattle.std.proofs.lemmas.Bool.{le-leb, eqb-true, eq-eqb, or_cases, and_from, lt-leb}
use Rattle.rbc_model.specs.declared.places.Format.{Format}
use Rattle.rbc_model.specs.declared.places.Format.TheVariants.{Near, Far}
use Rattle.rbc_model.specs.GroupNames.{GroupName}
use Rattle.rbc_model.specs.Levels.{Levels}
use Rattle.rbc_model.specs.Profiles.{StepFunction, starts_of, are_multiples, IsProfile}
use Rattle.rbc_model.specs.Results.{is_from_to}
use Rattle.rbc_model.specs.Scales.{farthest, is_expressible, is_in_tens, unit_of}
use Rattle.rbc_model.specs.Messages.{Authority, is_writable, authority_of}
use Rattle.rbc_model.proofs.CountingLemmas.{both_of}
use Rattle.rbc_model.proofs.FrameLemmas.{limits_of}

-- ---- what each format can give

-- the second format gives all that the first one does
pub expressible_far : (format : Format) (v : ℕ) → is_expressible format v ≡ true → is_expressible Far v ≡ true
expressible_far Near v h = rw h refl
expressible_far Far v h = h

record IsEnd (format : Format) (v : ℕ) : Type 0 where
  some : 0 < v
  near_enough : v ≤ farthest format
  whole : v % unit_of v ≡ 0

in_metres : (format : Format) (v : ℕ) → is_from_to 1 32000 v ≡ true → IsEnd format v
in_metres format v h =
    let r = limits_of 1 32000 v h in
    let low = r.0 in
    record { some = omega arith; near_enough = inside format r.1; whole = rw (le-leb v 32000 r.1) (omega arith) }
  where
    inside : (format : Format) → v ≤ 32000 → v ≤ farthest format
    inside Near k = k
    inside Far k = omega arith

in_tens : (v : ℕ) → is_in_tens v ≡ true → IsEnd Far v
in_tens v h =
    let b = both_of (is_from_to 32010 80000 v) (v % 10 == 0) h in
    let r = limits_of 32010 80000 v b.0 in
    let low = r.0 in
    record { some = omega arith; near_enough = r.1; whole = rw (lt-leb v 32000 (omega arith)) (eqb-true (v % 10) 0 b.1) }

is_end : (format : Format) (v : ℕ) → is_expressible format v ≡ true → IsEnd format v
is_end Near v h = in_metres Near v h
is_end Far v h = elim (or_cases (is_from_to 1 32000 v) (is_in_tens v) h) [ inl near ↦ in_metres Far v near | inr far ↦ in_tens v far ]

pub expressible_some : (format : Format) (v : ℕ) → is_expressible format v ≡ true → 0 < v
expressible_some format v h = (is_end format v h).some

pub expressible_near_enough : (format : Format) (v : ℕ) → is_expressible format v ≡ true → v ≤ farthest format
expressible_near_enough format v h = (is_end format v h).near_enough

-- an end is a multiple of its unit
pub expressible_whole : (format : Format) (v : ℕ) → is_expressible format v ≡ true → v % unit_of v ≡ 0
expressible_whole format v h = (is_end format v h).whole

-- ---- units

pub one_or_ten : (end : ℕ) → (unit_of end ≡ 1) ⊎ (unit_of end ≡ 10)
one_or_ten end = by_test (nat_le end 32000)
  where
    -- the unit, by the test
    chosen : Bool → ℕ
    chosen test = if test then 1 else 10

    by_test : (test : Bool) → (chosen test ≡ 1) ⊎ (chosen test ≡ 10)
    by_test true = inl refl
    by_test false = inr refl

pub some_unit : (end : ℕ) → 0 < unit_of end
some_unit end = elim (one_or_ten end) [ inl e ↦ omega arith | inr e ↦ omega arith ]

-- ---- authorities

-- a message can give a profile with an end and cuts in units
pub writable : {V : Type 0} (levels : Levels V) (limit : ℕ) (profile : StepFunction V) → is_expressible Far profile.end ≡ true → IsProfile levels (unit_of profile.end) limit profile.end profile.steps
    → is_writable profile ≡ true
writable levels limit profile end p = and_from (is_expressible Far profile.end) (are_multiples (unit_of profile.end) (starts_of profile.steps)) end p.in_units

pub writable_said : {V : Type 0} (profile : StepFunction V) → is_writable profile ≡ true → (is_expressible Far profile.end ≡ true) × (are_multiples (unit_of profile.end) (starts_of profile.steps) ≡ true)
writable_said profile h = both_of (is_expressible Far profile.end) (are_multiples (unit_of profile.end) (starts_of profile.steps)) h

module _ (time : ℕ) (group : GroupName) (nominal : Bool) (speeds : StepFunction ℕ) (grades : StepFunction ℤ) where
  -- the authority of these parts
  abbrev parts : Authority
  parts = record { time = time; group = group; nominal = nominal; end = speeds.end; speeds = speeds.steps; grades = grades.steps }

  -- profiles with one end that a message can give make it
  pub makes_authority : grades.end ≡ speeds.end → is_writable speeds ≡ true → is_writable grades ≡ true → authority_of time group nominal speeds grades ≡ Some parts
  makes_authority ends s g = let same : (grades.end == speeds.end) ≡ true = eq-eqb grades.end speeds.end ends in rw (same, s, g) refl
