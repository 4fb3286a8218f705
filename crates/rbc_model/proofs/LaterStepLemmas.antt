-- The steps of a profile after one that starts at a metre, and how far each lies from the one before, in the message's units.
use Rattle.std.proofs.Common.{◌≡◌, ℕ, ◌+◌, ◌-◌, ◌*◌, ◌/◌, ◌%◌, ◌<◌, ◌≤◌, ◌^◌, Bool, true, ◌&&◌, ◌⊎◌, inl, inr, List, [], ◌∷◌, length, refl, arith, subst, sym, nat_lt, ◌==◌}
use Rattle.std.proofs.lemmas.Bool.{ltb-true, lt-ltb, eqb-true, eq-eqb, and_from}
use Rattle.std.specs.List.{list_all}
use Rattle.rbc_model.specs.Levels.{Levels}
use Rattle.rbc_model.specs.Profiles.{starts_of, rises_above, IsProfile}
use Rattle.rbc_model.proofs.CountingLemmas.{both_of}

-- ---- lists of steps

module _ {V : Type 0} (levels : Levels V) where
  -- the value is one that a profile may have
  abbrev pub may_have : V → Bool
  may_have value = levels.in_range value && levels.is_expressible value

  module _ (unit end from : ℕ) where
    pub record IsNext (step : ℕ × V) : Type 0 where
      pub after : from < step.0
      pub inside : step.0 < end
      pub whole : step.0 % unit ≡ 0
      pub value : may_have step.1 ≡ true

    pub record AreLater (later : List (ℕ × V)) : Type 0 where
      pub before : from < end
      pub rising : rises_above from (starts_of later) ≡ true
      pub inside : list_all (λ start. nat_lt start end) (starts_of later) ≡ true
      pub whole : list_all (λ start. start % unit == 0) (starts_of later) ≡ true
      pub values : list_all (λ s. may_have s.1) later ≡ true

  pub none_later : (unit end from : ℕ) → from < end → AreLater unit end from []
  none_later unit end from before = record { before = before; rising = refl; inside = refl; whole = refl; values = refl }

  pub first_later : {unit end from : ℕ} {step : ℕ × V} {later : List (ℕ × V)} → AreLater unit end from (step ∷ later) → IsNext unit end from step × AreLater unit end step.0 later
  first_later {unit} {end} {from} {step} {later} are =
      let rising = both_of (nat_lt from step.0) (rises_above step.0 (starts_of later)) are.rising in
      let inside = both_of (nat_lt step.0 end) (list_all (λ start. nat_lt start end) (starts_of later)) are.inside in
      let whole = both_of (step.0 % unit == 0) (list_all (λ start. start % unit == 0) (starts_of later)) are.whole in
      let values = both_of (may_have step.1) (list_all (λ s. may_have s.1) later) are.values in
      let below : step.0 < end = ltb-true step.0 end inside.0 in (
        record { after = ltb-true from step.0 rising.0; inside = below; whole = eqb-true (step.0 % unit) 0 whole.0; value = values.0 },
        record { before = below; rising = rising.1; inside = inside.1; whole = whole.1; values = values.1 },
      )

  pub one_more_later : {unit end from : ℕ} {step : ℕ × V} {later : List (ℕ × V)} → IsNext unit end from step → AreLater unit end step.0 later → AreLater unit end from (step ∷ later)
  one_more_later {unit} {end} {from} {step} next are = record {
    before = let a = next.after in let b = next.inside in omega arith;
    rising = and_from _ _ (lt-ltb from step.0 next.after) are.rising;
    inside = and_from _ _ (lt-ltb step.0 end next.inside) are.inside;
    whole = and_from _ _ (eq-eqb (step.0 % unit) 0 next.whole) are.whole;
    values = and_from _ _ next.value are.values;
  }

  -- ---- a whole profile

  pub record IsStarted (unit limit end : ℕ) (first : ℕ × V) (later : List (ℕ × V)) : Type 0 where
    pub start : first.0 ≡ 0
    pub value : may_have first.1 ≡ true
    pub few : length (first ∷ later) ≤ limit
    pub rest : AreLater unit end 0 later

  pub started_of_profile : {unit limit end : ℕ} {first : ℕ × V} {later : List (ℕ × V)} → IsProfile levels unit limit end (first ∷ later) → IsStarted unit limit end first later
  started_of_profile {unit} {limit} {end} {first} {later} profile =
      let rising = both_of (first.0 == 0) (rises_above 0 (starts_of later)) profile.starts.rising in
      let inside = both_of (nat_lt first.0 end) (list_all (λ start. nat_lt start end) (starts_of later)) profile.starts.inside in
      let whole = both_of (first.0 % unit == 0) (list_all (λ start. start % unit == 0) (starts_of later)) profile.in_units in
      let values = both_of (may_have first.1) (list_all (λ s. may_have s.1) later) profile.values in
      record {
        start = eqb-true first.0 0 rising.0;
        value = values.0;
        few = profile.few;
        rest = record { before = omega (arith, ltb-true first.0 end inside.0); rising = rising.1; inside = inside.1; whole = whole.1; values = values.1 };
      }

  pub profile_of_started : {unit limit end : ℕ} {first : V} {later : List (ℕ × V)} → IsStarted unit limit end (0, first) later → 0 % unit ≡ 0 → IsProfile levels unit limit end ((0, first) ∷ later)
  profile_of_started {unit} {limit} {end} {first} {later} s whole = record {
    starts = record {
      rising = s.rest.rising;
      inside = and_from _ _ (lt-ltb 0 end s.rest.before) s.rest.inside;
    };
    in_units = and_from _ _ (eq-eqb (0 % unit) 0 whole) s.rest.whole;
    few = s.few;
    values = and_from _ _ s.value s.rest.values;
  }

-- ---- distances in units

pub record IsUnit (unit end count : ℕ) : Type 0 where
  pub ones_or_tens : (unit ≡ 1) ⊎ (unit ≡ 10)
  pub end_is : unit * count ≡ end
  pub fits : count < 2 ^ 15

-- `distance` units behind the first `from` reach the metre x, and a field has room for them
pub record IsDistance (unit from x distance : ℕ) : Type 0 where
  pub some : 1 ≤ distance
  pub fits : distance < 2 ^ 15
  pub reaches : unit * (from + distance) ≡ x

abbrev Apart : ℕ → Type 0
Apart unit = (count from start x : ℕ) → count < 2 ^ 15 → start ≡ unit * from → start < x → x ≤ unit * count → x % unit ≡ 0 → IsDistance unit from x ((x - start) / unit)

apart_by_one : Apart 1
apart_by_one count from start x fits e low high whole = record { some = omega arith; fits = omega arith; reaches = omega arith }

apart_by_ten : Apart 10
apart_by_ten count from start x fits e low high whole = record { some = omega arith; fits = omega arith; reaches = omega arith }

apart : {unit end count : ℕ} → IsUnit unit end count → Apart unit
apart u = elim u.ones_or_tens [ inl e ↦ subst Apart (sym e) apart_by_one | inr e ↦ subst Apart (sym e) apart_by_ten ]

-- to a later step
pub distance_of_next : {V : Type 0} {levels : Levels V} {unit end count start : ℕ} {step : ℕ × V} (from : ℕ) → IsUnit unit end count → start ≡ unit * from → IsNext levels unit end start step → IsDistance unit from step.0 ((step.0 - start) / unit)
distance_of_next {start = start} {step = step} from u e next =
    let low = next.after in let high = next.inside in let same = u.end_is in
    apart u _ from start step.0 u.fits e low (omega arith) next.whole

-- to the end
abbrev EndApart : ℕ → Type 0
EndApart unit = (count from start end : ℕ) → count < 2 ^ 15 → unit * count ≡ end → start ≡ unit * from → start < end → IsDistance unit from end ((end - start) / unit) × (from + (end - start) / unit ≡ count)

end_by_one : EndApart 1
end_by_one count from start end fits same e low = (record { some = omega arith; fits = omega arith; reaches = omega arith }, omega arith)

end_by_ten : EndApart 10
end_by_ten count from start end fits same e low = (record { some = omega arith; fits = omega arith; reaches = omega arith }, omega arith)

pub distance_of_end : {unit end count start : ℕ} (from : ℕ) → IsUnit unit end count → start ≡ unit * from → start < end → IsDistance unit from end ((end - start) / unit) × (from + (end - start) / unit ≡ count)
distance_of_end {unit} {end} {count} {start} from u e low = all count from start end u.fits u.end_is e low
  where
    all : EndApart unit
    all = elim u.ones_or_tens [ inl e ↦ subst EndApart (sym e) end_by_one | inr e ↦ subst EndApart (sym e) end_by_ten ]

-- a distance that was read
abbrev Reached : ℕ → Type 0
Reached unit = (from start distance : ℕ) → start ≡ unit * from → 1 ≤ distance → ((unit * (from + distance) - start) / unit ≡ distance) × (start < unit * (from + distance)) × (unit * (from + distance) % unit ≡ 0)

reached_by_one : Reached 1
reached_by_one from start distance e some = (omega arith, omega arith, omega arith)

reached_by_ten : Reached 10
reached_by_ten from start distance e some = (omega arith, omega arith, omega arith)

pub reached : {unit end count start : ℕ} (from distance : ℕ) → IsUnit unit end count → start ≡ unit * from → 1 ≤ distance → ((unit * (from + distance) - start) / unit ≡ distance) × (start < unit * (from + distance)) × (unit * (from + distance) % unit ≡ 0)
reached {unit} {start = start} from distance u e some = all from start distance e some
  where
    all : Reached unit
    all = elim u.ones_or_tens [ inl e ↦ subst Reached (sym e) reached_by_one | inr e ↦ subst Reached (sym e) reached_by_ten ]
