-- A profile that fits loses no less than some way over the breaks costs.
use Rattle.std.proofs.Common.{◌≡◌, refl, ap, ◌∙◌, arith, subst, ℕ, zero, suc, ◌+◌, ◌%◌, ◌<◌, ◌≤◌, inl, inr, true, false, ◌&&◌, List, [], ◌∷◌, length, Option, Some, None, nat_le, nat_lt, ◌==◌}
use Rattle.std.specs.List.{list_all}
use Rattle.std.proofs.lemmas.Bool.{le-leb, ltb-true, eqb-true, cases_lt}
use Rattle.std.proofs.lemmas.Bool.Decides.{nat_tests}
use Rattle.std.proofs.Math.Nat.{eq-zero-or-pos}
use Rattle.rbc_model.specs.Levels.{Levels, IsAtMost, IsLawful}
use Rattle.rbc_model.specs.Profiles.{value_at, starts_of, rises_above, is_within, price_at, sum_below, loss, Fits}
use Rattle.rbc_model.specs.PriceTables.{cost}
use Rattle.rbc_model.proofs.CountingLemmas.{both_of}
use Rattle.rbc_model.proofs.RunLemmas.{IsCovered}
use Rattle.rbc_model.proofs.StepListLemmas.{rises_split, zero_split, all_split, value_at-some}
use Rattle.rbc_model.proofs.LevelLemmas.{one_way}
use Rattle.rbc_model.proofs.BasicLemmas.{next_or_at_most}
use Rattle.rbc_table_laws.proofs.SumLemmas.{sum_between, sum_between_same, sum_rises}
use Rattle.rbc_table_laws.proofs.LeastLemmas.{spent, IsGiven, cost_lowest}
use Rattle.rbc_table_laws.proofs.WayLemmas.{Reach}
use Rattle.rbc_table_laws.proofs.ExchangeLemmas.{IsFlat, IsWorld, IsChain, reach_all}

-- ---- lists of steps

module _ {V : Type 0} where
  -- no step starts before the first
  pub none_before : (low x : ℕ) (rows : List (ℕ × V)) → rises_above low (starts_of rows) ≡ true → x ≤ low → value_at rows x ≡ None
  none_before low x [] rises h = refl
  none_before low x (row ∷ rows) rises h =
      let s = rises_split low row.0 (starts_of rows) rises in
      let later : nat_le row.0 x ≡ false = (let above = s.0 in grind (arith, nat_tests)) in
      rw (none_before row.0 x rows s.1 (omega (arith, s.0)), later) refl

  -- the last step's value stays
  pub value_last : (x : ℕ) (step : ℕ × V) → step.0 ≤ x → value_at (step ∷ []) x ≡ Some step.1
  value_last x step h = rw (le-leb step.0 x h) refl

  -- up to the next start the value is the step's own
  pub value_here : (x : ℕ) (step next : ℕ × V) (later : List (ℕ × V)) → rises_above next.0 (starts_of later) ≡ true
      → step.0 ≤ x → x < next.0 → value_at (step ∷ next ∷ later) x ≡ Some step.1
  value_here x step next later rises low high =
      let none = none_before next.0 x later rises (omega arith) in
      let not_yet : nat_le next.0 x ≡ false = grind (arith, nat_tests) in
      rw (none, not_yet, le-leb step.0 x low) refl

  -- from the next start on it is that of the later steps
  pub value_later : (x : ℕ) (step next : ℕ × V) (later : List (ℕ × V)) → next.0 ≤ x → value_at (step ∷ next ∷ later) x ≡ value_at (next ∷ later) x
  value_later x step next later h =
      let there = value_at-some next later x h in
      rw there.1 refl

-- ---- breaks

module _ {V : Type 0} (levels : Levels V) (unit limit n : ℕ) (track : ℕ → Option V) (m : ℕ) (break : ℕ → ℕ) where
  -- They rise from 0 to the end, and where a place between two of them may be a cut, the track has one value between these.
  pub record AreBreaksInUnits : Type 0 where
    pub rise : (i : ℕ) → i < m → break i < break (suc i)
    pub first : break 0 ≡ 0
    pub last : break m ≡ n
    pub alike : (i x : ℕ) → i < m → break i < x → x < break (suc i) → x % unit ≡ 0 → (t : V) × ((y : ℕ) → break i ≤ y → y < break (suc i) → track y ≡ Some t)

  abbrev pub costs : ℕ → ℕ → ℕ
  costs i i' = cost levels track (break i) (break i')

  pub breaks_up : AreBreaksInUnits → (i j : ℕ) → i ≤ j → j ≤ m → break i ≤ break j
  breaks_up are i zero h inside = let same : break i ≡ break 0 = ap break (omega arith) in omega arith
  breaks_up are i (suc j) h inside = elim (next_or_at_most i j h) [
    | inl e ↦ let same : break i ≡ break (suc j) = ap break e in omega arith
    | inr l ↦ let before = breaks_up are i j l (omega arith) in let up = are.rise j (omega arith) in omega arith
  ]

  -- where the track has one value
  module _ (i : ℕ) (t : V) (one : (y : ℕ) → break i ≤ y → y < break (suc i) → track y ≡ Some t) where
    pub under_there : (v t' : V) (x z : ℕ) → break i ≤ x → x < break (suc i) → break i ≤ z → z < break (suc i) → ((u : V) → track x ≡ Some u → IsAtMost levels v u) → track z ≡ Some t' → IsAtMost levels v t'
    under_there v t' x z low high low' high' under there =
        let at = one z low' high' in
        let same : t ≡ t' = cc in
        subst (λ w. IsAtMost levels v w) same (under t (one x low high))

    price_both : (v w : V) → levels.price t v ≤ levels.price t w → (z : ℕ) → break i ≤ z → z < break (suc i) → price_at levels (track z) (Some v) ≤ price_at levels (track z) (Some w)
    price_both v w less z low high = let at = one z low high in rw at less

    pub cheaper_of : (v w : V) → levels.price t v ≤ levels.price t w → (x y : ℕ) → break i ≤ x → x ≤ y → y ≤ break (suc i)
        → spent levels n track v y + spent levels n track w x ≤ spent levels n track w y + spent levels n track v x
    cheaper_of v w less x y low rises high =
        sum_between x y (λ z. price_at levels (track z) (Some v)) (λ z. price_at levels (track z) (Some w)) rises
        (λ z l h. price_both v w less z (omega arith) (omega arith))

    pub flat_of : IsFlat (spent levels n track) (IsGiven levels n track) m break costs i
    flat_of = record {
      back = λ v x y low high rises given. record {
        in_range = given.in_range;
        expressible = given.expressible;
        under = λ z l h u there. elim (cases_lt z x) [
          | inl before ↦ under_there v u x z low high l (omega arith) (λ w at. given.under x (omega arith) rises w at) there
          | inr after ↦ given.under z after h u there
        ];
      };
      onward = λ v x y low high inside given. record {
        in_range = given.in_range;
        expressible = given.expressible;
        under = λ z l h u there. elim (cases_lt z y) [
          | inl before ↦ given.under z l before u there
          | inr after ↦ under_there v u (break i) z (omega arith) (omega arith) (omega arith) h (λ w at. given.under (break i) low high w at) there
        ];
      };
      cheaper = λ v w. elim (one_way (levels.price t v) (levels.price t w)) [
        | inl less ↦ inl (cheaper_of v w less)
        | inr less ↦ inr (cheaper_of w v less)
      ];
    }

  module _ (lawful : IsLawful levels) (covered : IsCovered levels lawful n track) (are : AreBreaksInUnits) where
    pub world : IsWorld (spent levels n track) (IsGiven levels n track) m break costs
    world = record {
      spent_rises = λ v x y h. sum_rises x y (λ z. price_at levels (track z) (Some v)) h;
      narrower = λ v x y x' y' low high given. record {
        in_range = given.in_range;
        expressible = given.expressible;
        under = λ z l h t there. given.under z (omega arith) (omega arith) t there;
      };
      lowest = λ v i i' rises inside given.
          let next = are.rise i (omega arith) in
          let up = breaks_up are (suc i) i' rises inside in
          let end = breaks_up are i' m inside (omega arith) in
          let last = are.last in
          cost_lowest levels n track lawful covered v (break i) (break i') (omega arith) (omega arith) given;
      breaks_rise = are.rise;
      first_break = are.first;
    }

    -- ---- a profile that fits

    module _ (steps : List (ℕ × V)) (below : (x : ℕ) → x < n → is_within levels (track x) (value_at steps x) ≡ true) where
      -- what it loses before each place
      abbrev pub lost : ℕ → ℕ
      lost x = sum_below x (λ y. price_at levels (track y) (value_at steps y))

      within_there : (o p : Option V) (v given : V) → o ≡ Some v → p ≡ Some given → is_within levels o p ≡ true → IsAtMost levels given v
      within_there o p v given e f h = rw (e, f) at h

      module _ (from to : ℕ) (v : V) (rises : from < to) (inside : to ≤ n) (valid : (levels.in_range v && levels.is_expressible v) ≡ true)
          (there : (x : ℕ) → from ≤ x → x < to → value_at steps x ≡ Some v) where
        pub given_of : IsGiven levels n track v from to
        given_of =
            let both = both_of (levels.in_range v) (levels.is_expressible v) valid in
            record {
              in_range = both.0;
              expressible = both.1;
              under = λ x low high t at. within_there (track x) (value_at steps x) t v at (there x low high) (below x (omega arith));
            }

        pub loses_of : lost to + spent levels n track v from ≡ lost from + spent levels n track v to
        loses_of =
            sum_between_same from to (λ y. price_at levels (track y) (value_at steps y)) (λ y. price_at levels (track y) (Some v)) (omega arith)
            (λ x low high. ap (price_at levels (track x)) (there x low high))

      chain_of : (step : ℕ × V) (later : List (ℕ × V)) → rises_above step.0 (starts_of later) ≡ true
          → list_all (λ start. nat_lt start n) (starts_of (step ∷ later)) ≡ true
          → list_all (λ start. start % unit == 0) (starts_of (step ∷ later)) ≡ true
          → list_all (λ s. levels.in_range s.1 && levels.is_expressible s.1) (step ∷ later) ≡ true
          → ((x : ℕ) → step.0 ≤ x → value_at steps x ≡ value_at (step ∷ later) x)
          → IsChain (spent levels n track) (IsGiven levels n track) m break costs world lost step.0 step.1 later
      chain_of step [] rises inside units valid agree =
          let first = ltb-true step.0 n (all_split (λ start. nat_lt start n) step.0 [] inside).0 in
          let ok = all_split (λ s. levels.in_range s.1 && levels.is_expressible s.1) step [] valid in
          let there : (x : ℕ) → step.0 ≤ x → x < n → value_at steps x ≡ Some step.1 = λ x low high. agree x low ∙ value_last x step low in
          rw are.last (first, given_of step.0 n step.1 first (omega arith) ok.0 there, loses_of step.0 n step.1 first (omega arith) ok.0 there)
      chain_of step (next ∷ later) rises inside units valid agree =
          let s = rises_split step.0 next.0 (starts_of later) rises in
          let rest = all_split (λ start. nat_lt start n) step.0 (starts_of (next ∷ later)) inside in
          let first = ltb-true next.0 n (all_split (λ start. nat_lt start n) next.0 (starts_of later) rest.1).0 in
          let whole = all_split (λ start. start % unit == 0) step.0 (starts_of (next ∷ later)) units in
          let cut = eqb-true (next.0 % unit) 0 (all_split (λ start. start % unit == 0) next.0 (starts_of later) whole.1).0 in
          let ok = all_split (λ s. levels.in_range s.1 && levels.is_expressible s.1) step (next ∷ later) valid in
          let up = s.0 in
          let there : (x : ℕ) → step.0 ≤ x → x < next.0 → value_at steps x ≡ Some step.1 = λ x low high. agree x low ∙ value_here x step next later s.1 low high in
          let end : next.0 < break m = (let last = are.last in omega arith) in (
            up,
            given_of step.0 next.0 step.1 up (omega arith) ok.0 there,
            loses_of step.0 next.0 step.1 up (omega arith) ok.0 there,
            end,
            λ i l low high. (let a = are.alike i next.0 l low high cut in flat_of i a.0 a.1),
            chain_of next later s.1 rest.1 whole.1 ok.1 (λ x low. agree x (omega arith) ∙ value_later x step next later low),
          )

    some_break : 0 < n → 0 < m
    some_break h = elim (eq-zero-or-pos m) [
      | inl none ↦ let first = are.first in let last = are.last in let same : break m ≡ break 0 = ap break none in absurd (omega arith)
      | inr some ↦ some
    ]

    -- a profile that fits loses no less than a way of as many steps
    pub reach_of_profile : (steps : List (ℕ × V)) → Fits levels unit limit n track steps → Reach costs (length steps) m (loss levels n track steps)
    reach_of_profile [] fits = let none = fits.profile.starts.rising in absurd (cc)
    reach_of_profile (step ∷ later) fits =
        let listed = fits.profile.starts in
        let z = zero_split step.0 (starts_of later) listed.rising in
        let zero_is = z.0 in
        let chain = chain_of (step ∷ later) fits.below step later z.1 listed.inside fits.profile.in_units fits.profile.values (λ x h. refl) in
        let first = ltb-true step.0 n (all_split (λ start. nat_lt start n) step.0 (starts_of later) listed.inside).0 in
        let some = some_break (omega arith) in
        let from_zero = subst (λ x. IsChain (spent levels n track) (IsGiven levels n track) m break costs world (lost (step ∷ later) fits.below) x step.1 later) zero_is chain in
        subst (λ e. Reach costs (length (step ∷ later)) m (sum_below e (λ y. price_at levels (track y) (value_at (step ∷ later) y)))) are.last
        (reach_all (spent levels n track) (IsGiven levels n track) m break costs world (lost (step ∷ later) fits.below) step.1 later some refl from_zero)
