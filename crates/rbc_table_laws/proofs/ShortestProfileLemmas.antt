-- In a best profile with the fewest steps each start is a break.
use Rattle.std.proofs.Common.{◌≡◌, refl, sym, ◌∙◌, arith, subst, ℕ, ◌-◌, ◌%◌, ◌<◌, ◌≤◌, ◌⊎◌, inl, inr, true, ◌&&◌, List, [], ◌∷◌, length, Option, Some, nat_lt, ◌==◌}
use Rattle.std.specs.List.{list_all}
use Rattle.std.proofs.lemmas.Bool.{ltb-true, eqb-true}
use Rattle.rbc_model.specs.Levels.{Levels, IsLawful}
use Rattle.rbc_model.specs.Profiles.{value_at, starts_of, rises_above, is_within, price_at, loss, Fits, IsBestProfile}
use Rattle.rbc_model.proofs.RunLemmas.{IsCovered}
use Rattle.rbc_model.proofs.StepListLemmas.{rises_split, zero_split, all_split}
use Rattle.rbc_model.proofs.BasicLemmas.{same_or_later}
use Rattle.rbc_table_laws.proofs.SumLemmas.{sum_rises}
use Rattle.rbc_table_laws.proofs.LeastLemmas.{spent, IsGiven}
use Rattle.rbc_table_laws.proofs.TailLemmas.{IsTail, tail_dearer, tail_inside, tail_fits, tail_loss}
use Rattle.rbc_table_laws.proofs.ExchangeLemmas.{find_in}
use Rattle.rbc_table_laws.proofs.ChainLemmas.{AreBreaksInUnits, costs, world, value_last, value_here, value_later, lost, given_of, loses_of}
use Rattle.rbc_table_laws.proofs.ShorterProfileLemmas.{IsBetter, better_on, better_at_cut}

-- the number is a break before the last
pub record IsCut (m : ℕ) (break : ℕ → ℕ) (x : ℕ) : Type 0 where
  pub at : ℕ
  pub inside : at < m
  pub is : x ≡ break at

abbrev pub AreCuts : {V : Type 0} → ℕ → (ℕ → ℕ) → List (ℕ × V) → Type 0
AreCuts m break [] = Unit {0}
AreCuts m break (step ∷ later) = IsCut m break step.0 × AreCuts m break later

module _ {V : Type 0} (levels : Levels V) (unit limit n : ℕ) (track : ℕ → Option V) where
  same_length : (x price : ℕ) (steps like : List (ℕ × V)) → length steps ≡ length like → IsBetter levels unit limit n track x steps price → IsBetter levels unit limit n track x like price
  same_length x price steps like e b =
      let cheap = b.cheap in
      let short = b.short in
      let less = b.less in
      record { other = b.other; low = b.low; tail = b.tail; cheap = cheap; short = omega arith; less = omega arith }

  -- no profile does better than a best one with the fewest steps
  pub none_better : (lawful : IsLawful levels) → IsCovered levels lawful n track → 0 < n → (steps : List (ℕ × V)) → IsBestProfile levels unit limit n track steps
      → ((other : List (ℕ × V)) → IsBestProfile levels unit limit n track other → length steps ≤ length other)
      → IsBetter levels unit limit n track 0 steps (loss levels n track steps) → ⊥
  none_better lawful covered some steps best fewest b =
      let cheap = b.cheap in
      let short = b.short in
      let less = b.less in
      let few = best.fits.profile.few in
      let fits = tail_fits levels unit limit n track lawful covered b.other b.low some (omega arith) b.tail in
      let loses = tail_loss levels unit limit n track b.other b.low b.tail in
      let no_less = best.least b.other fits in
      let no_fewer = fewest b.other (record { fits = fits; least = λ third also. let theirs = best.least third also in omega arith }) in
      omega arith

  module _ (m : ℕ) (break : ℕ → ℕ) (lawful : IsLawful levels) (covered : IsCovered levels lawful n track) (are : AreBreaksInUnits levels unit limit n track m break)
      (whole : (i : ℕ) → i < m → break i % unit ≡ 0) where
    -- a profile that fits, as steps from one place to the next
    module _ (steps : List (ℕ × V)) (below : (x : ℕ) → x < n → is_within levels (track x) (value_at steps x) ≡ true) where
      abbrev lost_before : ℕ → ℕ
      lost_before = lost levels unit limit n track m break lawful covered are steps below

      tail_of : (step : ℕ × V) (later : List (ℕ × V)) → rises_above step.0 (starts_of later) ≡ true
          → list_all (λ start. nat_lt start n) (starts_of (step ∷ later)) ≡ true
          → list_all (λ start. start % unit == 0) (starts_of (step ∷ later)) ≡ true
          → list_all (λ s. levels.in_range s.1 && levels.is_expressible s.1) (step ∷ later) ≡ true
          → ((x : ℕ) → step.0 ≤ x → value_at steps x ≡ value_at (step ∷ later) x)
          → IsTail levels unit limit n track step.0 (step ∷ later) (lost_before n - lost_before step.0)
      tail_of step [] rises inside units valid agree =
          let first = ltb-true step.0 n (all_split (λ start. nat_lt start n) step.0 [] inside).0 in
          let cut = eqb-true (step.0 % unit) 0 (all_split (λ start. start % unit == 0) step.0 [] units).0 in
          let ok = all_split (λ s. levels.in_range s.1 && levels.is_expressible s.1) step [] valid in
          let there : (x : ℕ) → step.0 ≤ x → x < n → value_at steps x ≡ Some step.1 = λ x low high. agree x low ∙ value_last x step low in
          let loses = loses_of levels unit limit n track m break lawful covered are steps below step.0 n step.1 first (omega arith) ok.0 there in
          let up = sum_rises step.0 n (λ y. price_at levels (track y) (value_at steps y)) (omega arith) in
          (n, 0, refl, first, cut, given_of levels unit limit n track m break lawful covered are steps below step.0 n step.1 first (omega arith) ok.0 there, omega arith, refl)
      tail_of step (next ∷ later) rises inside units valid agree =
          let s = rises_split step.0 next.0 (starts_of later) rises in
          let rest = all_split (λ start. nat_lt start n) step.0 (starts_of (next ∷ later)) inside in
          let first = ltb-true next.0 n (all_split (λ start. nat_lt start n) next.0 (starts_of later) rest.1).0 in
          let units_split = all_split (λ start. start % unit == 0) step.0 (starts_of (next ∷ later)) units in
          let cut = eqb-true (step.0 % unit) 0 units_split.0 in
          let ok = all_split (λ s. levels.in_range s.1 && levels.is_expressible s.1) step (next ∷ later) valid in
          let up = s.0 in
          let there : (x : ℕ) → step.0 ≤ x → x < next.0 → value_at steps x ≡ Some step.1 = λ x low high. agree x low ∙ value_here x step next later s.1 low high in
          let loses = loses_of levels unit limit n track m break lawful covered are steps below step.0 next.0 step.1 up (omega arith) ok.0 there in
          let a = sum_rises step.0 next.0 (λ y. price_at levels (track y) (value_at steps y)) (omega arith) in
          let b = sum_rises next.0 n (λ y. price_at levels (track y) (value_at steps y)) (omega arith) in (
            next.0,
            lost_before n - lost_before next.0,
            refl,
            up,
            cut,
            given_of levels unit limit n track m break lawful covered are steps below step.0 next.0 step.1 up (omega arith) ok.0 there,
            omega arith,
            tail_of next later s.1 rest.1 units_split.1 ok.1 (λ x low. agree x (omega arith) ∙ value_later x step next later low),
          )

    pub tail_of_profile : (steps : List (ℕ × V)) → Fits levels unit limit n track steps → IsTail levels unit limit n track 0 steps (loss levels n track steps)
    tail_of_profile [] fits = let none = fits.profile.starts.rising in absurd (cc)
    tail_of_profile (step ∷ later) fits =
        let listed = fits.profile.starts in
        let z = zero_split step.0 (starts_of later) listed.rising in
        let tail = tail_of (step ∷ later) fits.below step later z.1 listed.inside fits.profile.in_units fits.profile.values (λ x h. refl) in
        let from_zero = subst (λ x. IsTail levels unit limit n track x (step ∷ later) (lost_before (step ∷ later) fits.below n - lost_before (step ∷ later) fits.below x)) z.0 tail in
        tail_dearer levels unit limit n track 0 (step ∷ later) (loss levels n track (step ∷ later) - 0) (loss levels n track (step ∷ later)) (omega arith) from_zero

    cuts_on : (x : ℕ) (step next : ℕ × V) (later : List (ℕ × V)) (price : ℕ) → (t : IsTail levels unit limit n track x (step ∷ next ∷ later) price) → IsCut m break next.0
        → AreCuts m break later ⊎ IsBetter levels unit limit n track t.0 (next ∷ later) t.1 → AreCuts m break (next ∷ later) ⊎ IsBetter levels unit limit n track x (step ∷ next ∷ later) price
    cuts_on x step next later price t cut (inl rest) = inl (cut, rest)
    cuts_on x step next later price t cut (inr b) = inr (better_on levels unit limit n track x step (next ∷ later) price t b)

    -- the starts after the first are breaks, or other steps do better
    cuts_of : (x : ℕ) (step : ℕ × V) (later : List (ℕ × V)) (price : ℕ) → IsTail levels unit limit n track x (step ∷ later) price
        → AreCuts m break later ⊎ IsBetter levels unit limit n track x (step ∷ later) price
    cuts_of x step [] price t = inl tt
    cuts_of x step (next ∷ later) price t =
        let y = t.0 in
        let after = t.7 in
        let up = t.3 in
        let on = after.3 in
        let inside = tail_inside levels unit limit n track after.0 later after.1 after.7 in
        let last = are.last in
        let there = find_in (spent levels n track) (IsGiven levels n track) m break (costs levels unit limit n track m break) (world levels unit limit n track m break lawful covered are) m t.0 (omega arith) (omega arith) in
        let low = there.low in
        let high = there.high in
        elim (same_or_later (break there.stretch) t.0 there.low) [
          | inl e ↦
              cuts_on x step next later price t (record { at = there.stretch; inside = there.inside; is = after.2 ∙ e })
              (cuts_of t.0 next later t.1 t.7)
          | inr above ↦
              let a = are.alike there.stretch t.0 there.inside above there.high after.4 in
              let sum = t.6 in
              let sum_after = after.6 in
              inr (same_length x price ((x, step.1) ∷ (t.0, next.1) ∷ later) (step ∷ next ∷ later) refl
              (better_at_cut levels unit limit n track x t.0 after.0 after.1 price step.1 next.1 later up on t.4 t.5 after.5 (omega arith) after.7
              m break lawful covered are whole there.stretch there.inside above there.high inside a.0 a.1))
        ]

    pub cuts_of_shortest : 0 < n → 0 < m → (steps : List (ℕ × V)) → IsBestProfile levels unit limit n track steps
        → ((other : List (ℕ × V)) → IsBestProfile levels unit limit n track other → length steps ≤ length other) → AreCuts m break steps
    cuts_of_shortest some stretches [] best fewest = tt
    cuts_of_shortest some stretches (step ∷ later) best fewest =
        let tail = tail_of_profile (step ∷ later) best.fits in
        let first : step.0 ≡ break 0 = tail.2 ∙ sym are.first in
        elim (cuts_of 0 step later (loss levels n track (step ∷ later)) tail) [
          | inl cuts ↦ (record { at = 0; inside = stretches; is = first }, cuts)
          | inr b ↦ absurd (none_better lawful covered some (step ∷ later) best fewest b)
        ]
