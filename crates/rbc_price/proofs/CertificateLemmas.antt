-- There is no reason against a profile exactly where the table is a certificate, and then the profile is best.
use Rattle.std.proofs.Common.{◌≡◌, refl, ap, sym, ◌∙◌, arith, subst, ℕ, zero, suc, ◌+◌, ◌<◌, ◌≤◌, ◌↔◌, Bool, true, false, List, length, nat_le, ◌==◌, Option, Some, None, Result, Ok, Err, IsTrue}
use Rattle.std.specs.List.{list_all}
use Rattle.std.specs.Result.{OnOk}
use Rattle.std.proofs.lemmas.Bool.{le-leb, leb-true, eqb-true, eq-eqb}
use Rattle.rbc_model.specs.declared.limits.TheConstants.{MOST_STEPS}
use Rattle.rbc_model.specs.declared.prices.Reason.{Reason}
use Rattle.rbc_model.specs.declared.prices.Reason.TheVariants.{Shape, Above, Inequality, NotAttained, Steps}
use Rattle.rbc_model.specs.Results.{demand, ◌>>◌}
use Rattle.rbc_model.specs.Levels.{Levels, IsLawful}
use Rattle.rbc_model.specs.Profiles.{StepFunction, value_at, is_within, IsStepList, IsProfile, IsTrackFunction, Fits, IsBestProfile}
use Rattle.rbc_model.specs.PriceTables.{table_at, step_cost, break_at, IsSoundTable}
use Rattle.rbc_model.specs.PriceChecks.{first_from, unless_some, above_at, first_above, columns, steps_of_use, too_high_at, starts_before, first_too_high, last_price, has_shape, lost, price_check, IsCertificate}
use Rattle.rbc_table_laws.proofs.TableLawLemmas.{sound_tables_bound}
use Rattle.rbc_model.specs.Scales.{unit_of}
use Rattle.rbc_price.proofs.SearchLemmas.{first_from-none, none_at, or_none, test_of_none}
use Rattle.rbc_price.proofs.ShapeLemmas.{IsShaped, shaped, has_shape_of}
use Rattle.rbc_model.proofs.ScaleLemmas.{some_unit}

no_steps : (rows : List (List ℕ)) (i : ℕ) → table_at rows 0 i ≡ 0
no_steps rows zero = refl
no_steps rows (suc i) = refl

-- ---- the tests of a check, one after the other

demanded : (test : Bool) (reason : Reason) (rest : Result (Unit {0}) Reason) → demand test reason >> rest ≡ Ok tt → (test ≡ true) × (rest ≡ Ok tt)
demanded true reason rest e = (refl, e)
demanded false reason rest e = absurd (cc)

last_demanded : (test : Bool) (reason : Reason) → demand test reason ≡ Ok tt → test ≡ true
last_demanded true reason e = refl
last_demanded false reason e = absurd (cc)

passed : (reason : Option Reason) (rest : Result (Unit {0}) Reason) → unless_some reason >> rest ≡ Ok tt → (reason ≡ None) × (rest ≡ Ok tt)
passed None rest e = (refl, e)
passed (Some reason) rest e = absurd (cc)

no_reason : (reason : Option Reason) → Ok tt ≡ unless_some reason → reason ≡ None
no_reason None e = refl
no_reason (Some reason) e = absurd (cc)

refused : (reason : Reason) (found : Option Reason) (rest : Result (Unit {0}) Reason) → Err reason ≡ unless_some found → Err reason ≡ unless_some found >> rest
refused reason None rest e = absurd (cc)
refused reason (Some found) rest e = e

-- the tests of a check, by what each says
module _ (shape : Bool) (above high : Option Reason) (attained steps : Bool) where
  abbrev checks : Result (Unit {0}) Reason
  checks = demand shape Shape >> (unless_some above >> (unless_some high >> (demand attained NotAttained >> demand steps Steps)))

  module _ (is : shape ≡ true) where
    module _ (below : Ok tt ≡ unless_some above) where
      no_above : above ≡ None
      no_above = no_reason above below

      module _ (low : Ok tt ≡ unless_some high) where
        no_high : high ≡ None
        no_high = no_reason high low

        pub stop_at_loss : attained ≡ false → Err NotAttained ≡ checks
        stop_at_loss a = rw (is, no_above, no_high, a) refl

        pub stop_at_steps : attained ≡ true → steps ≡ false → Err Steps ≡ checks
        stop_at_steps a b = rw (is, no_above, no_high, a, b) refl

        pub all_pass : attained ≡ true → steps ≡ true → Ok tt ≡ checks
        all_pass a b = rw (is, no_above, no_high, a, b) refl

module _ {V : Type 0} (levels : Levels V) (limit : ℕ) (track profile : StepFunction V) (rows : List (List ℕ)) where
  -- ---- no reason: a certificate

  prices_are_low : 1 ≤ limit → length rows ≡ steps_of_use levels limit track rows → IsTrue (list_all (λ row. length row == columns levels limit track rows) rows)
      → first_too_high levels limit track rows ≡ None → IsSoundTable levels (unit_of track.end) limit track.end track.steps rows
  prices_are_low some shape widths none = record { shape = shape; widths = widths; one_step = one_step; more_steps = more_steps }
    where
      low : (j i' i : ℕ) → j < steps_of_use levels limit track rows → 1 ≤ i' → i' ≤ columns levels limit track rows → i < starts_before levels limit track rows j i'
          → table_at rows (suc j) i' ≤ table_at rows j i + step_cost levels (unit_of track.end) limit track.end track.steps i i'
      low j i' i row from column start =
          let in_row = none_at 0 (steps_of_use levels limit track rows) (λ j. first_from 1 (columns levels limit track rows) (λ i'. first_from 0 (starts_before levels limit track rows j i') (too_high_at levels limit track rows j i'))) none j (omega arith) (omega arith) in
          let in_column = none_at 1 (columns levels limit track rows) (λ i'. first_from 0 (starts_before levels limit track rows j i') (too_high_at levels limit track rows j i')) in_row i' from (omega arith) in
          let here = none_at 0 (starts_before levels limit track rows j i') (too_high_at levels limit track rows j i') in_column i (omega arith) (omega arith) in
          leb-true (table_at rows (suc j) i') (table_at rows j i + step_cost levels (unit_of track.end) limit track.end track.steps i i')
          (test_of_none (nat_le (table_at rows (suc j) i') (table_at rows j i + step_cost levels (unit_of track.end) limit track.end track.steps i i'))
          (Inequality (suc j) (break_at levels (unit_of track.end) limit track.end track.steps i) (break_at levels (unit_of track.end) limit track.end track.steps i')) here)

      one_step : (i : ℕ) → i ≤ columns levels limit track rows → table_at rows 1 i ≤ step_cost levels (unit_of track.end) limit track.end track.steps 0 i
      one_step zero column = omega arith
      one_step (suc i) column =
          let here = low 0 (suc i) 0 (omega arith) (omega arith) column (omega arith) in
          let none = no_steps rows 0 in
          omega arith

      more_steps : (j i i' : ℕ) → 1 ≤ j → j < steps_of_use levels limit track rows → i < i' → i' ≤ columns levels limit track rows
          → table_at rows (suc j) i' ≤ table_at rows j i + step_cost levels (unit_of track.end) limit track.end track.steps i i'
      more_steps zero i i' first row on column = absurd (omega arith)
      more_steps (suc j) i i' first row on column = low (suc j) i' i row (omega arith) column on

  profile_fits : IsProfile levels 1 MOST_STEPS profile.end profile.steps → IsShaped levels limit track profile rows → length profile.steps ≤ limit → first_above levels track profile ≡ None
      → Fits levels (unit_of track.end) limit track.end (value_at track.steps) profile.steps
  profile_fits is s few none = record {
    profile = record { starts = subst (λ n. IsStepList n profile.steps) (sym s.end) is.starts; in_units = s.in_units; few = few; values = is.values };
    below = λ x h. test_of_none (is_within levels (value_at track.steps x) (value_at profile.steps x)) (Above x)
        (none_at 0 track.end (above_at levels track profile) none x (omega arith) (omega arith));
  }

  pub certificate_of_check : IsProfile levels 1 MOST_STEPS profile.end profile.steps → price_check levels limit track profile rows ≡ Ok tt → IsCertificate levels limit track profile rows
  certificate_of_check is e =
      let shape = demanded (has_shape levels limit track profile rows) Shape _ e in
      let above = passed (first_above levels track profile) _ shape.1 in
      let high = passed (first_too_high levels limit track rows) _ above.1 in
      let attained = demanded (lost levels limit track profile rows == last_price levels limit track rows) NotAttained _ high.1 in
      let steps = last_demanded (nat_le (length profile.steps) limit) Steps attained.1 in
      let s = shaped levels limit track profile rows shape.0 in
      record {
        some = s.some;
        few = s.few;
        end = s.end;
        whole = s.whole;
        fits = profile_fits is s (leb-true (length profile.steps) limit steps) above.0;
        sound = prices_are_low s.some s.count s.wide high.0;
        attained = eqb-true (lost levels limit track profile rows) (last_price levels limit track rows) attained.0;
      }

  -- ---- a certificate: no reason

  module _ (c : IsCertificate levels limit track profile rows) where
    low_at : (j i' i : ℕ) → j < steps_of_use levels limit track rows → 1 ≤ i' → i' ≤ columns levels limit track rows → i < starts_before levels limit track rows j i'
        → too_high_at levels limit track rows j i' i ≡ None
    low_at zero i' i row from column start =
        let first : i ≡ 0 = omega arith in
        let sound = c.sound.one_step i' column in
        let none : table_at rows 0 i ≡ 0 = no_steps rows i in
        let same : step_cost levels (unit_of track.end) limit track.end track.steps i i' ≡ step_cost levels (unit_of track.end) limit track.end track.steps 0 i' = ap (λ k. step_cost levels (unit_of track.end) limit track.end track.steps k i') first in
        or_none (nat_le (table_at rows 1 i') (table_at rows 0 i + step_cost levels (unit_of track.end) limit track.end track.steps i i'))
        (Inequality 1 (break_at levels (unit_of track.end) limit track.end track.steps i) (break_at levels (unit_of track.end) limit track.end track.steps i'))
        (le-leb (table_at rows 1 i') (table_at rows 0 i + step_cost levels (unit_of track.end) limit track.end track.steps i i') (omega arith))
    low_at (suc j) i' i row from column start =
        let sound = c.sound.more_steps (suc j) i i' (omega arith) row start column in
        or_none (nat_le (table_at rows (suc (suc j)) i') (table_at rows (suc j) i + step_cost levels (unit_of track.end) limit track.end track.steps i i'))
        (Inequality (suc (suc j)) (break_at levels (unit_of track.end) limit track.end track.steps i) (break_at levels (unit_of track.end) limit track.end track.steps i'))
        (le-leb (table_at rows (suc (suc j)) i') (table_at rows (suc j) i + step_cost levels (unit_of track.end) limit track.end track.steps i i') sound)

    none_high : first_too_high levels limit track rows ≡ None
    none_high =
        first_from-none 0 (steps_of_use levels limit track rows) (λ j. first_from 1 (columns levels limit track rows) (λ i'. first_from 0 (starts_before levels limit track rows j i') (too_high_at levels limit track rows j i'))) (λ j a b.
        first_from-none 1 (columns levels limit track rows) (λ i'. first_from 0 (starts_before levels limit track rows j i') (too_high_at levels limit track rows j i')) (λ i' d e.
        first_from-none 0 (starts_before levels limit track rows j i') (too_high_at levels limit track rows j i') (λ i f g.
        low_at j i' i (omega arith) d (omega arith) (omega arith))))

    none_above : first_above levels track profile ≡ None
    none_above = first_from-none 0 track.end (above_at levels track profile) (λ x a b. rw (c.fits.below x (omega arith)) refl)

    pub check_of_certificate : price_check levels limit track profile rows ≡ Ok tt
    check_of_certificate =
        let shape = has_shape_of levels limit track profile rows (record {
          some = c.some;
          few = c.few;
          end = c.end;
          whole = c.whole;
          in_units = c.fits.profile.in_units;
          count = c.sound.shape;
          wide = c.sound.widths;
        }) in
        sym (all_pass (has_shape levels limit track profile rows) (first_above levels track profile) (first_too_high levels limit track rows) (lost levels limit track profile rows == last_price levels limit track rows) (nat_le (length profile.steps) limit)
        shape (ap unless_some (sym none_above)) (ap unless_some (sym none_high))
        (eq-eqb (lost levels limit track profile rows) (last_price levels limit track rows) c.attained) (le-leb (length profile.steps) limit c.fits.profile.few))

    -- and the profile is best
    pub best_of_certificate : IsLawful levels → IsTrackFunction levels track.end track.steps → IsBestProfile levels (unit_of track.end) limit track.end (value_at track.steps) profile.steps
    best_of_certificate lawful function =
        (sound_tables_bound levels lawful (unit_of track.end) limit track.end (some_unit track.end) c.whole track.steps function rows c.sound).best profile.steps c.fits c.attained

  -- what a check that gives this verdict shows
  pub certified_of : (verdict : Result (Unit {0}) Reason) → verdict ≡ price_check levels limit track profile rows
      → IsProfile levels 1 MOST_STEPS profile.end profile.steps → (verdict ≡ Ok tt) ↔ IsCertificate levels limit track profile rows
  certified_of verdict is profile =
      (λ ok. certificate_of_check profile (sym is ∙ ok), λ c. is ∙ check_of_certificate c)

pub on_ok : {P : Type 0} (verdict : Result (Unit {0}) Reason) → (verdict ≡ Ok tt → P) → OnOk verdict P
on_ok (Ok done) shown = shown refl
on_ok (Err reason) shown = tt
