-- No profile that fits loses less than a sound table's last price, wherever its cuts are; so one that loses just that is best.
use Rattle.std.proofs.Common.{◌≡◌, arith, ℕ, ◌%◌, ◌<◌, ◌≤◌, inl, inr, List, [], ◌∷◌, length}
use Rattle.std.proofs.lemmas.Bool.{cases_lt}
use Rattle.rbc_model.specs.Levels.{Levels, IsLawful}
use Rattle.rbc_model.specs.Profiles.{value_at, loss, IsTrackFunction, Fits, IsBestProfile}
use Rattle.rbc_model.specs.PriceTables.{table_at, row_count, stretch_count, step_cost, break_at, IsSoundTable}
use Rattle.rbc_table_laws.proofs.WayLemmas.{Reach, last_at_most, at_most_way}
use Rattle.rbc_table_laws.proofs.ChainLemmas.{reach_of_profile}
use Rattle.rbc_table_laws.proofs.BreakLemmas.{covered_of, are_breaks}

-- a way of at most k steps is one of at most `limit`, if that is no fewer
reach_few : (cost : ℕ → ℕ → ℕ) (k limit i price : ℕ) → k ≤ limit → Reach cost k i price → Reach cost limit i price
reach_few cost k limit i price h r = let few = r.1 in (r.0, omega arith, r.2)

module _ {V : Type 0} (levels : Levels V) (lawful : IsLawful levels) (unit limit n : ℕ) (some : 0 < unit) (whole : n % unit ≡ 0)
    (runs : List (ℕ × V)) (track : IsTrackFunction levels n runs) where
  -- a profile that fits loses no less than some way over the breaks costs, of as many steps or fewer
  pub way_of_profile : (steps : List (ℕ × V)) → Fits levels unit limit n (value_at runs) steps
      → Reach (step_cost levels unit limit n runs) (length steps) (stretch_count levels unit limit n runs) (loss levels n (value_at runs) steps)
  way_of_profile steps fits =
      reach_of_profile levels unit limit n (value_at runs) (stretch_count levels unit limit n runs) (break_at levels unit limit n runs) lawful
      (covered_of levels lawful n runs track) (are_breaks levels lawful unit limit n some whole runs track) steps fits

  module _ (rows : List (List ℕ)) (sound : IsSoundTable levels unit limit n runs rows) where
    -- the last price of all
    pub price_at_most_loss : (steps : List (ℕ × V)) → Fits levels unit limit n (value_at runs) steps
        → table_at rows (row_count levels unit limit n runs) (stretch_count levels unit limit n runs) ≤ loss levels n (value_at runs) steps
    price_at_most_loss steps fits =
        last_at_most levels unit limit n runs rows sound (loss levels n (value_at runs) steps)
        (reach_few (step_cost levels unit limit n runs) (length steps) limit (stretch_count levels unit limit n runs) (loss levels n (value_at runs) steps) fits.profile.few (way_of_profile steps fits))

    -- and a row's, where the steps are as few as its number
    pub row_price_at_most_loss : (steps : List (ℕ × V)) → Fits levels unit limit n (value_at runs) steps → (j : ℕ) → length steps ≤ j → j ≤ row_count levels unit limit n runs
        → table_at rows j (stretch_count levels unit limit n runs) ≤ loss levels n (value_at runs) steps
    row_price_at_most_loss steps fits j few row =
        let way = way_of_profile steps fits in
        let fewer = way.1 in
        at_most_way levels unit limit n runs rows sound way.0 j (stretch_count levels unit limit n runs) (loss levels n (value_at runs) steps) (omega arith) row (omega arith) way.2

    pub best_of_price : (steps : List (ℕ × V)) → Fits levels unit limit n (value_at runs) steps
        → loss levels n (value_at runs) steps ≡ table_at rows (row_count levels unit limit n runs) (stretch_count levels unit limit n runs)
        → IsBestProfile levels unit limit n (value_at runs) steps
    best_of_price steps fits price = record {
      fits = fits;
      least = λ other also. let theirs = price_at_most_loss other also in omega arith;
    }

    some_step : (steps : List (ℕ × V)) → Fits levels unit limit n (value_at runs) steps → 1 ≤ length steps
    some_step [] fits = let none = fits.profile.starts.rising in absurd (cc)
    some_step (step ∷ later) fits = omega arith

    -- where the rows before have higher last prices, no best profile has fewer steps
    pub fewest_of_rows : (steps : List (ℕ × V)) → Fits levels unit limit n (value_at runs) steps
        → loss levels n (value_at runs) steps ≡ table_at rows (row_count levels unit limit n runs) (stretch_count levels unit limit n runs)
        → length steps ≤ row_count levels unit limit n runs
        → ((j : ℕ) → 1 ≤ j → j < length steps → loss levels n (value_at runs) steps < table_at rows j (stretch_count levels unit limit n runs))
        → (other : List (ℕ × V)) → IsBestProfile levels unit limit n (value_at runs) other → length steps ≤ length other
    fewest_of_rows steps fits price few higher other best =
        elim (cases_lt (length other) (length steps)) [
          | inl fewer ↦
              let no_more = best.least steps fits in
              let theirs = row_price_at_most_loss other best.fits (length other) (omega arith) (omega arith) in
              let above = higher (length other) (some_step other best.fits) fewer in
              absurd (omega arith)
          | inr h ↦ h
        ]
