-- What a step costs at most.
use Rattle.std.proofs.Common.{◌≡◌, refl, ap, arith, ℕ, ◌+◌, ◌-◌, ◌*◌, ◌<◌, ◌≤◌, Some, length, get_or}
use Rattle.std.proofs.Math.Nat.{mul-le-mul_right}
use Rattle.rbc_model.specs.declared.limits.TheConstants.{LONGEST_TRACK}
use Rattle.rbc_model.specs.Levels.{Levels, IsLawful}
use Rattle.rbc_model.specs.Profiles.{StepFunction, IsTrackFunction, value_at, price_at}
use Rattle.rbc_model.specs.PriceTables.{cost}
use Rattle.rbc_table_laws.specs.Stretches.{AreBreaksFor, breaks_for, cost_of_step}
use Rattle.rbc_table_laws.proofs.SumLemmas.{sum_at_most, sum_of_same, sum_from}
use Rattle.rbc_table_laws.proofs.BreakLemmas.{covered_of}
use Rattle.rbc_table_laws.proofs.LeastLemmas.{least_between, floor_given, cost_is}
use Rattle.rbc_table_laws.proofs.StretchLemmas.{breaks_rise_to, breaks_to_end}
use Rattle.rbc_costs.specs.Prices.{ArePricesAtMost}

module _ {V : Type 0} (levels : Levels V) (lawful : IsLawful levels) (track : StepFunction V) (function : IsTrackFunction levels track.end track.steps)
    (most : ℕ) (low : ArePricesAtMost levels most) where
  -- no step costs more than the highest price on each metre
  cost_bounded : (from to : ℕ) → from < to → to ≤ track.end → cost levels (value_at track.steps) from to ≤ (to - from) * most
  cost_bounded from to some end =
      let covered = covered_of levels lawful track.end track.steps function in
      let least = least_between levels track.end (value_at track.steps) lawful covered from to some end in
      let given = floor_given levels track.end (value_at track.steps) lawful covered from to some end least in
      let whole = cost_is levels track.end (value_at track.steps) lawful covered from to some least in
      let split = sum_from from to (λ y. price_at levels (value_at track.steps y) (Some (levels.floor least.least))) (omega arith) in
      let same = sum_of_same (to - from) most (λ x. most) (λ x h. refl) in
      let each = sum_at_most (to - from) (λ x. price_at levels (value_at track.steps (from + x)) (Some (levels.floor least.least))) (λ x. most) (λ x h.
      let c = covered (from + x) (omega arith) in
      let price : price_at levels (value_at track.steps (from + x)) (Some (levels.floor least.least)) ≡ levels.price c.0 (levels.floor least.least) =
      ap (λ o. price_at levels o (Some (levels.floor least.least))) c.1 in
      let bound = low c.0 (levels.floor least.least) c.2 given.in_range (given.under (from + x) (omega arith) (omega arith) c.0 c.1) in
      omega arith) in
      omega arith

  module _ (unit : ℕ) (are : AreBreaksFor unit track (breaks_for unit track)) where
    pub costs_bounded : track.end ≤ LONGEST_TRACK → (total : ℕ) → 100000 * most ≤ total → (i to : ℕ) → i < to → to < length (breaks_for unit track) → cost_of_step levels unit track i to ≤ total
    costs_bounded near total room i to some inside =
        let up = are.rise i (omega arith) in
        let more = breaks_rise_to unit track (breaks_for unit track) are (i + 1) to (omega arith) inside in
        let end = breaks_to_end unit track (breaks_for unit track) are to inside in
        let cost = cost_bounded (get_or (breaks_for unit track) i 0) (get_or (breaks_for unit track) to 0) (omega arith) end in
        let long : (get_or (breaks_for unit track) to 0 - get_or (breaks_for unit track) i 0) * most ≤ 100000 * most = mul-le-mul_right most (omega arith) in
        omega arith
