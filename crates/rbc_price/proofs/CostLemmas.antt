-- What one step costs between two metres, stretch by stretch.
use Rattle.std.proofs.Common.{◌≡◌, arith, ℕ, ◌+◌, ◌*◌, ◌≤◌}
use Rattle.rbc_model.specs.Levels.{Levels, IsInRange, IsAtMost, IsLawful}
use Rattle.rbc_model.specs.Profiles.{StepFunction, IsTrackFunction, value_at}
use Rattle.rbc_model.specs.PriceTables.{cost}
use Rattle.rbc_table_laws.specs.Breaks.{IsLowest, IsBelowAll, lost_below}
use Rattle.rbc_table_laws.proofs.StretchLemmas.{floor_range, floor_under, below_part, cost_is, first_lowest, second_lowest}
use Rattle.rbc_price.specs.Costs.{IsCostAt}

module _ {V : Type 0} (levels : Levels V) (lawful : IsLawful levels) (track : StepFunction V) (function : IsTrackFunction levels track.end track.steps) where
  pub cost_at : (from to : ℕ) (least : V) (price : ℕ) → to ≤ track.end → IsCostAt levels track from to least price → price ≡ cost levels (value_at track.steps) from to
  cost_at from to least price end c = cost_is levels lawful track function from to least end c.lowest price c.lost

  -- ---- one stretch more behind: its least value is no lower

  module _ (from mid to : ℕ) (least value : V) (price : ℕ) (end : to ≤ track.end) (c : IsCostAt levels track from mid least price) (l : IsLowest levels track mid to value)
      (low : IsAtMost levels least value) where
    lowest_on : IsLowest levels track from to least
    lowest_on = first_lowest levels lawful track function from mid to least value end c.lowest l low

    pub behind_range : IsInRange levels (levels.floor least)
    behind_range = floor_range levels lawful track function from to least end lowest_on

    pub behind_below : IsBelowAll levels track mid to (levels.floor least)
    behind_below =
        let low = c.lowest.low in
        let high = c.lowest.high in
        below_part levels lawful track function from to mid to (levels.floor least) (omega arith) (omega arith) (floor_under levels lawful track function from to least end lowest_on)

    pub behind : (more : ℕ) → lost_below levels track (levels.floor least) mid + more ≡ lost_below levels track (levels.floor least) to
        → mid * 1000000 + more ≤ to * 1000000 → IsCostAt levels track from to least (price + more)
    behind more lost bound =
        let before = c.lost in
        let before_bound = c.bound in
        record { lowest = lowest_on; lost = omega arith; bound = omega arith }

  -- ---- one stretch more in front

  module _ (from mid to : ℕ) (least value : V) (price : ℕ) (end : to ≤ track.end) (c : IsCostAt levels track mid to least price) (l : IsLowest levels track from mid value)
      (low : IsAtMost levels least value) where
    lowest_more : IsLowest levels track from to least
    lowest_more = second_lowest levels lawful track function from mid to value least end l c.lowest low

    pub front_range : IsInRange levels (levels.floor least)
    front_range = floor_range levels lawful track function from to least end lowest_more

    pub front_below : IsBelowAll levels track from mid (levels.floor least)
    front_below =
        let low = c.lowest.low in
        let high = c.lowest.high in
        below_part levels lawful track function from to from mid (levels.floor least) (omega arith) (omega arith) (floor_under levels lawful track function from to least end lowest_more)

    pub in_front : (more : ℕ) → lost_below levels track (levels.floor least) from + more ≡ lost_below levels track (levels.floor least) mid
        → from * 1000000 + more ≤ mid * 1000000 → IsCostAt levels track from to least (price + more)
    in_front more lost bound =
        let behind_it = c.lost in
        let behind_bound = c.bound in
        record { lowest = lowest_more; lost = omega arith; bound = omega arith }
