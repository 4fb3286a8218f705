-- The least value of a track between two of its breaks, and what a step with its floor costs there.
use Rattle.std.proofs.Common.{◌≡◌, ap, ◌∙◌, arith, ℕ, ◌+◌, ◌-◌, ◌<◌, ◌≤◌, List, length, get_or, Some}
use Rattle.std.specs.List.{slice_get}
use Rattle.std.proofs.lemmas.Option.{slice_get_within}
use Rattle.rbc_model.specs.Levels.{Levels, IsInRange, IsLawful}
use Rattle.rbc_model.specs.Profiles.{StepFunction, IsTrackFunction, value_at}
use Rattle.rbc_model.specs.PriceTables.{least_value, cost}
use Rattle.rbc_table_laws.specs.Breaks.{AreBreaks, IsLowest, IsBelowAll, lost_below}
use Rattle.rbc_table_laws.proofs.LeastLemmas.{IsLeast, least_between, cost_is, in_range_at}
use Rattle.rbc_table_laws.proofs.BreakLemmas.{covered_of}

module _ {V : Type 0} (levels : Levels V) (lawful : IsLawful levels) (track : StepFunction V) (function : IsTrackFunction levels track.end track.steps)
    (breaks : List ℕ) (are : AreBreaks track breaks) where
  pub range_at : (x : ℕ) (v : V) → x < track.end → value_at track.steps x ≡ Some v → IsInRange levels v
  range_at x v h there = in_range_at levels track.end (value_at track.steps) lawful (covered_of levels lawful track.end track.steps function) x v h there

  -- the run of an index
  module _ (i : ℕ) (run : ℕ × V) (there : slice_get track.steps i ≡ Some run) where
    pub inside : i < length track.steps
    inside = slice_get_within track.steps i run there

    pub same_value : (x : ℕ) (v : V) → get_or breaks i 0 ≤ x → x < get_or breaks (i + 1) 0 → value_at track.steps x ≡ Some v → run.1 ≡ v
    same_value x v low high e = let f = are.flat i x run there low high in cc

  -- the floor of the least value may be given
  module _ (from to : ℕ) (least : V) (end : to ≤ track.end) (l : IsLowest levels track from to least) where
    pub least_in_range : IsInRange levels least
    least_in_range = let high = l.high in range_at l.place least (omega arith) l.there

    pub floor_in_range : IsInRange levels (levels.floor least)
    floor_in_range = (lawful.floor_is_below least least_in_range).0

    pub floor_below : IsBelowAll levels track from to (levels.floor least)
    floor_below = λ x v low high at.
        let floor = lawful.floor_is_below least least_in_range in
        lawful.ordered.transitive (levels.floor least) least v floor.0 least_in_range (range_at x v (omega arith) at) floor.2 (l.below x v low high at)

    least_there : IsLeast levels track.end (value_at track.steps) from (to - from)
    least_there =
        let low = l.low in
        let high = l.high in
        least_between levels track.end (value_at track.steps) lawful (covered_of levels lawful track.end track.steps function) from to (omega arith) end

    same_least : (other : IsLeast levels track.end (value_at track.steps) from (to - from)) → other.least ≡ least
    same_least other =
        let low = l.low in
        let high = l.high in
        let placed = other.placed in
        let range = range_at (from + other.place) other.least (omega arith) other.there in
        let at : value_at track.steps (from + (l.place - from)) ≡ Some least = ap (value_at track.steps) (omega arith) ∙ l.there in
        lawful.ordered.antisymmetric other.least least range least_in_range (other.below (l.place - from) (omega arith) least at)
        (l.below (from + other.place) other.least (omega arith) (omega arith) other.there)

    pub least_value_is : least_value levels (value_at track.steps) from (to - from) ≡ Some least
    least_value_is = least_there.is ∙ ap Some (same_least least_there)

    -- what its floor loses there is what a step costs
    pub lost_by_floor : lost_below levels track (levels.floor least) from + cost levels (value_at track.steps) from to ≡ lost_below levels track (levels.floor least) to
    lost_by_floor =
        let low = l.low in
        let high = l.high in
        let is = cost_is levels track.end (value_at track.steps) lawful (covered_of levels lawful track.end track.steps function) from to (omega arith) least_there in
        let floors : levels.floor least_there.least ≡ levels.floor least = ap levels.floor (same_least least_there) in
        let a : lost_below levels track (levels.floor least_there.least) from ≡ lost_below levels track (levels.floor least) from = ap (λ g. lost_below levels track g from) floors in
        let b : lost_below levels track (levels.floor least_there.least) to ≡ lost_below levels track (levels.floor least) to = ap (λ g. lost_below levels track g to) floors in
        omega arith

    pub lowest_cost : (price : ℕ) → lost_below levels track (levels.floor least) from + price ≡ lost_below levels track (levels.floor least) to
        → price ≡ cost levels (value_at track.steps) from to
    lowest_cost price e = let is = lost_by_floor in omega arith
