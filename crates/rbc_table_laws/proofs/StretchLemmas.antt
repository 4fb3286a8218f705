-- Stretches of a track between any two metres: their least values and what is lost there, put together from parts of runs.
use Rattle.std.proofs.Common.{◌≡◌, refl, ap, sym, ◌∙◌, arith, subst, ℕ, zero, suc, ◌+◌, ◌-◌, ◌*◌, ◌<◌, ◌≤◌, inl, inr, Bool, true, false, List, length, get_or, Option, Some, if◌then◌else◌}
use Rattle.std.proofs.Math.Nat.{mul-le-mul_left}
use Rattle.std.proofs.lemmas.Bool.{cases_lt}
use Rattle.rbc_model.specs.Levels.{Levels, IsInRange, IsAtMost, IsLawful}
use Rattle.rbc_model.specs.Profiles.{StepFunction, IsTrackFunction, value_at, price_at}
use Rattle.rbc_model.specs.PriceTables.{least_value, cost, stretch_count}
use Rattle.rbc_table_laws.specs.Breaks.{AreBreaks, breaks_in, IsLowest, IsBelowAll, lost_below}
use Rattle.rbc_table_laws.specs.Stretches.{AreBreaksFor, IsPart}
use Rattle.rbc_table_laws.proofs.SumLemmas.{sum_from, sum_of_same}
use Rattle.rbc_table_laws.proofs.LeastLemmas.{other_lower}
use Rattle.rbc_table_laws.proofs.TrackBreakLemmas.{in_track, up_to_end}
use Rattle.rbc_table_laws.proofs.LowestValueLemmas as by_run

module _ {V : Type 0} (levels : Levels V) (lawful : IsLawful levels) (track : StepFunction V) (function : IsTrackFunction levels track.end track.steps) where
  of_track : AreBreaks track (breaks_in track)
  of_track = in_track levels track.end track.steps function

  -- a value of the track is in range
  pub in_range_at : (x : ℕ) (v : V) → x < track.end → value_at track.steps x ≡ Some v → IsInRange levels v
  in_range_at = by_run.range_at levels lawful track function (breaks_in track) of_track

  -- ---- the least value from one metre up to another

  module _ (from to : ℕ) (least : V) (end : to ≤ track.end) (l : IsLowest levels track from to least) where
    pub least_range : IsInRange levels least
    least_range = by_run.least_in_range levels lawful track function (breaks_in track) of_track from to least end l

    -- its floor may be given
    pub floor_range : IsInRange levels (levels.floor least)
    floor_range = by_run.floor_in_range levels lawful track function (breaks_in track) of_track from to least end l

    pub floor_under : IsBelowAll levels track from to (levels.floor least)
    floor_under = by_run.floor_below levels lawful track function (breaks_in track) of_track from to least end l

    pub least_is : least_value levels (value_at track.steps) from (to - from) ≡ Some least
    least_is = by_run.least_value_is levels lawful track function (breaks_in track) of_track from to least end l

    -- what its floor loses there is what one step costs
    pub cost_is : (price : ℕ) → lost_below levels track (levels.floor least) from + price ≡ lost_below levels track (levels.floor least) to
        → price ≡ cost levels (value_at track.steps) from to
    cost_is = by_run.lowest_cost levels lawful track function (breaks_in track) of_track from to least end l

    pub lost_is : lost_below levels track (levels.floor least) from + cost levels (value_at track.steps) from to ≡ lost_below levels track (levels.floor least) to
    lost_is = by_run.lost_by_floor levels lawful track function (breaks_in track) of_track from to least end l

  -- what is below the metres of a stretch is below the metres of a part of it
  pub below_part : (from to low high : ℕ) (given : V) → from ≤ low → high ≤ to → IsBelowAll levels track from to given → IsBelowAll levels track low high given
  below_part from to low high given a b below = λ x v from_low to_high there. below x v (omega arith) (omega arith) there

  -- ---- a part of one run

  module _ (edges : List ℕ) (are : AreBreaks track edges) (r : ℕ) (run : ℕ × V) (from to : ℕ) (p : IsPart track edges r run from to) where
    pub value_there : (x : ℕ) → from ≤ x → x < to → value_at track.steps x ≡ Some run.1
    value_there x low high = let begins = p.low in let stops = p.high in are.flat r x run p.there (omega arith) (omega arith)

    pub part_end : to ≤ track.end
    part_end =
        let stops = p.high in
        let inside = by_run.inside levels lawful track function edges are r run p.there in
        let last = up_to_end track edges are (r + 1) (omega arith) in
        omega arith

    pub part_range : IsInRange levels run.1
    part_range = let some = p.some in let end = part_end in in_range_at from run.1 (omega arith) (value_there from (omega arith) some)

    same_value : (v w : V) → Some v ≡ Some w → v ≡ w
    same_value v w e = cc

    -- its value is the least one
    pub lowest_on_part : IsLowest levels track from to run.1
    lowest_on_part = record {
      place = from;
      low = omega arith;
      high = p.some;
      there = value_there from (omega arith) p.some;
      below = λ x v low high at.
          let is : Some run.1 ≡ Some v = sym_of (value_there x low high) at in
          subst (λ w. IsAtMost levels run.1 w) (same_value run.1 v is) (lawful.ordered.reflexive run.1 part_range);
    }
      where
        sym_of : {o : Option V} {v w : V} → o ≡ Some v → o ≡ Some w → Some v ≡ Some w
        sym_of a b = sym a ∙ b

    -- what a value loses on it
    pub lost_on_part : (given : V) → lost_below levels track given from + (to - from) * levels.price run.1 given ≡ lost_below levels track given to
    lost_on_part given =
        let some = p.some in
        let price : ℕ → ℕ = λ y. price_at levels (value_at track.steps y) (Some given) in
        let split = sum_from from to price (omega arith) in
        let on = sum_of_same (to - from) (levels.price run.1 given) (λ x. price (from + x))
        (λ x h. ap (λ o. price_at levels o (Some given)) (value_there (from + x) (omega arith) (omega arith))) in
        omega arith

    pub part_priced : (given : V) → IsInRange levels given → IsBelowAll levels track from to given → (metres price : ℕ) → metres ≡ to - from → price ≡ levels.price run.1 given
        → (lost_below levels track given from + metres * price ≡ lost_below levels track given to) × (from * 1000000 + metres * price ≤ to * 1000000)
    part_priced given range below metres price metres_are price_is =
        let some = p.some in
        let bound = lawful.price_is_bounded run.1 given part_range range (below from run.1 (omega arith) some (value_there from (omega arith) some)) in
        let product : metres * price ≤ metres * 1000000 = mul-le-mul_left metres (omega arith) in
        let same : metres * price ≡ (to - from) * levels.price run.1 given = ap (λ k. k * price) metres_are ∙ ap (λ k. (to - from) * k) price_is in
        let lost = lost_on_part given in
        (omega arith, omega arith)

  -- ---- one stretch behind another

  module _ (from mid to : ℕ) (a b : V) (end : to ≤ track.end) (first : IsLowest levels track from mid a) (second : IsLowest levels track mid to b) where
    range_a : IsInRange levels a
    range_a = let low = second.low in let high = second.high in least_range from mid a (omega arith) first

    range_b : IsInRange levels b
    range_b = least_range mid to b end second

    -- the value of the one is the least of both, where it is no higher than the other's
    pub first_lowest : IsAtMost levels a b → IsLowest levels track from to a
    first_lowest h =
        let high = first.high in
        let some = second.low in
        let more = second.high in
        record {
          place = first.place;
          low = first.low;
          high = omega arith;
          there = first.there;
          below = λ x v low high at. elim (cases_lt x mid) [
            | inl before ↦ first.below x v low before at
            | inr after ↦ lawful.ordered.transitive a b v range_a range_b (in_range_at x v (omega arith) at) h (second.below x v after high at)
          ];
        }

    pub second_lowest : IsAtMost levels b a → IsLowest levels track from to b
    second_lowest h =
        let low = first.low in
        let some = first.high in
        let more = second.low in
        let last = second.high in
        record {
          place = second.place;
          low = omega arith;
          high = second.high;
          there = second.there;
          below = λ x v low high at. elim (cases_lt x mid) [
            | inl before ↦ lawful.ordered.transitive b a v range_b range_a (in_range_at x v (omega arith) at) h (first.below x v low before at)
            | inr after ↦ second.below x v after high at
          ];
        }

    lower_by : (test : Bool) → levels.at_most a b ≡ test → IsLowest levels track from to (if test then a else b)
    lower_by true e = first_lowest e
    lower_by false e = second_lowest (other_lower levels lawful a b range_a range_b e)

    -- the lower one of both is the least
    pub lower_lowest : IsLowest levels track from to (if levels.at_most a b then a else b)
    lower_lowest = lower_by (levels.at_most a b) refl

    other_by : (test : Bool) → levels.at_most b a ≡ test → IsLowest levels track from to (if test then b else a)
    other_by true e = second_lowest e
    other_by false e = first_lowest (other_lower levels lawful b a range_b range_a e)

    pub lower_lowest_back : IsLowest levels track from to (if levels.at_most b a then b else a)
    lower_lowest_back = other_by (levels.at_most b a) refl

  -- the least value of both and that of the second
  module _ (from mid to : ℕ) (now last : V) (end : to ≤ track.end) (order : from ≤ mid) (both : IsLowest levels track from to now) (second : IsLowest levels track mid to last) where
    -- where it is higher the least one stands before it
    pub least_before : levels.at_most last now ≡ false → IsLowest levels track from mid now
    least_before e =
        let high = second.low in
        let more = second.high in
        elim (cases_lt both.place mid) [
          | inl before ↦ record {
            place = both.place;
            low = both.low;
            high = before;
            there = both.there;
            below = λ x v low below at. both.below x v low (omega arith) at;
          }
          | inr after ↦ let same = second.below both.place now after both.high both.there in absurd (cc)
        ]

-- ---- breaks by index

module _ {V : Type 0} (unit : ℕ) (track : StepFunction V) (breaks : List ℕ) (are : AreBreaksFor unit track breaks) where
  -- how many stretches lie between them
  pub stretches_for : (levels : Levels V) (limit : ℕ) → stretch_count levels unit limit track.end track.steps ≡ length breaks - 1
  stretches_for levels limit = let same = ap length are.are in omega arith

  breaks_rise_on : (i count : ℕ) → i + count < length breaks → get_or breaks i 0 ≤ get_or breaks (i + count) 0
  breaks_rise_on i zero h = let same : get_or breaks (i + zero) 0 ≡ get_or breaks i 0 = ap (λ k. get_or breaks k 0) (omega arith) in omega arith
  breaks_rise_on i (suc count) h =
      let before = breaks_rise_on i count (omega arith) in
      let up = are.rise (i + count) (omega arith) in
      let same : get_or breaks (i + suc count) 0 ≡ get_or breaks (i + count + 1) 0 = ap (λ k. get_or breaks k 0) (omega arith) in
      omega arith

  pub breaks_rise_to : (i j : ℕ) → i ≤ j → j < length breaks → get_or breaks i 0 ≤ get_or breaks j 0
  breaks_rise_to i j h inside =
      let there = breaks_rise_on i (j - i) (omega arith) in
      let same : get_or breaks (i + (j - i)) 0 ≡ get_or breaks j 0 = ap (λ k. get_or breaks k 0) (omega arith) in
      omega arith

  pub breaks_to_end : (i : ℕ) → i < length breaks → get_or breaks i 0 ≤ track.end
  breaks_to_end i h = let up = breaks_rise_to i (length breaks - 1) (omega arith) (omega arith) in let last = are.last in omega arith
