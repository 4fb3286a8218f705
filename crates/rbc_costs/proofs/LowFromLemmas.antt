-- How far back no stretch is lower than one, and what one step has for its least value before.
use Rattle.std.proofs.Common.{◌≡◌, refl, sym, arith, subst, ℕ, suc, ◌+◌, ◌-◌, ◌<◌, ◌≤◌, inl, inr, true, false, Bool, List, length, get_or, Some}
use Rattle.std.specs.List.{slice_get}
use Rattle.rbc_model.specs.Levels.{Levels, IsInRange, IsLawful}
use Rattle.rbc_model.specs.Profiles.{StepFunction, IsTrackFunction}
use Rattle.rbc_table_laws.specs.Breaks.{IsLowest}
use Rattle.rbc_table_laws.specs.Stretches.{breaks_for}
use Rattle.rbc_table_laws.proofs.StretchLemmas.{least_range}
use Rattle.rbc_stretches.specs.declared.stretch.Stretch.{Stretch}
use Rattle.rbc_costs.specs.Stretches.{AreStretches, IsLowFrom}
use Rattle.rbc_costs.proofs.NextBreakLemmas.{fallen, least_there, lower_in_front, near, rises}

pub one_there : {A : Type 0} (xs : List A) (i : ℕ) (a b : A) → slice_get xs i ≡ Some a → slice_get xs i ≡ Some b → a ≡ b
one_there xs i a b one two = cc (one, two)

not_at_most : (b : Bool) → (b ≡ true → ⊥) → b ≡ false
not_at_most true f = absurd (f refl)
not_at_most false f = refl

-- the least value of a whole that is the least of its last part is the least of each part up to the end
pub lowest_part : {V : Type 0} (levels : Levels V) (track : StepFunction V) (from i mid to : ℕ) (v : V) → from ≤ i → i ≤ mid → IsLowest levels track from to v → IsLowest levels track mid to v → IsLowest levels track i to v
lowest_part levels track from i mid to v low high whole last =
    let at = last.low in
    record {
      place = last.place;
      low = omega arith;
      high = last.high;
      there = last.there;
      below = λ x w h k e. whole.below x w (omega arith) k e;
    }

module _ {V : Type 0} (levels : Levels V) (unit : ℕ) (track : StepFunction V) (stretches : List (Stretch × V)) where
  abbrev at : ℕ → ℕ
  at i = get_or (breaks_for unit track) i 0

  -- Up to a break the least value from another one on is no higher than that of the last stretch, and higher than that of
  -- the stretch before.
  pub record IsAhead (end to : ℕ) (new : V) : Type 0 where
    pub value : V
    pub lowest : IsLowest levels track (at end) (at to) value
    pub under : levels.at_most value new ≡ true
    pub lower : (i : ℕ) (before : Stretch × V) → end ≡ suc i → slice_get stretches i ≡ Some before → levels.at_most value before.1 ≡ false

  module _ (are : AreStretches levels unit track stretches) (lawful : IsLawful levels) (function : IsTrackFunction levels track.end track.steps) where
    range : (from to : ℕ) (v : V) → to ≤ length stretches → IsLowest levels track (at from) (at to) v → IsInRange levels v
    range from to v inside l = least_range levels lawful track function (at from) (at to) v (near levels unit track stretches are to inside) l

    -- the last stretch, as far back as none is lower
    pub ahead_first : (first to : ℕ) → 0 < to → to ≤ length stretches → (s : Stretch × V) → slice_get stretches (to - 1) ≡ Some s → IsLowFrom levels unit track stretches (to - 1) first → IsAhead first to s.1
    ahead_first first to some inside s there low =
        let next : to - 1 + 1 ≡ to = omega arith in
        let lowest = subst (λ n. IsLowest levels track (at first) (at n) s.1) next (low.lowest s there) in
        record {
          value = s.1;
          lowest = lowest;
          under = lawful.ordered.reflexive s.1 (range first to s.1 inside lowest);
          lower = λ i before e t. low.lower s before there i e t;
        }

    total_of : (a b : V) → IsInRange levels a → IsInRange levels b → levels.at_most a b ≡ false → levels.at_most b a ≡ true
    total_of a b ra rb e = elim (lawful.ordered.total a b ra rb) [
      | inl up ↦ absurd (cc (up, e))
      | inr down ↦ down
    ]

    -- the last value where no stretch from the one of an index on is lower
    pub lowest_from : (first i k to : ℕ) → to ≡ k + 1 → to ≤ length stretches → first ≤ i → i ≤ k → (s : Stretch × V) → slice_get stretches k ≡ Some s → IsLowFrom levels unit track stretches k first
        → IsLowest levels track (at i) (at to) s.1
    lowest_from first i k to next inside low high s there f =
        lowest_part levels track (at first) (at i) (at k) (at to) s.1 (rises levels unit track stretches are first i low (omega arith)) (rises levels unit track stretches are i k high (omega arith))
        (subst (λ n. IsLowest levels track (at first) (at n) s.1) (sym next) (f.lowest s there))
        (subst (λ n. IsLowest levels track (at k) (at n) s.1) (sym next) (least_there levels unit track stretches are k s there))

    -- a lower stretch in front, as far back as none is lower
    module _ (end from to : ℕ) (some : 0 < end) (high : end ≤ to) (inside : to ≤ length stretches) (new : V) (fits : IsInRange levels new) (a : IsAhead end to new)
        (s : Stretch × V) (there : slice_get stretches (end - 1) ≡ Some s) (f : IsLowFrom levels unit track stretches (end - 1) from) where
      lower : levels.at_most a.value s.1 ≡ false
      lower = a.lower (end - 1) s (omega arith) there

      -- its value is the least up to the end
      pub lowest_ahead : (i : ℕ) → from ≤ i → i < end → IsLowest levels track (at i) (at to) s.1
      lowest_ahead i low h =
          let part = lowest_from from i (end - 1) end (omega arith) (omega arith) low (omega arith) s there f in
          lower_in_front levels lawful track function (at i) (at end) (at to) s.1 a.value s.1 (near levels unit track stretches are to inside) part a.lowest (fallen levels a.value s.1 lower)

      -- the last value is higher
      pub above_ahead : levels.at_most new s.1 ≡ false
      above_ahead =
          let seen = range from end s.1 (omega arith) (lowest_from from from (end - 1) end (omega arith) (omega arith) (omega arith) f.inside s there f) in
          let known = range end to a.value inside a.lowest in
          not_at_most (levels.at_most new s.1) (λ up. absurd (cc (lawful.ordered.transitive a.value new s.1 known fits seen a.under up, lower)))

      pub ahead_next : IsAhead from to new
      ahead_next =
          let low = f.inside in
          let seen = range from end s.1 (omega arith) (lowest_from from from (end - 1) end (omega arith) (omega arith) (omega arith) f.inside s there f) in
          let known = range end to a.value inside a.lowest in
          record {
            value = s.1;
            lowest = lowest_ahead from (omega arith) (omega arith);
            under = lawful.ordered.transitive s.1 a.value new seen known fits (total_of a.value s.1 known seen lower) a.under;
            lower = λ i before e t. f.lower s before there i e t;
          }
