-- The least value of a track over a stretch, and that no value which may be given there loses less than its floor.
use Rattle.std.proofs.Common.{◌≡◌, refl, ap, sym, ◌∙◌, arith, subst, ℕ, zero, suc, ◌+◌, ◌-◌, ◌<◌, ◌≤◌, inl, inr, Bool, true, false, Option, Some, None, IsTrue}
use Rattle.rbc_model.specs.Levels.{Levels, IsInRange, IsAtMost, IsLawful, is_below}
use Rattle.rbc_model.specs.Profiles.{price_at, sum_below}
use Rattle.rbc_model.specs.PriceTables.{least_value, cost}
use Rattle.rbc_model.proofs.RunLemmas.{IsCovered}
use Rattle.rbc_model.proofs.CountingLemmas.{last_or_below}
use Rattle.rbc_table_laws.proofs.SumLemmas.{sum_at_most, sum_from}

-- of two values one is no higher than the other
pub other_lower : {V : Type 0} (levels : Levels V) → IsLawful levels → (a b : V) → IsInRange levels a → IsInRange levels b → levels.at_most a b ≡ false → IsAtMost levels b a
other_lower levels lawful a b ra rb e = elim (lawful.ordered.total a b ra rb) [ inl h ↦ absurd (cc) | inr h ↦ h ]

module _ {V : Type 0} (levels : Levels V) (n : ℕ) (track : ℕ → Option V) where
  -- what one value loses over the metres before a place
  abbrev pub spent : V → ℕ → ℕ
  spent v x = sum_below x (λ y. price_at levels (track y) (Some v))

  -- a value that can be expressed, and is above the track at no metre between two places
  pub record IsGiven (v : V) (from to : ℕ) : Type 0 where
    pub in_range : IsInRange levels v
    pub expressible : IsTrue (levels.is_expressible v)
    pub under : (x : ℕ) → from ≤ x → x < to → (t : V) → track x ≡ Some t → IsAtMost levels v t

  -- the least value, which is that of one of the metres
  pub record IsLeast (from count : ℕ) : Type 0 where
    pub least : V
    pub is : least_value levels track from count ≡ Some least
    pub place : ℕ
    pub placed : place < count
    pub there : track (from + place) ≡ Some least
    pub below : (x : ℕ) → x < count → (v : V) → track (from + x) ≡ Some v → IsAtMost levels least v

  module _ (lawful : IsLawful levels) (covered : IsCovered levels lawful n track) where
    pub in_range_at : (x : ℕ) (v : V) → x < n → track x ≡ Some v → IsInRange levels v
    in_range_at x v h there =
        let c = covered x h in
        let e = c.1 in
        let same : c.0 ≡ v = cc in
        subst (λ w. IsInRange levels w) same c.2

    at_most_same : (a b v : V) (o : Option V) → IsInRange levels a → o ≡ Some b → o ≡ Some v → a ≡ b → IsAtMost levels a v
    at_most_same a b v o range e f same =
        let is : a ≡ v = cc in
        subst (λ w. IsAtMost levels a w) is (lawful.ordered.reflexive a range)

    least_first : (from : ℕ) → from < n → IsLeast from 1
    least_first from h =
        let c = covered (from + 0) (omega arith) in
        record {
          least = c.0;
          is = c.1;
          place = 0;
          placed = omega arith;
          there = c.1;
          below = λ x l v e.
              let metre : x ≡ 0 = omega arith in
              let at : track (from + 0) ≡ Some v = ap (λ k. track (from + k)) (sym metre) ∙ e in
              at_most_same c.0 c.0 v (track (from + 0)) c.2 c.1 at refl;
        }

    least_more : (from count : ℕ) (here : V) (test : Bool) → from + count < n → (before : IsLeast from count) → track (from + count) ≡ Some here → levels.at_most before.least here ≡ test
        → IsLeast from (suc count)
    least_more from count here true h before there e =
        let below_before = before.below in
        let placed = before.placed in
        record {
          least = before.least;
          is = rw (before.is, there, e) refl;
          place = before.place;
          placed = omega arith;
          there = before.there;
          below = λ x l v at. elim (last_or_below count x l) [
            | inl same ↦
                let is : track (from + count) ≡ Some v = ap (λ k. track (from + k)) (sym same) ∙ at in
                let value : here ≡ v = cc in
                subst (λ w. IsAtMost levels before.least w) value e
            | inr less ↦ before.below x less v at
          ];
        }
    least_more from count here false h before there e =
        let placed = before.placed in
        let range = in_range_at (from + count) here h there in
        let range_before = in_range_at (from + before.place) before.least (omega arith) before.there in
        record {
          least = here;
          is = rw (before.is, there, e) refl;
          place = count;
          placed = omega arith;
          there = there;
          below = λ x l v at. elim (last_or_below count x l) [
            | inl same ↦
                let is : track (from + count) ≡ Some v = ap (λ k. track (from + k)) (sym same) ∙ at in
                at_most_same here here v (track (from + count)) range there is refl
            | inr less ↦
                lawful.ordered.transitive here before.least v range range_before (in_range_at (from + x) v (omega arith) at)
                (other_lower levels lawful before.least here range_before range e) (before.below x less v at)
          ];
        }

    pub least_of : (from count : ℕ) → from + suc count ≤ n → IsLeast from (suc count)
    least_of from zero h = least_first from (omega arith)
    least_of from (suc count) h =
        let before = least_of from count (omega arith) in
        let here = covered (from + suc count) (omega arith) in
        least_more from (suc count) here.0 (levels.at_most before.least here.0) (omega arith) before here.1 refl

    pub least_between : (from to : ℕ) → from < to → to ≤ n → IsLeast from (to - from)
    least_between from to h inside =
        let count : to - from ≡ suc (to - from - 1) = omega arith in
        rw count (least_of from (to - from - 1) (omega arith))

    -- of two values that may be given the higher one loses no more
    price_rises : (v low high : V) (test : Bool) → levels.at_most high low ≡ test → IsInRange levels v → IsInRange levels low → IsInRange levels high
        → IsAtMost levels low high → IsAtMost levels high v → levels.price v high ≤ levels.price v low
    price_rises v low high true e rv rl rh below above =
        let same : high ≡ low = lawful.ordered.antisymmetric high low rh rl e below in
        let prices : levels.price v high ≡ levels.price v low = ap (levels.price v) same in
        omega arith
    price_rises v low high false e rv rl rh below above =
        let strictly : is_below levels low high ≡ true = rw (below, e) refl in
        let falls = lawful.price_falls v low high rv rl rh strictly above in
        omega arith

    pub metre_costs : (o : Option V) (low high : V) → IsInRange levels low → IsInRange levels high → IsAtMost levels low high
        → ((v : V) → o ≡ Some v → IsInRange levels v × IsAtMost levels high v) → price_at levels o (Some high) ≤ price_at levels o (Some low)
    metre_costs None low high rl rh below there = omega arith
    metre_costs (Some v) low high rl rh below there =
        let at = there v refl in
        price_rises v low high (levels.at_most high low) refl at.0 rl rh below at.1

    -- the floor of the least value may be given
    pub floor_given : (from to : ℕ) → from < to → to ≤ n → (l : IsLeast from (to - from)) → IsGiven (levels.floor l.least) from to
    floor_given from to h inside l =
        let placed = l.placed in
        let range = in_range_at (from + l.place) l.least (omega arith) l.there in
        let floor = lawful.floor_is_below l.least range in
        record {
          in_range = floor.0;
          expressible = floor.1;
          under = λ x low high t there.
              let metre : from + (x - from) ≡ x = omega arith in
              let at : track (from + (x - from)) ≡ Some t = ap track metre ∙ there in
              lawful.ordered.transitive (levels.floor l.least) l.least t floor.0 range (in_range_at x t (omega arith) there) floor.2 (l.below (x - from) (omega arith) t at);
        }

    -- and a step costs what it loses
    pub cost_is : (from to : ℕ) → from < to → (l : IsLeast from (to - from)) → cost levels track from to + spent (levels.floor l.least) from ≡ spent (levels.floor l.least) to
    cost_is from to h l =
        let split = sum_from from to (λ y. price_at levels (track y) (Some (levels.floor l.least))) (omega arith) in
        let is : cost levels track from to ≡ sum_below (to - from) (λ x. price_at levels (track (from + x)) (Some (levels.floor l.least))) = rw l.is refl in
        omega arith

    -- no value that may be given between two metres loses less there than a step costs
    pub cost_lowest : (v : V) (from to : ℕ) → from < to → to ≤ n → IsGiven v from to → cost levels track from to + spent v from ≤ spent v to
    cost_lowest v from to h inside given =
        let l = least_between from to h inside in
        let placed = l.placed in
        let range = in_range_at (from + l.place) l.least (omega arith) l.there in
        let floor = floor_given from to h inside l in
        let lower_than_floor = lawful.floor_is_greatest l.least v range given.in_range given.expressible (given.under (from + l.place) (omega arith) (omega arith) l.least l.there) in
        let split = sum_from from to (λ y. price_at levels (track y) (Some v)) (omega arith) in
        let is : cost levels track from to ≡ sum_below (to - from) (λ x. price_at levels (track (from + x)) (Some (levels.floor l.least))) = rw l.is refl in
        let less = sum_at_most (to - from) (λ x. price_at levels (track (from + x)) (Some (levels.floor l.least))) (λ x. price_at levels (track (from + x)) (Some v))
        (λ x k. metre_costs (track (from + x)) v (levels.floor l.least) given.in_range floor.in_range lower_than_floor
        (λ t there. (in_range_at (from + x) t (omega arith) there, floor.under (from + x) (omega arith) (omega arith) t there))) in
        omega arith
