-- Of two steps that meet between two breaks, where the track has one value, either both have one value, and are one
-- step, or the higher one takes from the lower one up to a break or all of it. So some profile does better.
use Rattle.std.proofs.Common.{◌≡◌, refl, ap, sym, arith, subst, ℕ, suc, ◌+◌, ◌-◌, ◌%◌, ◌<◌, ◌≤◌, ◌⊎◌, inl, inr, Bool, true, false, List, ◌∷◌, length, Option, Some}
use Rattle.std.proofs.lemmas.Bool.{cases_lt}
use Rattle.rbc_model.specs.Levels.{Levels, IsInRange, IsAtMost, IsLawful, is_below}
use Rattle.rbc_model.specs.Profiles.{price_at}
use Rattle.rbc_model.proofs.RunLemmas.{IsCovered}
use Rattle.rbc_table_laws.proofs.SumLemmas.{sum_rises}
use Rattle.rbc_table_laws.proofs.LeastLemmas.{spent, IsGiven, in_range_at}
use Rattle.rbc_table_laws.proofs.TailLemmas.{IsTail}
use Rattle.rbc_table_laws.proofs.ChainLemmas.{AreBreaksInUnits, under_there, cheaper_of, flat_of}

module _ {V : Type 0} (levels : Levels V) (unit limit n : ℕ) (track : ℕ → Option V) where
  -- Other steps from place x on: they lose no more and are no more, and one of the two is less.
  pub record IsBetter (x : ℕ) (steps : List (ℕ × V)) (price : ℕ) : Type 0 where
    pub other : List (ℕ × V)
    pub low : ℕ
    pub tail : IsTail levels unit limit n track x other low
    pub cheap : low ≤ price
    pub short : length other ≤ length steps
    pub less : low + length other < price + length steps

  pub better_on : (x : ℕ) (step : ℕ × V) (later : List (ℕ × V)) (price : ℕ) → (t : IsTail levels unit limit n track x (step ∷ later) price)
      → IsBetter t.0 later t.1 → IsBetter x (step ∷ later) price
  better_on x step later price t b =
      let up = t.3 in
      let sum = t.6 in
      let more = sum_rises x t.0 (λ y. price_at levels (track y) (Some step.1)) (omega arith) in
      let cheap = b.cheap in
      let short = b.short in
      let less = b.less in
      record {
        other = step ∷ b.other;
        low = price - (t.1 - b.low);
        tail = (t.0, b.low, t.2, t.3, t.4, t.5, omega arith, b.tail);
        cheap = omega arith;
        short = omega arith;
        less = omega arith;
      }

  -- two steps that meet at place y
  module _ (x y z rest price : ℕ) (first second : V) (later : List (ℕ × V)) (up : x < y) (on : y < z) (cut : x % unit ≡ 0)
      (given : IsGiven levels n track first x y) (then : IsGiven levels n track second y z)
      (sum : rest + spent levels n track second z + spent levels n track first y ≤ price + spent levels n track first x + spent levels n track second y)
      (tail : IsTail levels unit limit n track z later rest) where
    -- one step in their place
    one_step : (start : ℕ) (v : V) → IsGiven levels n track v x z → rest + spent levels n track v z ≤ price + spent levels n track v x → IsBetter x ((x, first) ∷ (y, second) ∷ later) price
    one_step start v all loses = record {
      other = (x, v) ∷ later;
      low = price;
      tail = (z, rest, refl, omega arith, cut, all, loses, tail);
      cheap = omega arith;
      short = omega arith;
      less = omega arith;
    }

    -- two that meet elsewhere
    two_steps : (e : ℕ) → x < e → e < z → e % unit ≡ 0 → IsGiven levels n track first x e → IsGiven levels n track second e z
        → rest + spent levels n track second z + spent levels n track first e < price + spent levels n track first x + spent levels n track second e
        → IsBetter x ((x, first) ∷ (y, second) ∷ later) price
    two_steps e up_to on_from whole g h loses =
        let a = sum_rises x e (λ k. price_at levels (track k) (Some first)) (omega arith) in
        let b = sum_rises e z (λ k. price_at levels (track k) (Some second)) (omega arith) in
        record {
          other = (x, first) ∷ (e, second) ∷ later;
          low = price - 1;
          tail = (e, rest + spent levels n track second z - spent levels n track second e, refl, up_to, cut, g, omega arith, (z, rest, refl, on_from, whole, h, omega arith, tail));
          cheap = omega arith;
          short = omega arith;
          less = omega arith;
        }

    both_given : first ≡ second → IsGiven levels n track first x z
    both_given same = record {
      in_range = given.in_range;
      expressible = given.expressible;
      under = λ k l h u there. elim (cases_lt k y) [
        | inl before ↦ given.under k l before u there
        | inr after ↦ subst (λ v. IsAtMost levels v u) (sym same) (then.under k after h u there)
      ];
    }

    -- they have one value
    when_same : first ≡ second → IsBetter x ((x, first) ∷ (y, second) ∷ later) price
    when_same same =
        let here : spent levels n track second y ≡ spent levels n track first y = ap (λ v. spent levels n track v y) (sym same) in
        let there : spent levels n track second z ≡ spent levels n track first z = ap (λ v. spent levels n track v z) (sym same) in
        one_step x first (both_given same) (omega arith)

    module _ (m : ℕ) (break : ℕ → ℕ) (lawful : IsLawful levels) (covered : IsCovered levels lawful n track) (are : AreBreaksInUnits levels unit limit n track m break)
        (whole : (i : ℕ) → i < m → break i % unit ≡ 0) (i : ℕ) (stretch : i < m) (low : break i < y) (high : y < break (suc i)) (inside : z ≤ n)
        (t : V) (one : (k : ℕ) → break i ≤ k → k < break (suc i) → track k ≡ Some t) where
      first_under : IsAtMost levels first t
      first_under =
          given.under (y - 1) (omega arith) (omega arith) t (one (y - 1) (omega arith) (omega arith))

      second_under : IsAtMost levels second t
      second_under = then.under y (omega arith) (omega arith) t (one y (omega arith) (omega arith))

      t_in_range : IsInRange levels t
      t_in_range = in_range_at levels n track lawful covered y t (omega arith) (one y (omega arith) (omega arith))

      -- the higher of two values loses less from metre to metre
      strictly : (v w : V) → levels.price t v < levels.price t w → (k l : ℕ) → break i ≤ k → k < l → l ≤ break (suc i)
          → spent levels n track v l + spent levels n track w k < spent levels n track w l + spent levels n track v k
      strictly v w less k l from rises to =
          let here : price_at levels (track k) (Some v) < price_at levels (track k) (Some w) = (let at = one k from (omega arith) in rw at less) in
          let behind = cheaper_of levels unit limit n track m break i t one v w (omega arith) (suc k) l (omega arith) (omega arith) to in
          omega arith

      -- the second value is higher: it goes back to the break, or to the first start
      when_second : levels.price t second < levels.price t first → IsBetter x ((x, first) ∷ (y, second) ∷ later) price
      when_second less =
          let back = (flat_of levels unit limit n track m break i t one).back second y z (omega arith) high on then in
          elim (cases_lt x (break i)) [
            | inl before ↦
                let gain = strictly second first less (break i) y (omega arith) low (omega arith) in
                two_steps (break i) before (omega arith) (whole i stretch)
                (record { in_range = given.in_range; expressible = given.expressible; under = λ k l h u there. given.under k l (omega arith) u there }) back (omega arith)
            | inr after ↦
                let gain = strictly second first less x y after up (omega arith) in
                one_step x second (record { in_range = back.in_range; expressible = back.expressible; under = λ k l h u there. back.under k (omega arith) h u there }) (omega arith)
          ]

      not_last : break (suc i) < n → (suc i < m) ⊎ (m ≤ suc i) → suc i < m
      not_last h (inl l) = l
      not_last h (inr l) =
          let last = are.last in
          let is : suc i ≡ m = omega arith in
          let same : break (suc i) ≡ break m = ap break is in
          absurd (omega arith)

      -- the first value is higher: it goes on to the break, or to the second end
      when_first : levels.price t first < levels.price t second → IsBetter x ((x, first) ∷ (y, second) ∷ later) price
      when_first less = elim (cases_lt (break (suc i)) z) [
        | inl before ↦
            let gain = strictly first second less y (break (suc i)) (omega arith) high (omega arith) in
            let end = not_last (omega arith) (cases_lt (suc i) m) in
            two_steps (break (suc i)) (omega arith) before (whole (suc i) end) (go_on (break (suc i)) (omega arith) (omega arith))
            (record { in_range = then.in_range; expressible = then.expressible; under = λ k l h u there. then.under k (omega arith) h u there }) (omega arith)
        | inr after ↦
            let gain = strictly first second less y z (omega arith) on after in
            one_step x first (go_on z (omega arith) after) (omega arith)
      ]
        where
          go_on : (e : ℕ) → y < e → e ≤ break (suc i) → IsGiven levels n track first x e
          go_on e above below = record {
            in_range = given.in_range;
            expressible = given.expressible;
            under = λ k l h u there. elim (cases_lt k y) [
              | inl before ↦ given.under k l before u there
              | inr after ↦
                  under_there levels unit limit n track m break i t one first u (y - 1) k (omega arith) (omega arith) (omega arith) (omega arith)
                  (λ w at. given.under (y - 1) (omega arith) (omega arith) w at) there
            ];
          }

      by_order : (up_order down_order : Bool) → levels.at_most first second ≡ up_order → levels.at_most second first ≡ down_order → IsBetter x ((x, first) ∷ (y, second) ∷ later) price
      by_order true true e f = when_same (lawful.ordered.antisymmetric first second given.in_range then.in_range e f)
      by_order true false e f =
          let strict : is_below levels first second ≡ true = rw (e, f) refl in
          when_second (lawful.price_falls t first second t_in_range given.in_range then.in_range strict second_under)
      by_order false true e f =
          let strict : is_below levels second first ≡ true = rw (f, e) refl in
          when_first (lawful.price_falls t second first t_in_range then.in_range given.in_range strict first_under)
      by_order false false e f = elim (lawful.ordered.total first second given.in_range then.in_range) [ inl h ↦ absurd (cc) | inr h ↦ absurd (cc) ]

      pub better_at_cut : IsBetter x ((x, first) ∷ (y, second) ∷ later) price
      better_at_cut = by_order (levels.at_most first second) (levels.at_most second first) refl refl
