-- A walk over two lists of rows at once, from change to change, and the sum over the metres in between.
use Rattle.std.proofs.Common.{◌≡◌, ℕ, zero, suc, ◌+◌, ◌-◌, ◌*◌, ◌<◌, ◌≤◌, ◌⊎◌, inl, inr, true, List, length, get_or, Option, Some, refl, arith, ap, sym, ◌∙◌, subst, ◌==◌}
use Rattle.std.specs.Int.{from_bool}
use Rattle.std.proofs.Math.Nat.{mul-le-mul_left}
use Rattle.std.proofs.lemmas.Bool.Decides.{eqb_tells}
use Rattle.rbc_model.specs.Levels.{Levels}
use Rattle.rbc_model.specs.Profiles.{value_at, IsStepList, sum_below, price_at, is_within, loss}
use Rattle.rbc_model.proofs.BasicLemmas.{next_or_at_most, next_or_later}
use Rattle.rbc_steps.proofs.PlaceLemmas.{value_at-index, in_turn, first_at_zero, below_end, some_row}

module _ {V : Type 0} (n : ℕ) (rows : List (ℕ × V)) where
  -- the row of index i is the one that holds metre x of n, if there is such a metre
  pub record Holds (i x : ℕ) : Type 0 where
    pub within : x < n → i < length rows
    pub begun : (d : ℕ × V) → x < n → (get_or rows i d).0 ≤ x
    pub later : (k : ℕ) (d : ℕ × V) → i < k → k < length rows → x < (get_or rows k d).0

  -- the row of index i stops at this metre
  pub record Stops (i stop : ℕ) : Type 0 where
    pub near : stop ≤ n
    pub later : (k : ℕ) (d : ℕ × V) → i < k → k < length rows → stop ≤ (get_or rows k d).0
    pub exists : stop < n → i + 1 < length rows
    pub next : (d : ℕ × V) → stop < n → (get_or rows (i + 1) d).0 ≡ stop

  module _ (listed : IsStepList n rows) where
    pub holds_first : Holds 0 0
    holds_first = record {
      within = λ h. (first_at_zero rows listed.rising).0;
      begun = λ d h. omega (arith, (first_at_zero rows listed.rising).1 d);
      later = λ k d h l. omega (arith, in_turn rows 0 k d listed.rising h l);
    }

    more : (i : ℕ) → (i + 1 < length rows) ⊎ (length rows ≤ i + 1)
    more i = grind arith

    stops_before : (i stop : ℕ) (d : ℕ × V) → ((e : ℕ × V) → i + 1 < length rows → stop ≡ (get_or rows (i + 1) e).0) → i + 1 < length rows → Stops i stop
    stops_before i stop d next l = record {
      near = omega (arith, next d l, below_end n rows (i + 1) d listed.inside l);
      later = λ k e h m. elim (next_or_later i k h) [
        | inl same ↦ let start : ℕ → ℕ = λ j. (get_or rows j e).0 in let eq : start k ≡ start (i + 1) = ap start same in omega (arith, next e l, eq)
        | inr after ↦ omega (arith, next e l, in_turn rows (i + 1) k e listed.rising after m)
      ];
      exists = λ h. l;
      next = λ e h. sym (next e l);
    }

    stops_last : (i stop : ℕ) → stop ≡ n → length rows ≤ i + 1 → Stops i stop
    stops_last i stop e l = record {
      near = omega arith;
      later = λ k d h m. absurd (omega arith);
      exists = λ h. absurd (omega arith);
      next = λ d h. absurd (omega arith);
    }

    -- the row goes on
    holds_on : (i x to stop : ℕ) → Holds i x → Stops i stop → x < to → to < stop → Holds i to
    holds_on i x to stop h s a b = record {
      within = λ l. h.within (omega (arith, s.near));
      begun = λ d l. omega (arith, h.begun d (omega (arith, s.near)));
      later = λ k d m l. omega (arith, s.later k d m l);
    }

    -- the next row takes over
    holds_next : (i stop : ℕ) → Stops i stop → Holds (i + 1) stop
    holds_next i stop s = record {
      within = λ l. s.exists l;
      begun = λ d l. omega (arith, s.next d l);
      later = λ k d m l. omega (arith, s.later (i + 1) d (omega arith) (omega arith), in_turn rows (i + 1) k d listed.rising m l);
    }

    module _ (i x stop : ℕ) (holds : Holds i x) (inside : x < n) (next : (d : ℕ × V) → i + 1 < length rows → stop ≡ (get_or rows (i + 1) d).0) (last : length rows ≤ i + 1 → stop ≡ n) where
      stops : Stops i stop
      stops = elim (more i) [ inl l ↦ stops_before i stop (some_row rows (omega arith)) next l | inr l ↦ stops_last i stop (last l) l ]

      pub ahead : x < stop
      ahead = elim (more i) [
        | inl l ↦ let d = some_row rows (omega arith) in omega (arith, next d l, holds.later (i + 1) d (omega arith) l)
        | inr l ↦ omega (arith, last l)
      ]

      -- the value on the way is that of the row
      pub value_there : (to y : ℕ) (d : ℕ × V) → to ≤ stop → x ≤ y → y < to → value_at rows y ≡ Some (get_or rows i d).1
      value_there to y d a b l =
          value_at-index rows i y d (holds.within inside) (omega (arith, holds.begun d inside)) (λ k m o. omega (arith, stops.later k d m o))

      -- the row goes on, or the next one takes over
      pub moved : (to step : ℕ) → x < to → to ≤ stop → step ≡ from_bool (stop == to) → Holds (i + step) to
      moved to step a b e =
          elim (eqb_tells stop to) [
            | inl there ↦ let one : step ≡ 1 = e ∙ ap from_bool there.0 in rw one (subst (λ k. Holds (i + 1) k) there.1 (holds_next i stop stops))
            | inr before ↦ let same : i + step ≡ i = omega (arith, e, ap from_bool before.0) in rw same (holds_on i x to stop holds stops a (omega arith))
          ]

-- the sum over a stretch of metres that cost the same
sum_below-stretch : (f : ℕ → ℕ) (from to c : ℕ) → from ≤ to → ((y : ℕ) → from ≤ y → y < to → f y ≡ c) → sum_below to f ≡ sum_below from f + (to - from) * c
sum_below-stretch f from zero c h same = let e : from ≡ 0 = omega arith in rw e (omega arith)
sum_below-stretch f from (suc to) c h same = elim (next_or_at_most from to h) [
  | inl e ↦ rw e (let z : suc to - suc to ≡ 0 = omega arith in omega (arith, ap (λ k. k * c) z))
  | inr l ↦
      let here = same to l (omega arith) in
      let before = sum_below-stretch f from to c l (λ y a b. same y a (omega arith)) in
      let longer : suc to - from ≡ suc (to - from) = omega arith in
      let product : (suc to - from) * c ≡ (to - from) * c + c = ap (λ k. k * c) longer ∙ omega arith in
      omega (arith, here, before, product)
]

module _ {V : Type 0} (levels : Levels V) (runs steps : List (ℕ × V)) where
  price_there : (o p : Option V) (track given : V) → o ≡ Some track → p ≡ Some given → price_at levels o p ≡ levels.price track given
  price_there o p track given e f = rw (e, f) refl

  within_there : (o p : Option V) (track given : V) → o ≡ Some track → p ≡ Some given → is_within levels o p ≡ true → levels.at_most given track ≡ true
  within_there o p track given e f h = rw (e, f) at h

  pub loss-stretch : (from to : ℕ) (track given : V) → from ≤ to → ((y : ℕ) → from ≤ y → y < to → value_at runs y ≡ Some track) → ((y : ℕ) → from ≤ y → y < to → value_at steps y ≡ Some given)
      → loss levels to (value_at runs) steps ≡ loss levels from (value_at runs) steps + (to - from) * levels.price track given
  loss-stretch from to track given h r s =
      sum_below-stretch (λ y. price_at levels (value_at runs y) (value_at steps y)) from to (levels.price track given) h (λ y a b. price_there (value_at runs y) (value_at steps y) track given (r y a b) (s y a b))

  pub within_here : (x : ℕ) (track given : V) → value_at runs x ≡ Some track → value_at steps x ≡ Some given → is_within levels (value_at runs x) (value_at steps x) ≡ true → levels.at_most given track ≡ true
  within_here x track given r s h = within_there (value_at runs x) (value_at steps x) track given r s h

pub summed : {sum before here stretch after : ℕ} → sum ≡ before → here ≡ stretch → after ≡ before + stretch → sum + here ≡ after
summed e f g = omega (arith, e, f, g)

-- no metre costs more than a million
pub still_small : (metres price : ℕ) → price ≤ 1000000 → metres * price ≤ metres * 1000000
still_small metres price p = mul-le-mul_left metres p
