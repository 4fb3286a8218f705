-- Steps that follow one another up to the end, each with a value that may be given on its metres: they make a profile that fits.
use Rattle.std.proofs.Common.{◌≡◌, refl, ap, sym, ◌∙◌, arith, ℕ, ◌+◌, ◌%◌, ◌<◌, ◌≤◌, inl, inr, true, ◌&&◌, List, [], ◌∷◌, length, Option, Some, None, nat_lt, ◌==◌}
use Rattle.std.specs.List.{list_all}
use Rattle.std.proofs.lemmas.Bool.{le-leb, and_from, lt-ltb, lt-leb, eq-eqb, cases_lt}
use Rattle.rbc_model.specs.Levels.{Levels, IsAtMost, IsLawful}
use Rattle.rbc_model.specs.Profiles.{value_at, starts_of, rises_above, rises_from_zero, is_within, price_at, sum_below, loss, Fits}
use Rattle.rbc_model.proofs.RunLemmas.{IsCovered}
use Rattle.rbc_table_laws.proofs.SumLemmas.{sum_between_same}
use Rattle.rbc_table_laws.proofs.LeastLemmas.{spent, IsGiven}

module _ {V : Type 0} (levels : Levels V) (unit limit n : ℕ) (track : ℕ → Option V) where
  -- The steps go on from place x up to the end, and lose no more than the price there.
  abbrev pub IsTail : ℕ → List (ℕ × V) → ℕ → Type 0
  IsTail x [] price = x ≡ n
  IsTail x (step ∷ later) price =
      (to : ℕ) × (rest : ℕ) × (step.0 ≡ x) × (x < to) × (x % unit ≡ 0) × IsGiven levels n track step.1 x to
      × (rest + spent levels n track step.1 to ≤ price + spent levels n track step.1 x) × IsTail to later rest

  pub tail_dearer : (x : ℕ) (steps : List (ℕ × V)) (low high : ℕ) → low ≤ high → IsTail x steps low → IsTail x steps high
  tail_dearer x [] low high h t = t
  tail_dearer x (step ∷ later) low high h t = let sum = t.6 in (t.0, t.1, t.2, t.3, t.4, t.5, omega arith, t.7)

  pub tail_inside : (x : ℕ) (steps : List (ℕ × V)) (price : ℕ) → IsTail x steps price → x ≤ n
  tail_inside x [] price t = omega arith
  tail_inside x (step ∷ later) price t = let up = t.3 in let rest = tail_inside t.0 later t.1 t.7 in omega arith

  tail_rises : (low x : ℕ) (steps : List (ℕ × V)) (price : ℕ) → low < x → IsTail x steps price → rises_above low (starts_of steps) ≡ true
  tail_rises low x [] price h t = refl
  tail_rises low x (step ∷ later) price h t =
      let up = t.3 in
      let first = t.2 in
      and_from (nat_lt low step.0) (rises_above step.0 (starts_of later)) (lt-ltb low step.0 (omega arith)) (tail_rises step.0 t.0 later t.1 (omega arith) t.7)

  tail_from_zero : (steps : List (ℕ × V)) (price : ℕ) → 0 < n → IsTail 0 steps price → rises_from_zero (starts_of steps) ≡ true
  tail_from_zero [] price h t = absurd (omega arith)
  tail_from_zero (step ∷ later) price h t =
      and_from (step.0 == 0) (rises_above 0 (starts_of later)) (eq-eqb step.0 0 t.2) (tail_rises 0 t.0 later t.1 t.3 t.7)

  tail_below : (x : ℕ) (steps : List (ℕ × V)) (price : ℕ) → IsTail x steps price → list_all (λ start. nat_lt start n) (starts_of steps) ≡ true
  tail_below x [] price t = refl
  tail_below x (step ∷ later) price t =
      let up = t.3 in
      let first = t.2 in
      let rest = tail_inside t.0 later t.1 t.7 in
      and_from (nat_lt step.0 n) (list_all (λ start. nat_lt start n) (starts_of later)) (lt-ltb step.0 n (omega arith)) (tail_below t.0 later t.1 t.7)

  tail_whole : (x : ℕ) (steps : List (ℕ × V)) (price : ℕ) → IsTail x steps price → list_all (λ start. start % unit == 0) (starts_of steps) ≡ true
  tail_whole x [] price t = refl
  tail_whole x (step ∷ later) price t =
      let cut : step.0 % unit ≡ 0 = ap (λ y. y % unit) t.2 ∙ t.4 in
      and_from (step.0 % unit == 0) (list_all (λ start. start % unit == 0) (starts_of later)) (eq-eqb (step.0 % unit) 0 cut) (tail_whole t.0 later t.1 t.7)

  tail_values : (x : ℕ) (steps : List (ℕ × V)) (price : ℕ) → IsTail x steps price → list_all (λ s. levels.in_range s.1 && levels.is_expressible s.1) steps ≡ true
  tail_values x [] price t = refl
  tail_values x (step ∷ later) price t =
      let given = t.5 in
      and_from (levels.in_range step.1 && levels.is_expressible step.1) (list_all (λ s. levels.in_range s.1 && levels.is_expressible s.1) later)
      (and_from (levels.in_range step.1) (levels.is_expressible step.1) given.in_range given.expressible) (tail_values t.0 later t.1 t.7)

  -- ---- values

  none_before : (x y : ℕ) (steps : List (ℕ × V)) (price : ℕ) → y < x → IsTail x steps price → value_at steps y ≡ None
  none_before x y [] price h t = refl
  none_before x y (step ∷ later) price h t =
      let up = t.3 in
      let first = t.2 in
      rw (none_before t.0 y later t.1 (omega arith) t.7, lt-leb step.0 y (omega arith)) refl

  value_here : (x y : ℕ) (step : ℕ × V) (later : List (ℕ × V)) (price : ℕ) → x ≤ y → (t : IsTail x (step ∷ later) price) → y < t.0 → value_at (step ∷ later) y ≡ Some step.1
  value_here x y step later price low t high =
      let first = t.2 in
      rw (none_before t.0 y later t.1 high t.7, le-leb step.0 y (omega arith)) refl

  -- the value at a place, and that it may be given there
  pub record IsValue (steps : List (ℕ × V)) (y : ℕ) : Type 0 where
    pub value : V
    pub is : value_at steps y ≡ Some value
    pub under : (t : V) → track y ≡ Some t → IsAtMost levels value t

  value_of : (x y : ℕ) (steps : List (ℕ × V)) (price : ℕ) → x ≤ y → y < n → IsTail x steps price → IsValue steps y
  value_of x y [] price low high t = absurd (omega arith)
  value_of x y (step ∷ later) price low high t = elim (cases_lt y t.0) [
    | inl before ↦ (let given = t.5 in record { value = step.1; is = value_here x y step later price low t before; under = λ v there. given.under y low before v there })
    | inr after ↦ (let rest = value_of t.0 y later t.1 after high t.7 in record { value = rest.value; is = rw rest.is refl; under = rest.under })
  ]

  value_later : (x y : ℕ) (step : ℕ × V) (later : List (ℕ × V)) (price : ℕ) (t : IsTail x (step ∷ later) price) → t.0 ≤ y → y < n → value_at (step ∷ later) y ≡ value_at later y
  value_later x y step later price t low high =
      let rest = value_of t.0 y later t.1 low high t.7 in
      rw rest.is refl

  within_of : (o p : Option V) (v given : V) → o ≡ Some v → p ≡ Some given → IsAtMost levels given v → is_within levels o p ≡ true
  within_of o p v given e f h = rw (e, f) h

  -- what the steps lose from place x on
  tail_loses : (x : ℕ) (steps : List (ℕ × V)) (price : ℕ) → IsTail x steps price
      → sum_below n (λ y. price_at levels (track y) (value_at steps y)) ≤ price + sum_below x (λ y. price_at levels (track y) (value_at steps y))
  tail_loses x [] price t =
      let same : sum_below n (λ y. price_at levels (track y) None) ≡ sum_below x (λ y. price_at levels (track y) None) = ap (λ k. sum_below k (λ y. price_at levels (track y) None)) (sym t) in
      omega arith
  tail_loses x (step ∷ later) price t =
      let up = t.3 in
      let sum = t.6 in
      let inside = tail_inside t.0 later t.1 t.7 in
      let rest = tail_loses t.0 later t.1 t.7 in
      let here = sum_between_same x t.0 (λ y. price_at levels (track y) (value_at (step ∷ later) y)) (λ y. price_at levels (track y) (Some step.1)) (omega arith)
      (λ y low high. ap (price_at levels (track y)) (value_here x y step later price low t high)) in
      let behind = sum_between_same t.0 n (λ y. price_at levels (track y) (value_at (step ∷ later) y)) (λ y. price_at levels (track y) (value_at later y)) inside
      (λ y low high. ap (price_at levels (track y)) (value_later x y step later price t low high)) in
      omega arith

  -- so from 0 on they make a profile that fits
  pub tail_fits : (lawful : IsLawful levels) → IsCovered levels lawful n track → (steps : List (ℕ × V)) (price : ℕ) → 0 < n → length steps ≤ limit → IsTail 0 steps price
      → Fits levels unit limit n track steps
  tail_fits lawful covered steps price some few t = record {
    profile = record {
      starts = record { rising = tail_from_zero steps price some t; inside = tail_below 0 steps price t };
      in_units = tail_whole 0 steps price t;
      few = few;
      values = tail_values 0 steps price t;
    };
    below = λ y h.
        let here = covered y h in
        let value = value_of 0 y steps price (omega arith) h t in
        within_of (track y) (value_at steps y) here.0 value.value here.1 value.is (value.under here.0 here.1);
  }

  pub tail_loss : (steps : List (ℕ × V)) (price : ℕ) → IsTail 0 steps price → loss levels n track steps ≤ price
  tail_loss steps price t = let less = tail_loses 0 steps price t in omega arith
