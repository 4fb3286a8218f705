-- In a best profile each step has the floor of the least value on its metres; so the chosen profile is one alone.
use Rattle.std.proofs.Common.{◌≡◌, refl, ap, sym, ◌∙◌, arith, subst, ℕ, suc, ◌+◌, ◌-◌, ◌%◌, ◌<◌, ◌≤◌, ◌⊎◌, inl, inr, Bool, true, false, List, [], ◌∷◌, length, reverse, Option, Some, nat_lt, ◌==◌, option_map}
use Rattle.std.proofs.lemmas.List.{reverse-reverse}
use Rattle.std.proofs.lemmas.Bool.Decides.{nat_tests}
use Rattle.rbc_model.specs.Levels.{Levels, IsAtMost, IsLawful, is_below}
use Rattle.rbc_model.specs.Profiles.{value_at, starts_of, comes_first, price_at, loss, IsTrackFunction, IsBestProfile, IsChosenProfile}
use Rattle.rbc_model.specs.PriceTables.{break_at, stretch_count}
use Rattle.rbc_model.proofs.RunLemmas.{IsCovered}
use Rattle.rbc_table_laws.specs.Tracebacks.{IsFloor, AreFloors}
use Rattle.rbc_table_laws.proofs.SumLemmas.{sum_between, sum_rises}
use Rattle.rbc_table_laws.proofs.LeastLemmas.{spent, IsGiven, IsLeast, in_range_at, least_between, floor_given, metre_costs}
use Rattle.rbc_table_laws.proofs.TailLemmas.{IsTail, tail_inside, tail_fits, tail_loss}
use Rattle.rbc_table_laws.proofs.BreakLemmas.{covered_of, are_breaks, break_whole, track_some}
use Rattle.rbc_table_laws.proofs.ShortestProfileLemmas.{tail_of_profile}

module _ {V : Type 0} (levels : Levels V) (lawful : IsLawful levels) (unit limit n : ℕ) (runs : List (ℕ × V)) (covered : IsCovered levels lawful n (value_at runs)) where
  abbrev track : ℕ → Option V
  track = value_at runs

  abbrev Tail : ℕ → List (ℕ × V) → ℕ → Type 0
  Tail = IsTail levels unit limit n track

  -- other steps that lose less
  record IsCheaper (x : ℕ) (steps : List (ℕ × V)) (price : ℕ) : Type 0 where
    other : List (ℕ × V)
    low : ℕ
    tail : Tail x other low
    short : length other ≤ length steps
    less : low < price

  cheaper_on : (x : ℕ) (step : ℕ × V) (later : List (ℕ × V)) (price : ℕ) → (t : Tail x (step ∷ later) price) → IsCheaper t.0 later t.1
      → spent levels n track step.1 x ≤ spent levels n track step.1 t.0 → IsCheaper x (step ∷ later) price
  cheaper_on x step later price t c more =
      let sum = t.6 in
      let short = c.short in
      let less = c.less in
      record {
        other = step ∷ c.other;
        low = price - (t.1 - c.low);
        tail = (t.0, c.low, t.2, t.3, t.4, t.5, omega arith, c.tail);
        short = omega arith;
        less = omega arith;
      }

  -- a value below the floor loses more
  module _ (x to : ℕ) (v : V) (up : x < to) (inside : to ≤ n) (given : IsGiven levels n track v x to) (l : IsLeast levels n track x (to - x)) where
    floor_range : IsGiven levels n track (levels.floor l.least) x to
    floor_range = floor_given levels n track lawful covered x to up inside l

    below_floor : IsAtMost levels v (levels.floor l.least)
    below_floor =
        let placed = l.placed in
        lawful.floor_is_greatest l.least v (in_range_at levels n track lawful covered (x + l.place) l.least (omega arith) l.there) given.in_range given.expressible
        (given.under (x + l.place) (omega arith) (omega arith) l.least l.there)

    floor_gains : is_below levels v (levels.floor l.least) ≡ true → spent levels n track (levels.floor l.least) to + spent levels n track v x < spent levels n track v to + spent levels n track (levels.floor l.least) x
    floor_gains strict =
        let floor = floor_range in
        let c = covered x (omega arith) in
        let falls = lawful.price_falls c.0 v (levels.floor l.least) c.2 given.in_range floor.in_range strict (floor.under x (omega arith) up c.0 c.1) in
        let here : price_at levels (track x) (Some (levels.floor l.least)) < price_at levels (track x) (Some v) = rw c.1 falls in
        let behind = sum_between (suc x) to (λ y. price_at levels (track y) (Some (levels.floor l.least))) (λ y. price_at levels (track y) (Some v)) (omega arith)
        (λ y low high. metre_costs levels n track lawful covered (track y) v (levels.floor l.least) given.in_range floor.in_range below_floor
        (λ t there. (in_range_at levels n track lawful covered y t (omega arith) there, floor.under y (omega arith) high t there))) in
        omega arith

    same_or_gain : (test : Bool) → levels.at_most (levels.floor l.least) v ≡ test
        → (v ≡ levels.floor l.least) ⊎ (spent levels n track (levels.floor l.least) to + spent levels n track v x < spent levels n track v to + spent levels n track (levels.floor l.least) x)
    same_or_gain true e = let floor = floor_range in inl (lawful.ordered.antisymmetric v (levels.floor l.least) given.in_range floor.in_range below_floor e)
    same_or_gain false e =
        let low = below_floor in
        let strict : is_below levels v (levels.floor l.least) ≡ true = rw (low, e) refl in
        inr (floor_gains strict)

  step_or_cheaper : (x : ℕ) (step : ℕ × V) (later : List (ℕ × V)) (price : ℕ) → (t : Tail x (step ∷ later) price) → IsFloor levels unit limit n runs x t.0 step.1 ⊎ IsCheaper x (step ∷ later) price
  step_or_cheaper x step later price t =
      let up = t.3 in
      let sum = t.6 in
      let inside = tail_inside levels unit limit n track t.0 later t.1 t.7 in
      let l = least_between levels n track lawful covered x t.0 up inside in
      elim (same_or_gain x t.0 step.1 up inside t.5 l (levels.at_most (levels.floor l.least) step.1) refl) [
        | inl e ↦ inl (ap (option_map levels.floor) l.is ∙ ap (λ v. Some v) (sym e))
        | inr gain ↦
            let floor = floor_range x t.0 step.1 up inside t.5 l in
            let more = sum_rises x t.0 (λ y. price_at levels (track y) (Some (levels.floor l.least))) (omega arith) in
            inr (record {
              other = (x, levels.floor l.least) ∷ later;
              low = price - 1;
              tail = (t.0, t.1, refl, t.3, t.4, floor, omega arith, t.7);
              short = omega arith;
              less = omega arith;
            })
      ]

  first_and_rest : (x : ℕ) (step next : ℕ × V) (later : List (ℕ × V)) (price : ℕ) → (t : Tail x (step ∷ next ∷ later) price)
      → IsFloor levels unit limit n runs x t.0 step.1 ⊎ IsCheaper x (step ∷ next ∷ later) price
      → AreFloors levels unit limit n runs (next ∷ later) ⊎ IsCheaper t.0 (next ∷ later) t.1 → AreFloors levels unit limit n runs (step ∷ next ∷ later) ⊎ IsCheaper x (step ∷ next ∷ later) price
  first_and_rest x step next later price t (inl f) (inl rest) =
      inl (subst (λ e. IsFloor levels unit limit n runs step.0 e step.1) (sym t.7.2) (subst (λ s. IsFloor levels unit limit n runs s t.0 step.1) (sym t.2) f), rest)
  first_and_rest x step next later price t (inl f) (inr c) =
      inr (cheaper_on x step (next ∷ later) price t c (let up = t.3 in sum_rises x t.0 (λ y. price_at levels (track y) (Some step.1)) (omega arith)))
  first_and_rest x step next later price t (inr c) rest = inr c

  floors_of : (x : ℕ) (step : ℕ × V) (later : List (ℕ × V)) (price : ℕ) → Tail x (step ∷ later) price → AreFloors levels unit limit n runs (step ∷ later) ⊎ IsCheaper x (step ∷ later) price
  floors_of x step [] price t = elim (step_or_cheaper x step [] price t) [
    | inl f ↦ inl (subst (λ e. IsFloor levels unit limit n runs step.0 e step.1) t.7 (subst (λ s. IsFloor levels unit limit n runs s t.0 step.1) (sym t.2) f))
    | inr c ↦ inr c
  ]
  floors_of x step (next ∷ later) price t = first_and_rest x step next later price t (step_or_cheaper x step (next ∷ later) price t) (floors_of t.0 next later t.1 t.7)

  none_cheaper : 0 < n → (steps : List (ℕ × V)) → IsBestProfile levels unit limit n track steps → IsCheaper 0 steps (loss levels n track steps) → ⊥
  none_cheaper some steps best c =
      let less = c.less in
      let short = c.short in
      let few = best.fits.profile.few in
      let fits = tail_fits levels unit limit n track lawful covered c.other c.low some (omega arith) c.tail in
      let loses = tail_loss levels unit limit n track c.other c.low c.tail in
      let no_less = best.least c.other fits in
      omega arith

  floors_of_best : 0 < n → (steps : List (ℕ × V)) → IsBestProfile levels unit limit n track steps → Tail 0 steps (loss levels n track steps) → AreFloors levels unit limit n runs steps
  floors_of_best some [] best t = tt
  floors_of_best some (step ∷ later) best t = elim (floors_of 0 step later (loss levels n track (step ∷ later)) t) [
    | inl f ↦ f
    | inr c ↦ absurd (none_cheaper some (step ∷ later) best c)
  ]

  -- ---- steps with the same starts are the same

  same_pair : (s t : ℕ × V) → s.0 ≡ t.0 → s.1 ≡ t.1 → s ≡ t
  same_pair s t e f = ap (λ x. (x, s.1)) e ∙ ap (λ v. (t.0, v)) f

  same_value : (from from' to to' : ℕ) (v w : V) → from ≡ from' → to ≡ to' → IsFloor levels unit limit n runs from to v → IsFloor levels unit limit n runs from' to' w → v ≡ w
  same_value from from' to to' v w e f g h =
      let g' = subst (λ t. IsFloor levels unit limit n runs from' t v) f (subst (λ s. IsFloor levels unit limit n runs s to v) e g) in
      let is : Some v ≡ Some w = sym g' ∙ h in
      cc

  tails_same : (x y : ℕ) (xs ys : List ℕ) → (x ∷ xs) ≡ (y ∷ ys) → (x ≡ y) × (xs ≡ ys)
  tails_same x y xs ys e = (cc, cc)

  same_steps : (a b : List (ℕ × V)) → starts_of a ≡ starts_of b → AreFloors levels unit limit n runs a → AreFloors levels unit limit n runs b → a ≡ b
  same_steps [] [] e f g = refl
  same_steps [] (t ∷ b) e f g = absurd (cc)
  same_steps (s ∷ a) [] e f g = absurd (cc)
  same_steps (s ∷ []) (t ∷ []) e f g =
      let first = tails_same s.0 t.0 [] [] e in
      ap (λ p. p ∷ []) (same_pair s t first.0 (same_value s.0 t.0 n n s.1 t.1 first.0 refl f g))
  same_steps (s ∷ []) (t ∷ u ∷ b) e f g = (let first = tails_same s.0 t.0 [] (u.0 ∷ starts_of b) e in let rest = first.1 in absurd (cc))
  same_steps (s ∷ u ∷ a) (t ∷ []) e f g = (let first = tails_same s.0 t.0 (u.0 ∷ starts_of a) [] e in let rest = first.1 in absurd (cc))
  same_steps (s ∷ u ∷ a) (t ∷ w ∷ b) e f g =
      let first = tails_same s.0 t.0 (u.0 ∷ starts_of a) (w.0 ∷ starts_of b) e in
      let second = tails_same u.0 w.0 (starts_of a) (starts_of b) first.1 in
      let head = same_pair s t first.0 (same_value s.0 t.0 u.0 w.0 s.1 t.1 first.0 second.0 f.0 g.0) in
      let rest = same_steps (u ∷ a) (w ∷ b) first.1 f.1 g.1 in
      ap (λ p. p ∷ u ∷ a) head ∙ ap (λ l. t ∷ l) rest

-- ---- dictionary order

below_same_above : (a b : ℕ) → (a < b) ⊎ (a ≡ b) ⊎ (b < a)
below_same_above a b = grind arith

not_behind : (x y : ℕ) (xs ys : List ℕ) → y < x → comes_first (x ∷ xs) (y ∷ ys) ≡ true → ⊥
not_behind x y xs ys h e =
    let low : nat_lt x y ≡ false = grind (arith, nat_tests) in
    let other : (x == y) ≡ false = grind (arith, nat_tests) in
    let no = rw (low, other) at e in
    cc

both_first : (xs ys : List ℕ) → comes_first xs ys ≡ true → comes_first ys xs ≡ true → xs ≡ ys
both_first [] [] e f = refl
both_first [] (y ∷ ys) e f = absurd (cc)
both_first (x ∷ xs) [] e f = absurd (cc)
both_first (x ∷ xs) (y ∷ ys) e f = elim (below_same_above x y) [
  | inl low ↦ absurd (not_behind y x ys xs low f)
  | inr (inl same) ↦
      let rest = both_first xs ys (rest_first x y xs ys same e) (rest_first y x ys xs (sym same) f) in
      ap (λ z. z ∷ xs) same ∙ ap (λ l. y ∷ l) rest
  | inr (inr high) ↦ absurd (not_behind x y xs ys high e)
]
  where
    rest_first : (x y : ℕ) (xs ys : List ℕ) → x ≡ y → comes_first (x ∷ xs) (y ∷ ys) ≡ true → comes_first xs ys ≡ true
    rest_first x y xs ys same e =
        let low : nat_lt x y ≡ false = grind (arith, nat_tests) in
        let is : (x == y) ≡ true = grind (arith, nat_tests) in
        rw (low, is) at e

module _ {V : Type 0} (levels : Levels V) (lawful : IsLawful levels) (unit limit n : ℕ) (some : 0 < unit) (whole : n % unit ≡ 0)
    (runs : List (ℕ × V)) (track : IsTrackFunction levels n runs) where
  pub best_has_floors : (steps : List (ℕ × V)) → IsBestProfile levels unit limit n (value_at runs) steps → AreFloors levels unit limit n runs steps
  best_has_floors steps best =
      floors_of_best levels lawful unit limit n runs (covered_of levels lawful n runs track) (track_some levels n runs track) steps best
      (tail_of_profile levels unit limit n (value_at runs) (stretch_count levels unit limit n runs) (break_at levels unit limit n runs) lawful (covered_of levels lawful n runs track)
      (are_breaks levels lawful unit limit n some whole runs track) (break_whole levels lawful unit limit n some whole runs track) steps best.fits)

  pub chosen_are_one : (steps other : List (ℕ × V)) → IsChosenProfile levels unit limit n (value_at runs) steps → IsChosenProfile levels unit limit n (value_at runs) other → steps ≡ other
  chosen_are_one steps other a b =
      let few = a.fewest other b.best in
      let fewer = b.fewest steps a.best in
      let reversed = both_first (reverse (starts_of steps)) (reverse (starts_of other)) (a.first other b.best (omega arith)) (b.first steps a.best (omega arith)) in
      let starts = sym (reverse-reverse (starts_of steps)) ∙ ap reverse reversed ∙ reverse-reverse (starts_of other) in
      same_steps levels lawful unit limit n runs (covered_of levels lawful n runs track) steps other starts (best_has_floors steps a.best) (best_has_floors other b.best)
