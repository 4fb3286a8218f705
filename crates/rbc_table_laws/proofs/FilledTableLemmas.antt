-- The table of least prices: it is sound, and some way costs each of its prices. So each price of the greatest sound table is reached.
use Rattle.std.proofs.Common.{◌≡◌, refl, ap, sym, ◌∙◌, arith, ℕ, zero, suc, ◌+◌, ◌<◌, ◌≤◌, ◌⊎◌, inl, inr, min, Bool, true, List, [], length, get_or, ◌==◌}
use Rattle.std.specs.List.{list_all}
use Rattle.std.proofs.lemmas.Bool.{eq-eqb, and_from}
use Rattle.rbc_model.specs.Levels.{Levels}
use Rattle.rbc_model.specs.PriceTables.{table_at, step_cost, stretch_count, row_count, IsSoundTable, IsGreatestSoundTable}
use Rattle.rbc_model.proofs.BasicLemmas.{next_or_at_most}
use Rattle.rbc_table_laws.specs.LeastTables.{least_to, made, least_price, filled}
use Rattle.rbc_table_laws.proofs.WayLemmas.{Reach, way_dearer, reach_on}

-- ---- the least of the numbers at 0 to `last`

least_at_most : (last : ℕ) (f : ℕ → ℕ) (i : ℕ) → i ≤ last → least_to last f ≤ f i
unfolding least_to
least_at_most zero f i h = let same : f i ≡ f 0 = ap f (omega arith) in omega arith
least_at_most (suc last) f i h = elim (next_or_at_most i last h) [
  | inl e ↦ let same : f i ≡ f (suc last) = ap f e in omega arith
  | inr l ↦ let before = least_at_most last f i l in omega arith
]

lower_one : (a b : ℕ) → (min a b ≡ a) ⊎ (min a b ≡ b)
lower_one a b = grind arith

pub least_found : (last : ℕ) (f : ℕ → ℕ) → (i : ℕ) × (i ≤ last) × (least_to last f ≡ f i)
unfolding least_to
least_found zero f = (0, omega arith, refl)
least_found (suc last) f = elim (lower_one (least_to last f) (f (suc last))) [
  | inl e ↦ let before = least_found last f in let low = before.1 in (before.0, omega arith, e ∙ before.2)
  | inr e ↦ (suc last, omega arith, e)
]

-- ---- lists made by index

length_made : {X : Type 0} (n : ℕ) (f : ℕ → X) → length (made n f) ≡ n
unfolding made
length_made zero f = refl
length_made (suc n) f = let rest = length_made n (λ i. f (suc i)) in omega arith

made_at : {X : Type 0} (n : ℕ) (f : ℕ → X) (i : ℕ) (d : X) → i < n → get_or (made n f) i d ≡ f i
unfolding made
made_at zero f i d h = absurd (omega arith)
made_at (suc n) f zero d h = refl
made_at (suc n) f (suc i) d h = made_at n (λ i. f (suc i)) i d (omega arith)

all_made : {X : Type 0} (test : X → Bool) (n : ℕ) (f : ℕ → X) → ((i : ℕ) → test (f i) ≡ true) → list_all test (made n f) ≡ true
unfolding made
all_made test zero f h = refl
all_made test (suc n) f h = and_from (test (f 0)) (list_all test (made n (λ i. f (suc i)))) (h 0) (all_made test n (λ i. f (suc i)) (λ i. h (suc i)))

-- ---- the least prices

module _ (cost : ℕ → ℕ → ℕ) where
  free_start : (j : ℕ) → least_price cost j 0 ≡ 0
  unfolding least_price
  free_start zero = refl
  free_start (suc j) = refl

  price_one : (i : ℕ) → least_price cost 0 (suc i) ≡ cost 0 (suc i)
  unfolding least_price
  price_one i = refl

  price_more : (j from i : ℕ) → from ≤ i → least_price cost (suc j) (suc i) ≤ least_price cost j from + cost from (suc i)
  unfolding least_price
  price_more j from i h = least_at_most i (λ from. least_price cost j from + cost from (suc i)) from h

  reach_price : (j i : ℕ) → Reach cost (suc j) i (least_price cost j i)
  unfolding least_price
  reach_price zero zero = (0, omega arith, refl)
  reach_price zero (suc i) = (1, omega arith, (0, 0, omega arith, refl, omega arith))
  reach_price (suc j) zero = (0, omega arith, refl)
  reach_price (suc j) (suc i) =
      let found = least_found i (λ from. least_price cost j from + cost from (suc i)) in
      let low = found.1 in
      let price = found.2 in
      reach_on cost (suc j) found.0 (suc i) (least_price cost j found.0) (least_to i (λ from. least_price cost j from + cost from (suc i))) (omega arith) (omega arith) (reach_price j found.0)

  pub filled_at : (r m j i : ℕ) → j < r → i ≤ m → table_at (filled cost r m) (suc j) i ≡ least_price cost j i
  unfolding filled
  filled_at r m j zero row column = sym (free_start j)
  filled_at r m j (suc i) row column =
      ap (λ xs. get_or xs i 0) (made_at r (λ j. made m (λ i. least_price cost j (suc i))) j [] row) ∙ made_at m (λ i. least_price cost j (suc i)) i 0 (omega arith)

  filled_length : (r m : ℕ) → length (filled cost r m) ≡ r
  unfolding filled
  filled_length r m = length_made r (λ j. made m (λ i. least_price cost j (suc i)))

  filled_widths : (r m : ℕ) → list_all (λ row. length row == m) (filled cost r m) ≡ true
  unfolding filled
  filled_widths r m =
      all_made (λ row. length row == m) r (λ j. made m (λ i. least_price cost j (suc i)))
      (λ j. eq-eqb (length (made m (λ i. least_price cost j (suc i)))) m (length_made m (λ i. least_price cost j (suc i))))

  filled_none : (m i : ℕ) → table_at (filled cost 0 m) 1 i ≡ 0
  unfolding filled made
  filled_none m zero = refl
  filled_none m (suc i) = refl

  filled_first : (r m i : ℕ) → i ≤ m → table_at (filled cost r m) 1 i ≤ cost 0 i
  filled_first zero m i h = let none = filled_none m i in omega arith
  filled_first (suc r) m zero h = let at = filled_at (suc r) m 0 0 (omega arith) h in let free = free_start 0 in omega arith
  filled_first (suc r) m (suc i) h = let at = filled_at (suc r) m 0 (suc i) (omega arith) h in let one = price_one i in omega arith

  filled_more : (r m j i i' : ℕ) → 1 ≤ j → j < r → i < i' → i' ≤ m → table_at (filled cost r m) (suc j) i' ≤ table_at (filled cost r m) j i + cost i i'
  filled_more r m zero i i' low high rises column = absurd (omega arith)
  filled_more r m (suc j) i zero low high rises column = absurd (omega arith)
  filled_more r m (suc j) i (suc i') low high rises column =
      let here = filled_at r m (suc j) (suc i') high column in
      let before = filled_at r m j i (omega arith) (omega arith) in
      let more = price_more j i i' (omega arith) in
      omega arith

module _ {V : Type 0} (levels : Levels V) (unit limit n : ℕ) (runs : List (ℕ × V)) where
  pub filled_sound : IsSoundTable levels unit limit n runs (filled (step_cost levels unit limit n runs) (row_count levels unit limit n runs) (stretch_count levels unit limit n runs))
  filled_sound = record {
    shape = filled_length (step_cost levels unit limit n runs) (row_count levels unit limit n runs) (stretch_count levels unit limit n runs);
    widths = filled_widths (step_cost levels unit limit n runs) (row_count levels unit limit n runs) (stretch_count levels unit limit n runs);
    one_step = filled_first (step_cost levels unit limit n runs) (row_count levels unit limit n runs) (stretch_count levels unit limit n runs);
    more_steps = filled_more (step_cost levels unit limit n runs) (row_count levels unit limit n runs) (stretch_count levels unit limit n runs);
  }

  -- each price of the greatest sound table is that of some way
  pub reached_of_greatest : (rows : List (List ℕ)) → IsGreatestSoundTable levels unit limit n runs rows → (j i : ℕ) → suc j ≤ row_count levels unit limit n runs → i ≤ stretch_count levels unit limit n runs
      → Reach (step_cost levels unit limit n runs) (suc j) i (table_at rows (suc j) i)
  reached_of_greatest rows greatest j i row column =
      let r = reach_price (step_cost levels unit limit n runs) j i in
      let less = greatest.greatest (filled (step_cost levels unit limit n runs) (row_count levels unit limit n runs) (stretch_count levels unit limit n runs)) filled_sound (suc j) i (omega arith) row column in
      let at = filled_at (step_cost levels unit limit n runs) (row_count levels unit limit n runs) (stretch_count levels unit limit n runs) j i row column in
      (r.0, r.1, way_dearer (step_cost levels unit limit n runs) r.0 i (least_price (step_cost levels unit limit n runs) j i) (table_at rows (suc j) i) (omega arith) r.2)
