-- Totals: the least of many sums, and totals that are read and written.
use Rattle.std.proofs.Common.{◌≡◌, refl, ap, arith, ℕ, zero, suc, ◌+◌, ◌-◌, ◌<◌, ◌≤◌, ◌⊎◌, inl, inr, List, [], ◌∷◌, length, ◌++◌, get_or, map, set, take, min}
use Rattle.std.specs.Global.{Vec}
use Rattle.rbc_costs.specs.Sums.{IsCheapest, price_up_to, row_in}

-- ---- the least price so far

pub lesser : (a b : ℕ) → ((min a b ≡ a) × (a ≤ b)) ⊎ ((min a b ≡ b) × (b ≤ a))
lesser a b = grind arith

pub last_or_before : (i to : ℕ) → i < to + 1 → (i ≡ to) ⊎ (i < to)
last_or_before i to h = grind arith

pub cheapest_one : (before costs : ℕ → ℕ) (to price : ℕ) → to ≡ 1 → before 0 ≡ 0 → price ≡ costs 0 → IsCheapest before costs to price
cheapest_one before costs to price one none e = record {
  lowest = λ i h.
      let first : i ≡ 0 = omega arith in
      let a : before i ≡ before 0 = ap before first in
      let b : costs i ≡ costs 0 = ap costs first in
      omega arith;
  from = 0;
  inside = omega arith;
  reached = omega arith;
}

pub cheapest_more : (before costs : ℕ → ℕ) (to next price sum now : ℕ) → next ≡ to + 1 → IsCheapest before costs to price → sum ≡ before to + costs to → now ≡ min price sum
    → IsCheapest before costs next now
cheapest_more before costs to next price sum now one c e is =
    let inside = c.inside in
    let reached = c.reached in
    elim (lesser price sum) [
      | inl kept ↦ record {
        lowest = λ i h. elim (last_or_before i to (omega arith)) [
          | inl same ↦ let a : before i ≡ before to = ap before same in let b : costs i ≡ costs to = ap costs same in omega arith
          | inr less ↦ let low = c.lowest i less in omega arith
        ];
        from = c.from;
        inside = omega arith;
        reached = omega arith;
      }
      | inr fallen ↦ record {
        lowest = λ i h. elim (last_or_before i to (omega arith)) [
          | inl same ↦ let a : before i ≡ before to = ap before same in let b : costs i ≡ costs to = ap costs same in omega arith
          | inr less ↦ let low = c.lowest i less in omega arith
        ];
        from = to;
        inside = omega arith;
        reached = omega arith;
      }
    ]

pub up_at : (row : List ℕ) (i : ℕ) → 1 ≤ i → price_up_to row i ≡ get_or row (i - 1) 0
up_at row zero h = absurd (omega arith)
up_at row (suc i) h = ap (λ k. get_or row k 0) (omega arith)

-- a total that is read
pub read_at : {N : Type 0} (number : N → ℕ) (totals : List N) (i : ℕ) (total : N) → total ≡ get_or totals i total → i < length totals → number total ≡ get_or (map number totals) i 0
read_at number [] i total e h = absurd (omega arith)
read_at number (first ∷ totals) zero total e h = ap number e
read_at number (first ∷ totals) (suc i) total e h = read_at number totals i total e (omega arith)

-- ---- a total that is written

pub map_set_at : {N : Type 0} (number : N → ℕ) (totals : List N) (i : ℕ) (total : N) → i < length totals → get_or (map number (set totals i total)) i 0 ≡ number total
map_set_at number [] i total h = absurd (omega arith)
map_set_at number (first ∷ totals) zero total h = refl
map_set_at number (first ∷ totals) (suc i) total h = map_set_at number totals i total (omega arith)

pub map_set_other : {N : Type 0} (number : N → ℕ) (totals : List N) (i other : ℕ) (total : N) → (other ≡ i → ⊥) → get_or (map number (set totals i total)) other 0 ≡ get_or (map number totals) other 0
map_set_other number [] i other total different = refl
map_set_other number (first ∷ totals) zero zero total different = absurd (different refl)
map_set_other number (first ∷ totals) zero (suc other) total different = refl
map_set_other number (first ∷ totals) (suc i) zero total different = refl
map_set_other number (first ∷ totals) (suc i) (suc other) total different = map_set_other number totals i other total (λ e. different (ap suc e))

-- ---- totals that are handed on

pub take_at : {N : Type 0} (number : N → ℕ) (totals : List N) (count i : ℕ) → i < count → get_or (map number (take count totals)) i 0 ≡ get_or (map number totals) i 0
take_at number totals zero i h = absurd (omega arith)
take_at number [] (suc count) i h = refl
take_at number (x ∷ totals) (suc count) zero h = refl
take_at number (x ∷ totals) (suc count) (suc i) h = take_at number totals count i (omega arith)

pub row_is : {N : Type 0} (number : N → ℕ) (rows : List (Vec N)) (i : ℕ) (row : Vec N) → row ≡ get_or rows i row → i < length rows → map number row.items ≡ row_in number rows i
row_is number [] i row e h = absurd (omega arith)
row_is number (first ∷ rows) zero row e h = ap (λ r. map number r.items) e
row_is number (first ∷ rows) (suc i) row e h = row_is number rows i row e (omega arith)

pub none_behind : {N : Type 0} (number : N → ℕ) (rows : List (Vec N)) (j : ℕ) → length rows ≤ j → row_in number rows j ≡ []
none_behind number [] j h = refl
none_behind number (row ∷ rows) zero h = absurd (omega arith)
none_behind number (row ∷ rows) (suc j) h = none_behind number rows j (omega arith)

-- ---- totals that are put behind others

pub map_more : {N : Type 0} (number : N → ℕ) (totals : List N) (total : N) → map number (totals ++ total ∷ []) ≡ map number totals ++ number total ∷ []
map_more number [] total = refl
map_more number (first ∷ totals) total = ap (λ xs. number first ∷ xs) (map_more number totals total)

pub small_totals : (numbers : List ℕ) (most : ℕ) → ((i : ℕ) → i < length numbers → get_or numbers i 0 ≤ most) → (i : ℕ) → get_or numbers i 0 ≤ most
small_totals [] most small i = omega arith
small_totals (x ∷ numbers) most small zero = small 0 (omega arith)
small_totals (x ∷ numbers) most small (suc i) = small_totals numbers most (λ k h. small (suc k) (omega arith)) i
