-- Tables of prices whose first columns are filled.
use Rattle.std.proofs.Common.{◌≡◌, refl, ap, sym, ◌∙◌, arith, subst, ℕ, zero, suc, ◌+◌, ◌<◌, ◌≤◌, inl, inr, List, [], ◌∷◌, ◌++◌, length, length-append, get_or, map, set, min, Option, Some, None}
use Rattle.std.specs.Prelude.{slice_get}
use Rattle.std.specs.Option.{option_map_or}
use Rattle.std.specs.Global.{Vec}
use Rattle.std.proofs.lemmas.List.{map-id}
use Rattle.std.proofs.lemmas.Bool.{cases_lt}
use Rattle.rbc_costs.proofs.TotalLemmas.{last_or_before}
use Rattle.rbc_reduce.specs.Rows.{AreAlike, AreFilled, IsCheapest, IsColumn, IsColumnMore, price_up_to, row_at, row_in}
use Rattle.rbc_model.proofs.BasicLemmas.{next_or_at_most}

-- ---- one price more in a row

pub at_before : (row : List ℕ) (price i : ℕ) → i < length row → get_or (row ++ price ∷ []) i 0 ≡ get_or row i 0
at_before [] price i h = absurd (omega arith)
at_before (x ∷ row) price zero h = refl
at_before (x ∷ row) price (suc i) h = at_before row price i (omega arith)

pub at_last : (row : List ℕ) (price : ℕ) → get_or (row ++ price ∷ []) (length row) 0 ≡ price
at_last [] price = refl
at_last (x ∷ row) price = at_last row price

up_before : (row new : List ℕ) (price i : ℕ) → new ≡ row ++ price ∷ [] → i ≤ length row → price_up_to new i ≡ price_up_to row i
up_before row new price zero e h = refl
up_before row new price (suc i) e h = ap (λ r. get_or r i 0) e ∙ at_before row price i (omega arith)

up_last : (row new : List ℕ) (price to : ℕ) → new ≡ row ++ price ∷ [] → to ≡ suc (length row) → price_up_to new to ≡ price
up_last row new price to e is = ap (price_up_to new) is ∙ ap (λ r. get_or r (length row) 0) e ∙ at_last row price

pub same_cheapest : (before before' costs costs' : ℕ → ℕ) (to price price' : ℕ) → IsCheapest before costs to price → ((i : ℕ) → i < to → before' i ≡ before i)
    → ((i : ℕ) → i < to → costs' i ≡ costs i) → price' ≡ price → IsCheapest before' costs' to price'
same_cheapest before before' costs costs' to price price' c same_before same_costs e =
    let inside = c.inside in
    let reached = c.reached in
    let a = same_before c.from inside in
    let b = same_costs c.from inside in
    record {
      lowest = λ i h. let low = c.lowest i h in let x = same_before i h in let y = same_costs i h in omega arith;
      from = c.from;
      inside = inside;
      reached = omega arith;
    }

-- ---- one column more

module _ (cost : ℕ → ℕ → ℕ) (count : ℕ) (old new : ℕ → List ℕ) (costs : List ℕ) (columns : ℕ) (f : AreFilled cost count old columns) (more : IsColumnMore costs count old new)
    (behind : (j : ℕ) → count ≤ j → new j ≡ []) (some : 0 < count) (width : length costs ≡ columns + 1) (is : (i : ℕ) → i < columns + 1 → get_or costs i 0 ≡ cost i (columns + 1)) where
  price_of : (j : ℕ) → j < count → (price : ℕ) × (new j ≡ old j ++ price ∷ [])
  price_of zero h = (get_or costs 0 0, more.first)
  price_of (suc j) h = let there = more.later j h in (there.0, there.1)

  pub same_up : (j i : ℕ) → j < count → i ≤ columns → price_up_to (new j) i ≡ price_up_to (old j) i
  same_up j i h inside = let there = price_of j h in let wide = f.wide j h in up_before (old j) (new j) there.0 i there.1 (omega arith)

  column_kept : (to : ℕ) → 1 ≤ to → to ≤ columns → IsColumn cost count new to
  column_kept to low high =
      let c = f.each to low high in
      record {
        one_step = same_up 0 to some high ∙ c.one_step;
        more_steps = λ j h.
            same_cheapest (price_up_to (old j)) (price_up_to (new j)) (λ i. cost i to) (λ i. cost i to) to (price_up_to (old (suc j)) to) (price_up_to (new (suc j)) to)
            (c.more_steps j h) (λ i l. same_up j i (omega arith) (omega arith)) (λ i l. refl) (same_up (suc j) to h high);
      }

  new_at : (j price : ℕ) → j < count → new j ≡ old j ++ price ∷ [] → price_up_to (new j) (columns + 1) ≡ price
  new_at j price h e = let wide = f.wide j h in up_last (old j) (new j) price (columns + 1) e (omega arith)

  column_made : IsColumn cost count new (columns + 1)
  column_made = record {
    one_step = new_at 0 (get_or costs 0 0) some more.first ∙ is 0 (omega arith);
    more_steps = λ j h.
        let there = more.later j h in
        let cheapest = subst (λ n. IsCheapest (price_up_to (old j)) (λ k. get_or costs k 0) n there.0) width there.2 in
        same_cheapest (price_up_to (old j)) (price_up_to (new j)) (λ k. get_or costs k 0) (λ i. cost i (columns + 1)) (columns + 1) there.0 (price_up_to (new (suc j)) (columns + 1))
        cheapest (λ i l. same_up j i (omega arith) (omega arith)) (λ i l. sym (is i l)) (new_at (suc j) there.0 h there.1);
  }

  pub filled_more : AreFilled cost count new (columns + 1)
  filled_more = record {
    wide = λ j h.
        let there = price_of j h in
        let wide = f.wide j h in
        let long : length (new j) ≡ length (old j) + 1 = ap length there.1 ∙ length-append (old j) (there.0 ∷ []) in
        omega arith;
    none = behind;
    each = λ to low high. elim (last_or_before to (columns + 1) (omega arith)) [
      | inl same ↦ subst (IsColumn cost count new) (sym same) column_made
      | inr less ↦ column_kept to low (omega arith)
    ];
  }

pub filled_none : (cost : ℕ → ℕ → ℕ) (count : ℕ) (row : ℕ → List ℕ) → ((j : ℕ) → row j ≡ []) → AreFilled cost count row 0
filled_none cost count row none = record {
  wide = λ j h. ap length (none j);
  none = λ j h. none j;
  each = λ to low high. absurd (omega arith);
}

-- no price is above what each step costs at most
module _ (cost : ℕ → ℕ → ℕ) (count : ℕ) (row : ℕ → List ℕ) (columns most : ℕ) (f : AreFilled cost count row columns)
    (cheap : (i to : ℕ) → i < to → to ≤ columns → cost i to ≤ most) where
  behind_zero : (xs : List ℕ) (i : ℕ) → length xs ≤ i → get_or xs i 0 ≡ 0
  behind_zero [] i h = refl
  behind_zero (x ∷ xs) zero h = absurd (omega arith)
  behind_zero (x ∷ xs) (suc i) h = behind_zero xs i (omega arith)

  small_inside : (j i : ℕ) → j < count → i < columns → get_or (row j) i 0 ≤ most
  small_inside zero i h inside =
      let is = (f.each (suc i) (omega arith) (omega arith)).one_step in
      let low = cheap 0 (suc i) (omega arith) (omega arith) in
      omega arith
  small_inside (suc j) i h inside =
      let least = ((f.each (suc i) (omega arith) (omega arith)).more_steps j h).lowest 0 (omega arith) in
      let low = cheap 0 (suc i) (omega arith) (omega arith) in
      omega arith

  pub small_prices : (j i : ℕ) → get_or (row j) i 0 ≤ most
  small_prices j i = elim (cases_lt j count) [
    | inl h ↦ elim (cases_lt i columns) [
      | inl inside ↦ small_inside j i h inside
      | inr out ↦ let wide = f.wide j h in let zero = behind_zero (row j) i (omega arith) in omega arith
    ]
    | inr h ↦ let none : get_or (row j) i 0 ≡ 0 = ap (λ r. get_or r i 0) (f.none j h) in omega arith
  ]

-- ---- a row that is written

pub row_set : {N : Type 0} (number : N → ℕ) (rows : List (Vec N)) (i : ℕ) (row : Vec N) → i < length rows → row_in number (set rows i row) i ≡ map number row.items
row_set number [] i row h = absurd (omega arith)
row_set number (first ∷ rows) zero row h = refl
row_set number (first ∷ rows) (suc i) row h = row_set number rows i row (omega arith)

pub row_kept : {N : Type 0} (number : N → ℕ) (rows : List (Vec N)) (i other : ℕ) (row : Vec N) → (other ≡ i → ⊥) → row_in number (set rows i row) other ≡ row_in number rows other
row_kept number [] i other row different = refl
row_kept number (first ∷ rows) zero zero row different = absurd (different refl)
row_kept number (first ∷ rows) zero (suc other) row different = refl
row_kept number (first ∷ rows) (suc i) zero row different = refl
row_kept number (first ∷ rows) (suc i) (suc other) row different = row_kept number rows i other row (λ e. different (ap suc e))

-- ---- rows that are handed on as numbers

-- a table that is filled stays so where its rows are the same
pub same_filled : (cost : ℕ → ℕ → ℕ) (count : ℕ) (row row' : ℕ → List ℕ) (columns : ℕ) → ((j : ℕ) → row' j ≡ row j) → AreFilled cost count row columns → AreFilled cost count row' columns
same_filled cost count row row' columns same f = record {
  wide = λ j h. ap length (same j) ∙ f.wide j h;
  none = λ j h. same j ∙ f.none j h;
  each = λ to low high.
      let c = f.each to low high in
      record {
        one_step = ap (λ r. price_up_to r to) (same 0) ∙ c.one_step;
        more_steps = λ j h.
            same_cheapest (price_up_to (row j)) (price_up_to (row' j)) (λ i. cost i to) (λ i. cost i to) to (price_up_to (row (suc j)) to) (price_up_to (row' (suc j)) to)
            (c.more_steps j h) (λ i l. ap (λ r. price_up_to r i) (same j)) (λ i l. refl) (ap (λ r. price_up_to r to) (same (suc j)));
      };
}

pub some_min : (a b : ℕ) → 1 ≤ a → 1 ≤ b → 1 ≤ min a b
some_min a b h k = grind arith

-- where totals are numbers, a row is its totals
numbers_of : (row : Option (Vec ℕ)) → option_map_or (λ r. r.items) row [] ≡ option_map_or (λ r. map (λ n. n) r.items) row []
numbers_of None = refl
numbers_of (Some row) = sym (map-id row.items)

pub numbers_in : (rows : List (Vec ℕ)) (j : ℕ) → row_at rows j ≡ row_in (λ n. n) rows j
numbers_in rows j = numbers_of (slice_get rows j)

-- ---- rows of as many steps as columns, or more

least_alike : (a b costs : ℕ → ℕ) (to p q : ℕ) → IsCheapest a costs to p → IsCheapest b costs to q → ((i : ℕ) → i < to → a i ≡ b i) → p ≡ q
least_alike a b costs to p q one other same =
    let there = one.reached in
    let here = other.reached in
    let low = one.lowest other.from other.inside in
    let high = other.lowest one.from one.inside in
    let x = same one.from one.inside in
    let y = same other.from other.inside in
    omega arith

same_rows : (a b : List ℕ) → length a ≡ length b → ((i : ℕ) → i < length a → get_or a i 0 ≡ get_or b i 0) → a ≡ b
same_rows [] [] long same = refl
same_rows [] (y ∷ b) long same = absurd (omega arith)
same_rows (x ∷ a) [] long same = absurd (omega arith)
same_rows (x ∷ a) (y ∷ b) long same =
    let first : x ≡ y = same 0 (omega arith) in
    let rest = same_rows a b (omega arith) (λ i h. same (suc i) (omega arith)) in
    λ k. first k ∷ rest k

module _ (cost : ℕ → ℕ → ℕ) (count : ℕ) (row : ℕ → List ℕ) (columns : ℕ) (f : AreFilled cost count row columns) where
  up_alike : (n to j : ℕ) → to ≤ n → to ≤ columns → to ≤ suc j → suc j < count → price_up_to (row (suc j)) to ≡ price_up_to (row j) to
  up_alike n zero j below inside near few = refl
  up_alike zero (suc to) j below inside near few = absurd (omega arith)
  up_alike (suc n) (suc zero) zero below inside near few =
      let c = f.each 1 (omega arith) inside in
      let more = c.more_steps 0 few in
      let step = c.one_step in
      let first : more.from ≡ 0 = let h = more.inside in omega arith in
      let at : price_up_to (row 1) 1 ≡ 0 + cost 0 1 = more.reached ∙ (λ k. price_up_to (row 0) (first k) + cost (first k) 1) in
      omega arith
  up_alike (suc n) (suc (suc to)) zero below inside near few = absurd (omega arith)
  up_alike (suc n) (suc to) (suc j) below inside near few =
      let c = f.each (suc to) (omega arith) inside in
      least_alike (price_up_to (row (suc j))) (price_up_to (row j)) (λ i. cost i (suc to)) (suc to) (price_up_to (row (suc (suc j))) (suc to)) (price_up_to (row (suc j)) (suc to))
      (c.more_steps (suc j) few) (c.more_steps j (omega arith))
      (λ i h. up_alike n i j (omega arith) (omega arith) (omega arith) (omega arith))

  pub alike_filled : AreAlike columns count row
  alike_filled j far few =
      let here = f.wide j (omega arith) in
      let there = f.wide (suc j) few in
      same_rows (row (suc j)) (row j) (omega arith) (λ i h. up_alike (suc i) (suc i) j (omega arith) (omega arith) (omega arith) few)

-- from the row `first` on they are all as that one
pub alike_from : (first count : ℕ) (row : ℕ → List ℕ) → AreAlike (suc first) count row → (j : ℕ) → first ≤ j → j < count → row j ≡ row first
alike_from first count row alike zero far few = ap row (let e : zero ≡ first = omega arith in e)
alike_from first count row alike (suc j) far few = elim (next_or_at_most first j far) [
  | inl there ↦ ap row (sym there)
  | inr behind ↦ alike j (omega arith) few ∙ alike_from first count row alike j behind (omega arith)
]
