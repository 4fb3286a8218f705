-- The table of least prices is the greatest sound one, which is one alone; and the steps that are read off it are the chosen profile.
use Rattle.std.proofs.Common.{◌≡◌, ◌≢◌, refl, ap, ap₂, ◌∙◌, arith, subst, ℕ, zero, suc, ◌+◌, ◌-◌, ◌%◌, ◌<◌, ◌≤◌, Bool, true, false, List, [], ◌∷◌, ◌++◌, length, Option, Some, None, option_map, ◌==◌}
use Rattle.std.specs.Prelude.{find, unwrap_or, slice_index}
use Rattle.std.specs.List.{list_all, range_with_len}
use Rattle.std.proofs.lemmas.Bool.{eq-eqb, eqb-true, both_ways}
use Rattle.rbc_model.specs.Levels.{Levels, IsLawful}
use Rattle.rbc_model.specs.Profiles.{value_at, IsTrackFunction}
use Rattle.rbc_model.specs.PriceTables.{table_at, row_count, stretch_count, step_cost, break_at, IsSoundTable, IsGreatestSoundTable}
use Rattle.rbc_model.proofs.CountingLemmas.{both_of}
use Rattle.rbc_model.proofs.ScanLemmas.{IsFirst, find-numbers, find-numbers_none}
use Rattle.rbc_table_laws.specs.TableLaws.{row_price, last_price}
use Rattle.rbc_table_laws.specs.Tracebacks.{IsStepBack, IsTraceback, IsOnWay, IsFound, IsReadOff}
use Rattle.rbc_table_laws.specs.LeastTables.{least_price, filled, first_below, step_at, greatest_prices, break_back, floor_between, steps_back, first_row, steps_read, chosen_steps, GreatestTablesAreOne, LeastPricesAreGreatest, StepsReadAreChosen}
use Rattle.rbc_table_laws.proofs.FilledTableLemmas.{least_found, filled_at, filled_sound}
use Rattle.rbc_table_laws.proofs.LeastLemmas.{least_between}
use Rattle.rbc_table_laws.proofs.TraceLemmas.{some_stretches, breaks, at_most_end, chosen_of_read}
use Rattle.rbc_table_laws.proofs.PathLemmas.{breaks_below}
use Rattle.rbc_table_laws.proofs.BreakLemmas.{covered_of}
use Rattle.rbc_table_laws.proofs.SearchLemmas.{is_found}
use Rattle.rbc_table_laws.proofs.ReadOffLemmas.{read_of_trace}

-- ---- a table is known by its prices

same_row : (xs ys : List ℕ) → length xs ≡ length ys → ((i : ℕ) → i < length xs → slice_index xs i ≡ slice_index ys i) → xs ≡ ys
same_row [] [] e same = refl
same_row [] (y ∷ ys) e same = absurd (omega arith)
same_row (x ∷ xs) [] e same = absurd (omega arith)
same_row (x ∷ xs) (y ∷ ys) e same = ap₂ (λ a b. a ∷ b) (same 0 (omega arith)) (same_row xs ys (omega arith) (λ i h. same (suc i) (omega arith)))

same_table : (width : ℕ) (a b : List (List ℕ)) → length a ≡ length b → list_all (λ row. length row == width) a ≡ true → list_all (λ row. length row == width) b ≡ true
    → ((j i : ℕ) → j < length a → i < width → table_at a (suc j) (suc i) ≡ table_at b (suc j) (suc i)) → a ≡ b
same_table width [] [] e p q same = refl
same_table width [] (y ∷ ys) e p q same = absurd (omega arith)
same_table width (x ∷ xs) [] e p q same = absurd (omega arith)
same_table width (x ∷ xs) (y ∷ ys) e p q same =
    let a = both_of (length x == width) (list_all (λ row. length row == width) xs) p in
    let b = both_of (length y == width) (list_all (λ row. length row == width) ys) q in
    let first = eqb-true (length x) width a.0 in
    let second = eqb-true (length y) width b.0 in
    ap₂ (λ r s. r ∷ s) (same_row x y (omega arith) (λ i h. same 0 i (omega arith) (omega arith)))
    (same_table width xs ys (omega arith) a.1 b.1 (λ j i h k. same (suc j) i (omega arith) k))

module _ {V : Type 0} (levels : Levels V) (unit limit n : ℕ) (runs : List (ℕ × V)) where
  abbrev m : ℕ
  m = stretch_count levels unit limit n runs

  abbrev last_row : ℕ
  last_row = row_count levels unit limit n runs

  abbrev cost : ℕ → ℕ → ℕ
  cost = step_cost levels unit limit n runs

  one_greatest : (rows other : List (List ℕ)) → IsGreatestSoundTable levels unit limit n runs rows → IsGreatestSoundTable levels unit limit n runs other → rows ≡ other
  one_greatest rows other g h =
      let shape = g.sound.shape in
      let shape' = h.sound.shape in
      same_table m rows other (omega arith) g.sound.widths h.sound.widths
      (λ j i row column.
      let up = h.greatest rows g.sound (suc j) (suc i) (omega arith) (omega arith) (omega arith) in
      let down = g.greatest other h.sound (suc j) (suc i) (omega arith) (omega arith) (omega arith) in
      omega arith)

  -- no sound table has a higher price than the least one
  below_least : (other : List (List ℕ)) → IsSoundTable levels unit limit n runs other → (j i : ℕ) → j < last_row → i ≤ m → table_at other (suc j) i ≤ least_price cost j i
  unfolding least_price
  below_least other sound zero zero row column = omega arith
  below_least other sound zero (suc i) row column = sound.one_step (suc i) column
  below_least other sound (suc j) zero row column = omega arith
  below_least other sound (suc j) (suc i) row column =
      let found = least_found i (λ from. least_price cost j from + cost from (suc i)) in
      let low = found.1 in
      let price = found.2 in
      let before = below_least other sound j found.0 (omega arith) (omega arith) in
      let step = sound.more_steps (suc j) found.0 (suc i) (omega arith) row (omega arith) column in
      omega arith

  least_is_greatest : IsGreatestSoundTable levels unit limit n runs (greatest_prices levels unit limit n runs)
  unfolding greatest_prices
  least_is_greatest = record { sound = filled_sound levels unit limit n runs; greatest = below }
    where
      below : (other : List (List ℕ)) → IsSoundTable levels unit limit n runs other → (j i : ℕ) → 1 ≤ j → j ≤ last_row → i ≤ m → table_at other j i ≤ table_at (filled cost last_row m) j i
      below other sound zero i some row column = absurd (omega arith)
      below other sound (suc j) i some row column =
          let low = below_least other sound j i row column in
          let at = filled_at cost last_row m j i row column in
          omega arith

-- ---- the first number that passes

pub first_below-found : (bound : ℕ) (test : ℕ → Bool) (k : ℕ) → k < bound → test k ≡ true → IsFirst test 0 bound (first_below bound test)
first_below-found bound test k inside passes = by_find (find test (range_with_len 0 bound)) refl
  where
    by_find : (o : Option ℕ) → find test (range_with_len 0 bound) ≡ o → IsFirst test 0 bound (unwrap_or o bound)
    by_find None e = absurd (both_ways (test k) (find-numbers_none test 0 bound e k (omega arith) (omega arith)) passes)
    by_find (Some i) e = find-numbers test 0 bound i e

not_same : (a b : ℕ) → (a == b) ≡ false → a ≢ b
not_same a b e h = let same = eq-eqb a b h in cc

step_at-some : {V : Type 0} (start : ℕ) (o : Option V) (v : V) (later : List (ℕ × V)) → o ≡ Some v → (start, v) ∷ later ≡ step_at start o ++ later
step_at-some start o v later e = rw e refl

-- ---- the steps read off a greatest sound table

module _ {V : Type 0} (levels : Levels V) (lawful : IsLawful levels) (unit limit n : ℕ) (some : 0 < unit) (whole : n % unit ≡ 0)
    (runs : List (ℕ × V)) (track : IsTrackFunction levels n runs) (rows : List (List ℕ)) (greatest : IsGreatestSoundTable levels unit limit n runs rows) where
  abbrev columns : ℕ
  columns = stretch_count levels unit limit n runs

  abbrev all_rows : ℕ
  all_rows = row_count levels unit limit n runs

  abbrev break : ℕ → ℕ
  break = break_at levels unit limit n runs

  found : IsFound levels unit limit n runs rows
  found = is_found levels unit limit n runs rows greatest lawful some whole track

  abbrev adds_up : ℕ → ℕ → ℕ → Bool
  adds_up j i' i = table_at rows j i + step_cost levels unit limit n runs i i' == table_at rows (suc j) i'

  back_found : (j i' : ℕ) → j < all_rows → i' ≤ columns → IsOnWay levels unit limit n runs rows (suc j) i' → IsFirst (adds_up j i') 0 i' (break_back levels unit limit n runs rows j i')
  unfolding break_back
  back_found j i' row column on =
      let there = found.some_break j i' row column on in
      first_below-found i' (adds_up j i') there.0 there.1 (eq-eqb (table_at rows j there.0 + step_cost levels unit limit n runs there.0 i') (table_at rows (suc j) i') there.2)

  trace_of : (j i' : ℕ) → j ≤ all_rows → i' ≤ columns → IsOnWay levels unit limit n runs rows j i' → IsTraceback levels unit limit n runs rows j i' (steps_back levels unit limit n runs rows j i')
  unfolding steps_back
  trace_of zero i' row column on = on.start refl
  trace_of (suc j) i' row column on =
      let b = break_back levels unit limit n runs rows j i' in
      let f = back_found j i' row column on in
      let high = f.high in
      let inside : b < i' = omega arith in
      let is = eqb-true (table_at rows j b + step_cost levels unit limit n runs b i') (table_at rows (suc j) i') f.passes in
      let first : (k : ℕ) → k < b → table_at rows j k + step_cost levels unit limit n runs k i' ≢ table_at rows (suc j) i' =
      λ k h. not_same (table_at rows j k + step_cost levels unit limit n runs k i') (table_at rows (suc j) i') (f.before k (omega arith) h) in
      let covered = covered_of levels lawful n runs track in
      let up = breaks_below levels unit limit n (value_at runs) columns break lawful covered (breaks levels lawful unit limit n some whole runs track) b i' inside column in
      let l = least_between levels n (value_at runs) lawful covered (break b) (break i') up (at_most_end levels lawful unit limit n some whole runs track i' column) in
      let value : floor_between levels unit limit n runs rows (break b) (break i') ≡ Some (levels.floor l.least) = ap (option_map levels.floor) l.is in
      let step : IsStepBack levels unit limit n runs rows j i' b (break b, levels.floor l.least) = record { earlier = inside; adds_up = is; first = first; start = refl; value = value } in
      subst (IsTraceback levels unit limit n runs rows (suc j) i')
      (step_at-some (break b) (floor_between levels unit limit n runs rows (break b) (break i')) (levels.floor l.least) (steps_back levels unit limit n runs rows j b) value)
      (b, step, trace_of j b (omega arith) (omega arith) (found.next j i' b row column on inside is first))

  abbrev is_last : ℕ → Bool
  is_last k = row_price levels unit limit n runs rows (suc k) == last_price levels unit limit n runs rows

  record IsFirstRow (row : ℕ) : Type 0 where
    low : 1 ≤ row
    high : row ≤ all_rows
    price : row_price levels unit limit n runs rows row ≡ last_price levels unit limit n runs rows
    before : (k : ℕ) → 1 ≤ k → k < row → row_price levels unit limit n runs rows k ≢ last_price levels unit limit n runs rows

  row_found : 0 < limit → IsFirstRow (first_row levels unit limit n runs rows)
  unfolding first_row
  row_found some_steps =
      let stretches = some_stretches levels lawful unit limit n some whole runs track columns refl in
      let some_row : 0 < all_rows = omega arith in
      let count : suc (all_rows - 1) ≡ all_rows = omega arith in
      let f = first_below-found all_rows is_last (all_rows - 1) (omega arith)
      (eq-eqb (row_price levels unit limit n runs rows (suc (all_rows - 1))) (last_price levels unit limit n runs rows) (ap (row_price levels unit limit n runs rows) count)) in
      let high = f.high in
      record {
        low = omega arith;
        high = omega arith;
        price = eqb-true (row_price levels unit limit n runs rows (suc (first_below all_rows is_last))) (last_price levels unit limit n runs rows) f.passes;
        before = before (first_below all_rows is_last) f.before;
      }
    where
      before : (at : ℕ) → ((k : ℕ) → 0 ≤ k → k < at → is_last k ≡ false) → (k : ℕ) → 1 ≤ k → k < suc at → row_price levels unit limit n runs rows k ≢ last_price levels unit limit n runs rows
      before at none zero some_row fewer = absurd (omega arith)
      before at none (suc k) some_row fewer = not_same (row_price levels unit limit n runs rows (suc k)) (last_price levels unit limit n runs rows) (none k (omega arith) (omega arith))

  are_read : 0 < limit → IsReadOff levels unit limit n runs rows (steps_read levels unit limit n runs rows)
  unfolding steps_read
  are_read some_steps =
      let row = first_row levels unit limit n runs rows in
      let f = row_found some_steps in
      let on = found.begins row f.low f.high (λ k some_row fewer e. f.before k some_row fewer (e ∙ f.price)) in
      read_of_trace levels unit limit n runs rows row (steps_back levels unit limit n runs rows row columns) f.high f.price f.before (trace_of row columns f.high (omega arith) on)

module _ {V : Type 0} (levels : Levels V) (lawful : IsLawful levels) where
  pub greatest_tables_are_one : GreatestTablesAreOne levels
  greatest_tables_are_one = one_greatest levels

  pub least_prices_are_greatest : LeastPricesAreGreatest levels
  least_prices_are_greatest = least_is_greatest levels

  pub steps_read_are_chosen : StepsReadAreChosen levels
  unfolding chosen_steps
  steps_read_are_chosen = λ unit limit n some whole some_steps runs track.
      let prices = greatest_prices levels unit limit n runs in
      let greatest = least_is_greatest levels unit limit n runs in
      chosen_of_read levels lawful unit limit n some whole runs track prices greatest (steps_read levels unit limit n runs prices)
      (are_read levels lawful unit limit n some whole runs track prices greatest some_steps)
