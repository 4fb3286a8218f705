-- A table whose columns are filled with the least prices is the greatest sound one.
use Rattle.std.proofs.Common.{◌≡◌, refl, ap, sym, ◌∙◌, arith, ℕ, zero, suc, ◌+◌, ◌-◌, ◌<◌, ◌≤◌, true, ◌==◌, Option, List, [], ◌∷◌, length, get_or, min}
use Rattle.std.specs.List.{list_all}
use Rattle.std.specs.Global.{Vec}
use Rattle.std.proofs.lemmas.List.{length-map}
use Rattle.rbc_model.specs.Levels.{Levels}
use Rattle.rbc_model.specs.Profiles.{StepFunction, value_at, starts_of}
use Rattle.rbc_model.specs.PriceTables.{breaks_of, cost, stretch_count, row_count, IsSoundTable, IsGreatestSoundTable}
use Rattle.rbc_model.proofs.TableLemmas.{greatest_of_reached}
use Rattle.rbc_table_laws.specs.Stretches.{AreBreaksFor, cost_of_step}
use Rattle.rbc_table_laws.specs.PriceRows.{prices_of, AreWide}
use Rattle.rbc_table_laws.proofs.StretchLemmas.{stretches_for}
use Rattle.rbc_reduce.specs.Rows.{AreFilled, AreSmall, price_in, price_up_to, row_at}
use Rattle.rbc_reduce.proofs.RowLemmas.{small_prices}
use Rattle.std.proofs.lemmas.Bool.{and_from, eq-eqb}

-- a price, read by its row
pub price_read : (rows : List (Vec ℕ)) (j i : ℕ) → price_in rows (suc j) i ≡ price_up_to (row_at rows j) i
price_read rows j zero = refl
price_read rows j (suc i) = ap (λ row. get_or row i 0) (same_row rows j)
  where
    same_row : (rows : List (Vec ℕ)) (j : ℕ) → get_or (prices_of rows) j [] ≡ row_at rows j
    same_row [] j = refl
    same_row (row ∷ rows) zero = refl
    same_row (row ∷ rows) (suc j) = same_row rows j

cost_of_none : {V : Type 0} (levels : Levels V) (track : ℕ → Option V) (x : ℕ) → cost levels track x x ≡ 0
cost_of_none levels track x = let e : x - x ≡ 0 = omega arith in rw e refl

widths : (rows : List (Vec ℕ)) (m : ℕ) → ((j : ℕ) → j < length rows → length (row_at rows j) ≡ m) → list_all (λ row. length row == m) (prices_of rows) ≡ true
widths [] m wide = refl
widths (row ∷ rows) m wide =
    and_from (length row.items == m) (list_all (λ row. length row == m) (prices_of rows)) (eq-eqb (length row.items) m (wide 0 (omega arith))) (widths rows m (λ j h. wide (suc j) (omega arith)))

pub wide_rows : (width : ℕ) (rows : List (Vec ℕ)) → ((j : ℕ) → j < length rows → length (row_at rows j) ≡ width) → AreWide width rows
wide_rows width [] wide j row e = absurd (cc)
wide_rows width (first ∷ rows) wide zero row e = let same : first ≡ row = cc in ap (λ (r : Vec ℕ). length r.items) (sym same) ∙ wide 0 (omega arith)
wide_rows width (first ∷ rows) wide (suc j) row e = wide_rows width rows (λ k h. wide (suc k) (omega arith)) j row e

pub small_in : (cost : ℕ → ℕ → ℕ) (rows : List (Vec ℕ)) (columns : ℕ) → AreFilled cost (length rows) (row_at rows) columns → ((i to : ℕ) → i < to → to ≤ columns → cost i to ≤ 100000000000)
    → (j : ℕ) → AreSmall (price_in rows j)
small_in cost rows columns f cheap zero i = omega arith
small_in cost rows columns f cheap (suc j) zero = omega arith
small_in cost rows columns f cheap (suc j) (suc i) =
    let read = price_read rows j (suc i) in
    let low = small_prices cost (length rows) (row_at rows) columns 100000000000 f cheap j i in
    omega arith

module _ {V : Type 0} (levels : Levels V) (unit limit : ℕ) (track : StepFunction V) (breaks : List ℕ) (are : AreBreaksFor unit track breaks) (rows : List (Vec ℕ)) (columns : ℕ)
    (width : length breaks ≡ columns + 1) (f : AreFilled (cost_of_step levels unit track) (length rows) (row_at rows) columns) where
  one_step : (i : ℕ) → i ≤ columns → price_in rows 1 i ≡ cost_of_step levels unit track 0 i
  one_step zero h = sym (cost_of_none levels (value_at track.steps) (get_or (breaks_of unit track.end (starts_of track.steps)) 0 0))
  one_step (suc i) h = price_read rows 0 (suc i) ∙ (f.each (suc i) (omega arith) h).one_step

  lowest : (j i i' : ℕ) → 1 ≤ j → j < length rows → i < i' → i' ≤ columns → price_in rows (suc j) i' ≤ price_in rows j i + cost_of_step levels unit track i i'
  lowest zero i i' low high below column = absurd (omega arith)
  lowest (suc j) i i' low high below column =
      let c = f.each i' (omega arith) column in
      let least = (c.more_steps j (omega arith)).lowest i below in
      let here = price_read rows (suc j) i' in
      let there = price_read rows j i in
      omega arith

  reached : (j i' : ℕ) → 1 ≤ j → j < length rows → 1 ≤ i' → i' ≤ columns → (i : ℕ) × (i < i') × (price_in rows (suc j) i' ≡ price_in rows j i + cost_of_step levels unit track i i')
  reached zero i' low high some column = absurd (omega arith)
  reached (suc j) i' low high some column =
      let c = f.each i' some column in
      let least = c.more_steps j (omega arith) in
      let is = least.reached in
      let here = price_read rows (suc j) i' in
      let there = price_read rows j least.from in
      (least.from, least.inside, omega arith)

  pub filled_is_greatest : length rows ≡ min limit columns → IsGreatestSoundTable levels unit limit track.end track.steps (prices_of rows)
  filled_is_greatest count =
      let m : stretch_count levels unit limit track.end track.steps ≡ columns = stretches_for unit track breaks are levels limit ∙ omega arith in
      let same_count : length (prices_of rows) ≡ length rows = length-map rows (λ row. row.items) in
      let shape : length (prices_of rows) ≡ row_count levels unit limit track.end track.steps = same_count ∙ count ∙ ap (min limit) (sym m) in
      let sound : IsSoundTable levels unit limit track.end track.steps (prices_of rows) = record {
        shape = shape;
        widths = widths rows (stretch_count levels unit limit track.end track.steps) (λ j h. f.wide j h ∙ sym m);
        one_step = λ i column. let e = one_step i (omega arith) in omega arith;
        more_steps = λ j i i' low high below column. lowest j i i' low (omega arith) below (omega arith);
      } in
      greatest_of_reached levels unit limit track.end track.steps (prices_of rows) sound (record {
        one_step = λ i column. one_step i (omega arith);
        more_steps = λ j i' low high some column. reached j i' low (omega arith) some (omega arith);
      })
