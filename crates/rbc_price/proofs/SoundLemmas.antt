-- Tables that are kept as totals, and what a sound column says of its places.
use Rattle.std.proofs.Common.{◌≡◌, refl, ap, sym, ◌∙◌, arith, ℕ, zero, suc, ◌+◌, ◌<◌, ◌≤◌, List, [], ◌∷◌, ◌++◌, length, length-append, get_or, map, subst}
use Rattle.std.specs.Prelude.{Option, Some, IfSome}
use Rattle.std.specs.Global.{Vec}
use Rattle.rbc_model.specs.Levels.{Levels}
use Rattle.rbc_model.specs.Profiles.{StepFunction}
use Rattle.rbc_model.specs.PriceTables.{table_at}
use Rattle.rbc_model.specs.Scales.{unit_of}
use Rattle.rbc_table_laws.specs.PriceRows.{prices_of, AreWide}
use Rattle.rbc_table_laws.specs.Stretches.{cost_of_step}
use Rattle.rbc_costs.specs.Sums.{price_up_to, row_in}
use Rattle.rbc_price.specs.declared.places.PricePlace.{PricePlace}
use Rattle.rbc_price.specs.Places.{IsTooHigh}
use Rattle.rbc_price.specs.Totals.{AreTotals, IsSoundColumn}

pub some_of : {X : Type 0} (P : X → Type 0) (o : Option X) (x : X) → o ≡ Some x → IfSome o P → P x
some_of P o x e h = subst (λ o. IfSome o P) e h

pub wide_at : (rows : List (Vec ℕ)) (width j : ℕ) → AreWide width rows → j < length rows → length (get_or (prices_of rows) j []) ≡ width
wide_at [] width j wide h = absurd (omega arith)
wide_at (row ∷ rows) width zero wide h = wide 0 row refl
wide_at (row ∷ rows) width (suc j) wide h = wide_at rows width j (λ k r at. wide (suc k) r at) (omega arith)

-- ---- one more

pub small_more : (numbers : List ℕ) (last most : ℕ) → ((i : ℕ) → get_or numbers i 0 ≤ most) → last ≤ most → (i : ℕ) → get_or (numbers ++ last ∷ []) i 0 ≤ most
small_more [] last most small low zero = low
small_more [] last most small low (suc i) = omega arith
small_more (x ∷ numbers) last most small low zero = small 0
small_more (x ∷ numbers) last most small low (suc i) = small_more numbers last most (λ k. small (suc k)) low i

module _ {N : Type 0} (number : N → ℕ) where
  row_more : (table : List (Vec N)) (prices : List (List ℕ)) (last : Vec N) (price : List ℕ) → length table ≡ length prices → ((j : ℕ) → row_in number table j ≡ get_or prices j [])
      → map number last.items ≡ price → (j : ℕ) → row_in number (table ++ last ∷ []) j ≡ get_or (prices ++ price ∷ []) j []
  row_more [] [] last price e same is zero = is
  row_more [] [] last price e same is (suc j) = refl
  row_more [] (p ∷ prices) last price e same is j = absurd (omega arith)
  row_more (t ∷ table) [] last price e same is j = absurd (omega arith)
  row_more (t ∷ table) (p ∷ prices) last price e same is zero = same 0
  row_more (t ∷ table) (p ∷ prices) last price e same is (suc j) = row_more table prices last price (omega arith) (λ k. same (suc k)) is j

  small_rows : (table : List (Vec N)) (last : Vec N) (most : ℕ) → ((j i : ℕ) → get_or (row_in number table j) i 0 ≤ most) → ((i : ℕ) → get_or (map number last.items) i 0 ≤ most)
      → (j i : ℕ) → get_or (row_in number (table ++ last ∷ []) j) i 0 ≤ most
  small_rows [] last most small low zero i = low i
  small_rows [] last most small low (suc j) i = omega arith
  small_rows (t ∷ table) last most small low zero i = small 0 i
  small_rows (t ∷ table) last most small low (suc j) i = small_rows table last most (λ k. small (suc k)) low j i

  pub totals_more : (most : ℕ) (prices : List (List ℕ)) (table : List (Vec N)) (last : Vec N) (price : List ℕ) → AreTotals number most prices table → map number last.items ≡ price
      → ((i : ℕ) → get_or (map number last.items) i 0 ≤ most) → AreTotals number most (prices ++ price ∷ []) (table ++ last ∷ [])
  totals_more most prices table last price are is low = record {
    count = length-append table (last ∷ []) ∙ ap (λ n. n + 1) are.count ∙ sym (length-append prices (price ∷ []));
    same = row_more table prices last price are.count are.same is;
    small = small_rows table last most are.small low;
  }

-- ---- what a sound column says

module _
    {V N : Type 0}
    (levels : Levels V)
    (track : StepFunction V)
    (number : N → ℕ)
    (most : ℕ)
    (prices : List (List ℕ))
    (table : List (Vec N))
    (are : AreTotals number most prices table)
    (to : ℕ)
    (costs : ℕ → ℕ)
    (is : (i : ℕ) → i < to → costs i ≡ cost_of_step levels (unit_of track.end) track i to)
    (sound : IsSoundColumn (row_in number table) (length table) to costs) where
  price_is : (j i : ℕ) → table_at prices (suc j) i ≡ price_up_to (row_in number table j) i
  price_is j zero = refl
  price_is j (suc i) = ap (λ row. get_or row i 0) (sym (are.same j))

  -- no price of the column is too high
  pub none_here : (place : PricePlace) → place.to ≡ to → IsTooHigh levels track prices place → ⊥
  none_here place here high = by_row place.row refl
    where
      column : (row : ℕ) → place.row ≡ row → table_at prices (suc place.row) place.to ≡ price_up_to (row_in number table row) to
      column row e = ap (λ r. table_at prices (suc r) place.to) e ∙ ap (table_at prices (suc row)) here ∙ price_is row to

      by_row : (row : ℕ) → place.row ≡ row → ⊥
      by_row zero e =
          let from = high.dearer.start e in
          let above = high.dearer.above in
          let price = column zero e in
          let cost : cost_of_step levels (unit_of track.end) track place.from place.to ≡ costs 0 =
          ap (λ f. cost_of_step levels (unit_of track.end) track f place.to) from ∙ ap (cost_of_step levels (unit_of track.end) track 0) here ∙ sym (is 0 (omega (arith, here, high.on))) in
          let first = sound.first in
          omega (arith, above, price, cost, first)
      by_row (suc j) e =
          let above = high.dearer.above in
          let price = column (suc j) e in
          let before : table_at prices place.row place.from ≡ price_up_to (row_in number table j) place.from = ap (λ r. table_at prices r place.from) e ∙ price_is j place.from in
          let cost : cost_of_step levels (unit_of track.end) track place.from place.to ≡ costs place.from =
          ap (cost_of_step levels (unit_of track.end) track place.from) here ∙ sym (is place.from (omega (arith, here, high.on))) in
          let low = sound.later j (omega (arith, e, high.inside, are.count)) place.from (omega (arith, here, high.on)) in
          omega (arith, above, price, before, cost, low)
