-- The first answer of a row of numbers, and the first price that is too high as it is found by its place.
use Rattle.std.proofs.Common.{◌≡◌, refl, ap, sym, ◌∙◌, arith, ℕ, zero, suc, ◌+◌, ◌<◌, ◌≤◌, ◌⊎◌, inl, inr, Bool, true, false, List, length, Option, Some, None, Err, nat_le, if◌then◌else◌}
use Rattle.std.specs.Option.{option_or}
use Rattle.std.proofs.lemmas.Bool.{le-leb, lt-leb}
use Rattle.std.proofs.lemmas.Bool.Decides.{nat_tests}
use Rattle.rbc_model.specs.declared.prices.Reason.{Reason}
use Rattle.rbc_model.specs.declared.prices.Reason.TheVariants.{Inequality}
use Rattle.rbc_model.specs.Levels.{Levels}
use Rattle.rbc_model.specs.Profiles.{StepFunction}
use Rattle.rbc_model.specs.PriceTables.{table_at, break_at, step_cost}
use Rattle.rbc_model.specs.PriceChecks.{first_from, columns, steps_of_use, too_high_at, starts_before, first_too_high, unless_some}
use Rattle.rbc_model.specs.Scales.{unit_of}
use Rattle.rbc_price.specs.Columns.{stretches_of}
use Rattle.rbc_price.specs.declared.places.PricePlace.{PricePlace}
use Rattle.rbc_price.specs.Places.{IsTooHigh, comes_before}
use Rattle.rbc_model.proofs.ScanLemmas.{le_or_lt}

-- ---- the first answer

here_or_later : (start i : ℕ) → start ≤ i → (i ≡ start) ⊎ (suc start ≤ i)
here_or_later start i h = grind arith

module _ {A : Type 0} where
  pub first_from-none : (start count : ℕ) (answer : ℕ → Option A) → ((i : ℕ) → start ≤ i → i < start + count → answer i ≡ None) → first_from start count answer ≡ None
  first_from-none start zero answer none = refl
  first_from-none start (suc count) answer none =
      rw (none start (omega arith) (omega arith)) (first_from-none (suc start) count answer (λ i low high. none i (omega arith) (omega arith)))

  pub first_from-some : (start count i : ℕ) (answer : ℕ → Option A) (x : A) → start ≤ i → i < start + count → answer i ≡ Some x
      → ((k : ℕ) → start ≤ k → k < i → answer k ≡ None) → first_from start count answer ≡ Some x
  first_from-some start zero i answer x low high at before = absurd (omega arith)
  first_from-some start (suc count) i answer x low high at before = elim (here_or_later start i low) [
    | inl e ↦ let here : answer start ≡ Some x = ap answer (sym e) ∙ at in rw here refl
    | inr l ↦ rw (before start (omega arith) (omega arith)) (first_from-some (suc start) count i answer x l (omega arith) at (λ k a b. before k (omega arith) b))
  ]

  neither : (o p : Option A) → option_or o p ≡ None → (o ≡ None) × (p ≡ None)
  neither None p e = (refl, e)
  neither (Some x) p e = absurd (cc)

  pub none_at : (start count : ℕ) (answer : ℕ → Option A) → first_from start count answer ≡ None → (i : ℕ) → start ≤ i → i < start + count → answer i ≡ None
  none_at start zero answer e i low high = absurd (omega arith)
  none_at start (suc count) answer e i low high =
      let n = neither (answer start) (first_from (suc start) count answer) e in
      elim (here_or_later start i low) [
        | inl same ↦ ap answer same ∙ n.0
        | inr l ↦ none_at (suc start) count answer n.1 i l (omega arith)
      ]

-- ---- prices that are too high, by their places

pub or_none : (test : Bool) (reason : Reason) → test ≡ true → (if test then None else Some reason) ≡ None
or_none test reason e = rw e refl

pub or_some : (test : Bool) (reason : Reason) → test ≡ false → (if test then None else Some reason) ≡ Some reason
or_some test reason e = rw e refl

pub test_of_none : (test : Bool) (reason : Reason) → (if test then None else Some reason) ≡ None → test ≡ true
test_of_none true reason e = refl
test_of_none false reason e = absurd (cc)

by_row : (a b : PricePlace) → a.row < b.row → comes_before a b ≡ true
by_row a b h = grind (arith, nat_tests)

by_column : (a b : PricePlace) → a.row ≡ b.row → a.to < b.to → comes_before a b ≡ true
by_column a b e h = grind (arith, nat_tests)

by_start : (a b : PricePlace) → a.row ≡ b.row → a.to ≡ b.to → a.from < b.from → comes_before a b ≡ true
by_start a b e f h = grind (arith, nat_tests)

module _ {V : Type 0} (levels : Levels V) (limit : ℕ) (track : StepFunction V) (rows : List (List ℕ)) where
  -- the reason that a place is
  abbrev pub reason_at : PricePlace → Reason
  reason_at place =
      Inequality (suc place.row) (break_at levels (unit_of track.end) limit track.end track.steps place.from) (break_at levels (unit_of track.end) limit track.end track.steps place.to)

  -- the refusal that it is
  pub refused_at : (place : PricePlace) (row from to : ℕ) → row ≡ suc place.row → from ≡ break_at levels (unit_of track.end) limit track.end track.steps place.from
      → to ≡ break_at levels (unit_of track.end) limit track.end track.steps place.to → first_too_high levels limit track rows ≡ Some (reason_at place)
      → Err (Inequality row from to) ≡ unless_some (first_too_high levels limit track rows)
  refused_at place row from to e f g found =
      ap (λ k. Err (Inequality k from to)) e ∙ ap (λ k. Err (Inequality (suc place.row) k to)) f
      ∙ ap (λ k. Err (Inequality (suc place.row) (break_at levels (unit_of track.end) limit track.end track.steps place.from) k)) g ∙ ap unless_some (sym found)

  starts_low : (j i i' : ℕ) → 1 ≤ i' → i < starts_before levels limit track rows j i' → (i < i') × (j ≡ 0 → i ≡ 0)
  starts_low zero i i' some h = (omega arith, λ e. omega arith)
  starts_low (suc j) i i' some h = (h, λ e. absurd (omega arith))

  low_starts : (j i i' : ℕ) → i < i' → (j ≡ 0 → i ≡ 0) → i < starts_before levels limit track rows j i'
  low_starts zero i i' on start = let e = start refl in omega arith
  low_starts (suc j) i i' on start = on

  high_at : (place : PricePlace) → IsTooHigh levels track rows place → too_high_at levels limit track rows place.row place.to place.from ≡ Some (reason_at place)
  high_at place high =
      let above = high.dearer.above in
      or_some (nat_le (table_at rows (suc place.row) place.to) (table_at rows place.row place.from + step_cost levels (unit_of track.end) limit track.end track.steps place.from place.to)) (reason_at place)
      (lt-leb (table_at rows (suc place.row) place.to) (table_at rows place.row place.from + step_cost levels (unit_of track.end) limit track.end track.steps place.from place.to) above)

  low_at : (place : PricePlace) → place.row < length rows → 1 ≤ place.to → place.to ≤ stretches_of track
      → place.from < starts_before levels limit track rows place.row place.to → (IsTooHigh levels track rows place → ⊥)
      → too_high_at levels limit track rows place.row place.to place.from ≡ None
  low_at place row some column start low =
      let s = starts_low place.row place.from place.to some start in
      or_none (nat_le (table_at rows (suc place.row) place.to) (table_at rows place.row place.from + step_cost levels (unit_of track.end) limit track.end track.steps place.from place.to)) (reason_at place)
      (elim (le_or_lt (table_at rows (suc place.row) place.to) (table_at rows place.row place.from + step_cost levels (unit_of track.end) limit track.end track.steps place.from place.to)) [
        | inl h ↦ le-leb (table_at rows (suc place.row) place.to) (table_at rows place.row place.from + step_cost levels (unit_of track.end) limit track.end track.steps place.from place.to) h
        | inr h ↦ absurd (low (record { inside = row; on = s.0; column = column; dearer = record { start = s.1; above = h } }))
      ])

  module _ (rows_are : length rows ≡ steps_of_use levels limit track rows) where
    abbrev in_row : ℕ → ℕ → Option Reason
    in_row j i' = first_from 0 (starts_before levels limit track rows j i') (too_high_at levels limit track rows j i')

    abbrev in_rows : ℕ → Option Reason
    in_rows j = first_from 1 (columns levels limit track rows) (in_row j)

    none_in : (j i' : ℕ) → j < length rows → 1 ≤ i' → i' ≤ stretches_of track
        → ((i : ℕ) → IsTooHigh levels track rows (record { row = j; from = i; to = i' }) → ⊥) → in_row j i' ≡ None
    none_in j i' row some column low =
        first_from-none 0 (starts_before levels limit track rows j i') (too_high_at levels limit track rows j i')
        (λ i a b. low_at (record { row = j; from = i; to = i' }) row some column (omega arith) (low i))

    pub none_too_high : ((place : PricePlace) → IsTooHigh levels track rows place → ⊥) → first_too_high levels limit track rows ≡ None
    none_too_high low =
        first_from-none 0 (steps_of_use levels limit track rows) in_rows (λ j a b.
        first_from-none 1 (columns levels limit track rows) (in_row j) (λ i' c d.
        none_in j i' (omega arith) c (omega arith) (λ i. low (record { row = j; from = i; to = i' }))))

    module _ (place : PricePlace) (high : IsTooHigh levels track rows place)
        (first : (other : PricePlace) → IsTooHigh levels track rows other → comes_before other place ≡ false) where
      earlier_is_low : (other : PricePlace) → comes_before other place ≡ true → IsTooHigh levels track rows other → ⊥
      earlier_is_low other before also = let f = first other also in absurd (cc)

      in_column : in_row place.row place.to ≡ Some (reason_at place)
      in_column =
          first_from-some 0 (starts_before levels limit track rows place.row place.to) place.from (too_high_at levels limit track rows place.row place.to) (reason_at place)
          (omega arith) (let l = low_starts place.row place.from place.to high.on high.dearer.start in omega arith) (high_at place high)
          (λ i a b. let on = high.on in let l = low_starts place.row place.from place.to high.on high.dearer.start in
          low_at (record { row = place.row; from = i; to = place.to }) high.inside (omega arith) high.column (omega arith)
          (earlier_is_low (record { row = place.row; from = i; to = place.to }) (by_start (record { row = place.row; from = i; to = place.to }) place refl refl b)))

      in_its_row : in_rows place.row ≡ Some (reason_at place)
      in_its_row =
          let on = high.on in
          let column = high.column in
          first_from-some 1 (columns levels limit track rows) place.to (in_row place.row) (reason_at place) (omega arith) (omega arith) in_column
          (λ i' a b. none_in place.row i' high.inside a (omega arith)
          (λ i. earlier_is_low (record { row = place.row; from = i; to = i' }) (by_column (record { row = place.row; from = i; to = i' }) place refl b)))

      pub some_too_high : first_too_high levels limit track rows ≡ Some (reason_at place)
      some_too_high =
          let inside = high.inside in
          first_from-some 0 (steps_of_use levels limit track rows) place.row in_rows (reason_at place) (omega arith) (omega arith) in_its_row
          (λ j a b. first_from-none 1 (columns levels limit track rows) (in_row j) (λ i' c d.
          none_in j i' (omega arith) c (omega arith)
          (λ i. earlier_is_low (record { row = j; from = i; to = i' }) (by_row (record { row = j; from = i; to = i' }) place b))))
