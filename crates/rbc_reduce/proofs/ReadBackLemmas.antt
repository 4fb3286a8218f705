-- The steps that are read off the greatest sound table, as they are pushed.
use Rattle.std.proofs.Common.{◌≡◌, ◌≢◌, refl, ap, sym, ◌∙◌, arith, subst, ℕ, suc, ◌+◌, ◌-◌, ◌%◌, ◌<◌, ◌≤◌, List, [], ◌∷◌, ◌++◌, Some, length, get_or, reverse, option_map}
use Rattle.std.specs.Global.{Vec}
use Rattle.std.proofs.lemmas.List.{length-map}
use Rattle.rbc_model.specs.Levels.{Levels, IsLawful}
use Rattle.rbc_model.specs.Profiles.{StepFunction, IsTrackFunction, value_at}
use Rattle.rbc_model.specs.PriceTables.{row_count, stretch_count, least_value, IsGreatestSoundTable}
use Rattle.rbc_table_laws.specs.TableLaws.{row_price, last_price}
use Rattle.rbc_table_laws.specs.Breaks.{IsLowest}
use Rattle.rbc_table_laws.specs.Stretches.{AreBreaksFor, cost_of_step}
use Rattle.rbc_table_laws.specs.PriceRows.{prices_of}
use Rattle.rbc_table_laws.specs.Tracebacks.{IsOnWay, IsTracedTo, IsStepBack, IsFound, IsReadOff}
use Rattle.rbc_table_laws.proofs.SearchLemmas.{traced_more, traced_whole}
use Rattle.rbc_table_laws.proofs.ReadOffLemmas.{read_of_trace}
use Rattle.rbc_table_laws.proofs.TableLawLemmas.{searches_are_found}
use Rattle.rbc_table_laws.proofs.StretchLemmas.{stretches_for, breaks_to_end, least_is}
use Rattle.rbc_reduce.specs.Rows.{price_in}

module _ {V : Type 0} (levels : Levels V) (lawful : IsLawful levels) (track : StepFunction V) (function : IsTrackFunction levels track.end track.steps)
    (unit : ℕ) (some_unit : 0 < unit) (whole_end : track.end % unit ≡ 0) (breaks : List ℕ) (are : AreBreaksFor unit track breaks) (limit : ℕ) (rows : List (Vec ℕ)) (greatest : IsGreatestSoundTable levels unit limit track.end track.steps (prices_of rows)) where
  found : IsFound levels unit limit track.end track.steps (prices_of rows)
  found = searches_are_found levels lawful unit limit track.end some_unit whole_end track.steps function (prices_of rows) greatest

  rows_are : length rows ≡ row_count levels unit limit track.end track.steps
  rows_are = sym (length-map rows (λ row. row.items)) ∙ greatest.sound.shape

  width : stretch_count levels unit limit track.end track.steps ≡ length breaks - 1
  width = stretches_for unit track breaks are levels limit

  abbrev pub IsTraced : ℕ → List (ℕ × V) → ℕ → ℕ → Type 0
  IsTraced count back j to = IsTracedTo levels unit limit track.end track.steps (prices_of rows) count (stretch_count levels unit limit track.end track.steps) back j to

  abbrev pub IsOn : ℕ → ℕ → Type 0
  IsOn j to = IsOnWay levels unit limit track.end track.steps (prices_of rows) j to

  -- ---- where the search begins

  module _ (count : ℕ) (some : 1 ≤ count) (inside : count ≤ length rows) (price : price_in rows count (length breaks - 1) ≡ price_in rows (length rows) (length breaks - 1))
      (first : (j : ℕ) → 1 ≤ j → j < count → price_in rows j (length breaks - 1) ≢ price_in rows (length rows) (length breaks - 1)) where
    last_price_is : row_price levels unit limit track.end track.steps (prices_of rows) count ≡ last_price levels unit limit track.end track.steps (prices_of rows)
    last_price_is = ap (price_in rows count) width ∙ price ∙ ap (λ j. price_in rows j (length breaks - 1)) rows_are ∙ ap (price_in rows (row_count levels unit limit track.end track.steps)) (sym width)

    none_before : (k : ℕ) → 1 ≤ k → k < count → row_price levels unit limit track.end track.steps (prices_of rows) k ≢ last_price levels unit limit track.end track.steps (prices_of rows)
    none_before k low high = λ e.
        let here : price_in rows k (length breaks - 1) ≡ price_in rows count (length breaks - 1) =
        ap (price_in rows k) (sym width) ∙ e ∙ sym last_price_is ∙ ap (price_in rows count) width in
        first k low high (here ∙ price)

    -- ---- and where it ends

    pub read_off : (back : List (ℕ × V)) (to : ℕ) → IsTraced count back 0 to → IsOn 0 to
        → IsReadOff levels unit limit track.end track.steps (prices_of rows) (reverse back)
    read_off back to traced on =
        let row = rows_are in
        let start : to ≡ 0 = on.start refl in
        let whole = traced_whole levels unit limit track.end track.steps (prices_of rows) count (stretch_count levels unit limit track.end track.steps) back
        (subst (λ x. IsTraced count back 0 x) start traced) in
        read_of_trace levels unit limit track.end track.steps (prices_of rows) count back (omega arith) last_price_is none_before whole

  -- ---- one step

  pub some_break : (j to : ℕ) → suc j ≤ length rows → to ≤ length breaks - 1 → IsOn (suc j) to
      → (i : ℕ) × (i < to) × (price_in rows j i + cost_of_step levels unit track i to ≡ price_in rows (suc j) to)
  some_break j to inside column on = let row = rows_are in let m = width in found.some_break j to (omega arith) (omega arith) on

  pub one_back : (count : ℕ) (back : List (ℕ × V)) (j to from start : ℕ) (least given : V) → suc j ≤ length rows → to ≤ length breaks - 1 → IsOn (suc j) to → IsTraced count back (suc j) to → from < to
      → price_in rows j from + cost_of_step levels unit track from to ≡ price_in rows (suc j) to
      → ((i : ℕ) → i < from → price_in rows j i + cost_of_step levels unit track i to ≢ price_in rows (suc j) to)
      → IsLowest levels track (get_or breaks from 0) (get_or breaks to 0) least → start ≡ get_or breaks from 0 → given ≡ levels.floor least
      → IsTraced count (back ++ (start, given) ∷ []) j from × IsOn j from
  one_back count back j to from start least given inside column on traced earlier adds_up first lowest start_is given_is =
      let row = rows_are in
      let m = width in
      let end = breaks_to_end unit track breaks are to (let two = are.some in omega arith) in
      let there = least_is levels lawful track function (get_or breaks from 0) (get_or breaks to 0) least end lowest in
      let value : option_map levels.floor (least_value levels (value_at track.steps) (get_or breaks from 0) (get_or breaks to 0 - get_or breaks from 0)) ≡ Some given =
      ap (option_map levels.floor) there ∙ ap Some (sym given_is) in
      let step : IsStepBack levels unit limit track.end track.steps (prices_of rows) j to from (start, given) = record {
        earlier = earlier;
        adds_up = adds_up;
        first = first;
        start = start_is ∙ ap (λ b. get_or b from 0) are.are;
        value = subst (λ b. option_map levels.floor (least_value levels (value_at track.steps) (get_or b from 0) (get_or b to 0 - get_or b from 0)) ≡ Some given) are.are value;
      } in (
        traced_more levels unit limit track.end track.steps (prices_of rows) count (stretch_count levels unit limit track.end track.steps) back j to from (start, given) traced step,
        found.next j to from (omega arith) (omega arith) on earlier adds_up first,
      )
