-- The columns of a table, and the least values of their stretches.
use Rattle.std.proofs.Common.{◌≡◌, refl, ap, sym, ◌∙◌, arith, ℕ, zero, suc, ◌+◌, ◌-◌, ◌%◌, ◌<◌, ◌≤◌, false, [], ◌∷◌, ◌++◌, length, length-append, Some, slice_index, get_or, inl, inr}
use Rattle.std.proofs.lemmas.List.{length-map}
use Rattle.rbc_model.specs.Levels.{Levels, IsInRange, IsAtMost, IsLawful}
use Rattle.rbc_model.specs.Profiles.{StepFunction, IsTrackFunction, starts_of, value_at}
use Rattle.rbc_model.specs.PriceTables.{breaks_of, least_value, cost}
use Rattle.rbc_model.specs.Scales.{unit_of}
use Rattle.rbc_table_laws.specs.Breaks.{breaks_in, IsLowest}
use Rattle.rbc_table_laws.specs.Stretches.{AreBreaksFor, breaks_for, cost_of_step}
use Rattle.rbc_table_laws.proofs.TrackBreakLemmas.{breaks_are, in_track, at_run, at_last, up_to_end}
use Rattle.rbc_table_laws.proofs.TableLawLemmas.{breaks_walked}
use Rattle.rbc_table_laws.proofs.StretchLemmas.{breaks_to_end, least_is, least_range}
use Rattle.rbc_table_laws.proofs.LeastLemmas.{least_between, in_range_at, other_lower}
use Rattle.rbc_table_laws.proofs.BreakLemmas.{covered_of}
use Rattle.rbc_price.specs.declared.columns.Column.{Column}
use Rattle.rbc_price.specs.Columns.{IsColumn, stretches_of, break_metre}
use Rattle.rbc_price.specs.Costs.{stretch_value, is_stretch_at_most, IsCostAt}
use Rattle.rbc_price.proofs.CostLemmas.{cost_at}
use Rattle.rbc_model.proofs.ScaleLemmas.{some_unit}
use Rattle.rbc_model.proofs.ScanLemmas.{le_or_lt}

module _ {V : Type 0} (levels : Levels V) (lawful : IsLawful levels) (track : StepFunction V) (function : IsTrackFunction levels track.end track.steps)
    (whole : track.end % unit_of track.end ≡ 0) where
  pub are_breaks : AreBreaksFor (unit_of track.end) track (breaks_for (unit_of track.end) track)
  are_breaks = (breaks_walked levels lawful (unit_of track.end) (some_unit track.end) track whole function (breaks_in track) (in_track levels track.end track.steps function)).0

  pub rises : (i : ℕ) → i < stretches_of track → break_metre track i < break_metre track (i + 1)
  rises i h = are_breaks.rise i (omega arith)

  pub to_end : (i : ℕ) → i ≤ stretches_of track → break_metre track i ≤ track.end
  to_end i h = let some = are_breaks.some in breaks_to_end (unit_of track.end) track (breaks_for (unit_of track.end) track) are_breaks i (omega arith)

  -- there are no more breaks than metres
  pub few : (i : ℕ) → i ≤ stretches_of track → i ≤ break_metre track i
  few zero h = omega arith
  few (suc i) h =
      let before = few i (omega arith) in
      let up = rises i (omega arith) in
      let same : break_metre track (i + 1) ≡ break_metre track (suc i) = ap (break_metre track) (omega arith) in
      omega arith

  -- at a unit of 1 there is one column for each run
  pub columns_are_runs : unit_of track.end ≡ 1 → length track.steps ≡ stretches_of track
  columns_are_runs one =
      let starts = starts_of track.steps in
      let breaks : breaks_for (unit_of track.end) track ≡ starts ++ track.end ∷ [] =
      ap (λ unit. breaks_of unit track.end starts) one ∙ breaks_are track.end starts function.starts.rising function.starts.inside in
      let count : length (breaks_for (unit_of track.end) track) ≡ length starts + 1 = ap length breaks ∙ length-append starts (track.end ∷ []) in
      omega (arith, count, length-map track.steps (λ (run : ℕ × V). run.0))

  -- ---- the least value of a stretch

  pub record HasValue (i : ℕ) : Type 0 where
    pub value : V
    pub is : stretch_value levels track i ≡ Some value
    pub in_range : IsInRange levels value

  pub has_value : (i : ℕ) → i < stretches_of track → HasValue i
  has_value i h =
      let up = rises i h in
      let end = to_end (i + 1) (omega arith) in
      let l = least_between levels track.end (value_at track.steps) lawful (covered_of levels lawful track.end track.steps function) (break_metre track i) (break_metre track (i + 1)) up end in
      let placed = l.placed in
      record {
        value = l.least;
        is = l.is;
        in_range = in_range_at levels track.end (value_at track.steps) lawful (covered_of levels lawful track.end track.steps function) (break_metre track i + l.place) l.least (omega arith) l.there;
      }

  pub inside : (c : Column) → IsColumn track c → c.index < stretches_of track
  inside c is = let more = is.between in omega arith

  pub index_small : (c : Column) → IsColumn track c → c.index < track.end
  index_small c is =
      let low = few c.index (let more = is.between in omega arith) in
      let from = is.from in
      let some = is.on_track.some in
      let end = is.on_track.inside in
      omega arith

  pub value_is : (c : Column) (v : V) → IsColumn track c → IsLowest levels track c.stretch.from c.stretch.to v → stretch_value levels track c.index ≡ Some v
  value_is c v is l =
      ap (λ x. least_value levels (value_at track.steps) x (break_metre track (c.index + 1) - x)) (sym is.from)
      ∙ ap (λ x. least_value levels (value_at track.steps) c.stretch.from (x - c.stretch.from)) (sym is.to)
      ∙ least_is levels lawful track function c.stretch.from c.stretch.to v is.on_track.inside l

  module _ (a b : Column) (v w : V) (first : IsColumn track a) (second : IsColumn track b) (l : IsLowest levels track a.stretch.from a.stretch.to v) (k : IsLowest levels track b.stretch.from b.stretch.to w) where
    -- stretches are compared by their least values
    pub stretch_order : is_stretch_at_most levels track a.index b.index ≡ levels.at_most v w
    stretch_order = rw (value_is a v first l, value_is b w second k) refl

    pub higher : levels.at_most v w ≡ false → IsAtMost levels w v
    higher e = other_lower levels lawful v w (least_range levels lawful track function a.stretch.from a.stretch.to v first.on_track.inside l)
        (least_range levels lawful track function b.stretch.from b.stretch.to w second.on_track.inside k) e

  pub adjacent : (a b : Column) → IsColumn track a → IsColumn track b → b.index ≡ a.index + 1 → a.stretch.to ≡ b.stretch.from
  adjacent a b first second next = first.to ∙ ap (break_metre track) (sym next) ∙ sym second.from

  -- a cost from one column's start to another's end is that of a step
  pub cost_of : (a b : Column) (v : V) (price : ℕ) → IsColumn track a → IsColumn track b → IsCostAt levels track a.stretch.from b.stretch.to v price
      → price ≡ cost_of_step levels (unit_of track.end) track a.index (b.index + 1)
  cost_of a b v price first second c =
      cost_at levels lawful track function a.stretch.from b.stretch.to v price second.on_track.inside c
      ∙ ap (λ x. cost levels (value_at track.steps) x b.stretch.to) first.from
      ∙ ap (λ x. cost levels (value_at track.steps) (break_metre track a.index) x) second.to

-- ---- at a unit of 1

module _ {V : Type 0} (levels : Levels V) (track : StepFunction V) (function : IsTrackFunction levels track.end track.steps) where
  -- where a run stops
  pub stop_is : (i stop : ℕ) (d : ℕ × V) → i < length track.steps → (i + 1 < length track.steps → stop ≡ (get_or track.steps (i + 1) d).0)
      → (length track.steps ≤ i + 1 → stop ≡ track.end) → stop ≡ slice_index (breaks_in track) (i + 1)
  stop_is i stop d inside next last = elim (le_or_lt (length track.steps) (i + 1)) [
    | inl h ↦ last h ∙ at_last levels track.end track.steps function (i + 1) (omega arith)
    | inr h ↦ next h ∙ at_run levels track.end track.steps function (i + 1) d h
  ]

  -- each run is a column
  pub column_of_run : unit_of track.end ≡ 1 → (column : Column) → column.index < length track.steps → column.stretch.first ≡ column.index
      → column.stretch.from ≡ slice_index (breaks_in track) column.index → column.stretch.to ≡ slice_index (breaks_in track) (column.index + 1) → IsColumn track column
  column_of_run one column here first from to =
      let edges = in_track levels track.end track.steps function in
      let count = edges.count in
      let same : breaks_for (unit_of track.end) track ≡ breaks_in track = ap (λ unit. breaks_of unit track.end (starts_of track.steps)) one in
      let rise = edges.rise column.index here in
      let next : slice_index (breaks_in track) (column.stretch.first + 1) ≡ slice_index (breaks_in track) (column.index + 1) =
      ap (λ i. slice_index (breaks_in track) (i + 1)) first in
      let start : slice_index (breaks_in track) column.stretch.first ≡ slice_index (breaks_in track) column.index = ap (slice_index (breaks_in track)) first in
      record {
        on_track = record {
          some = omega arith;
          inside = let end = up_to_end track (breaks_in track) edges (column.index + 1) (omega arith) in omega arith;
          run = omega arith;
          low = omega arith;
          high = omega arith;
        };
        between = let breaks = ap length same in omega arith;
        from = from ∙ ap (λ breaks. slice_index breaks column.index) (sym same);
        to = to ∙ ap (λ breaks. slice_index breaks (column.index + 1)) (sym same);
      }
