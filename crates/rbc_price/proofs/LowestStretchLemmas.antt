-- The lowest stretch between two breaks: stretches are compared by their least values, and between two breaks some stretch is the lowest.
use Rattle.std.proofs.Common.{◌≡◌, refl, sym, ◌∙◌, arith, ℕ, zero, suc, ◌+◌, ◌-◌, ◌%◌, ◌<◌, ◌≤◌, ◌⊎◌, inl, inr, Bool, true, false, Some}
use Rattle.rbc_model.specs.Levels.{Levels, IsLawful}
use Rattle.rbc_model.specs.Profiles.{StepFunction, IsTrackFunction}
use Rattle.rbc_model.specs.Scales.{unit_of}
use Rattle.rbc_model.proofs.CountingLemmas.{last_or_below}
use Rattle.rbc_table_laws.proofs.LeastLemmas.{other_lower}
use Rattle.rbc_price.specs.Columns.{stretches_of}
use Rattle.rbc_price.specs.Costs.{IsLowestStretch, is_stretch_at_most, stretch_value}
use Rattle.rbc_price.proofs.ColumnLemmas.{has_value}

module _ {V : Type 0} (levels : Levels V) (lawful : IsLawful levels) (track : StepFunction V) (function : IsTrackFunction levels track.end track.steps)
    (whole : track.end % unit_of track.end ≡ 0) where
  order_of : (i j : ℕ) (a b : V) → stretch_value levels track i ≡ Some a → stretch_value levels track j ≡ Some b → is_stretch_at_most levels track i j ≡ levels.at_most a b
  order_of i j a b e f = rw (e, f) refl

  through : (i j k : ℕ) → i < stretches_of track → j < stretches_of track → k < stretches_of track
      → is_stretch_at_most levels track i j ≡ true → is_stretch_at_most levels track j k ≡ true → is_stretch_at_most levels track i k ≡ true
  through i j k hi hj hk first second =
      let a = has_value levels lawful track function whole i hi in
      let b = has_value levels lawful track function whole j hj in
      let c = has_value levels lawful track function whole k hk in
      order_of i k a.value c.value a.is c.is
      ∙ lawful.ordered.transitive a.value b.value c.value a.in_range b.in_range c.in_range
      (sym (order_of i j a.value b.value a.is b.is) ∙ first) (sym (order_of j k b.value c.value b.is c.is) ∙ second)

  other_way : (i j : ℕ) → i < stretches_of track → j < stretches_of track → is_stretch_at_most levels track i j ≡ false → is_stretch_at_most levels track j i ≡ true
  other_way i j hi hj e =
      let a = has_value levels lawful track function whole i hi in
      let b = has_value levels lawful track function whole j hj in
      order_of j i b.value a.value b.is a.is
      ∙ other_lower levels lawful a.value b.value a.in_range b.in_range (sym (order_of i j a.value b.value a.is b.is) ∙ e)

  before_at_behind : (i k : ℕ) → (i < k) ⊎ ((i ≡ k) ⊎ (k < i))
  before_at_behind i k = grind arith

  with_last : (from to lowest : ℕ) (test : Bool) → is_stretch_at_most levels track to lowest ≡ test → to < stretches_of track → IsLowestStretch levels track from to lowest
      → (next : ℕ) × IsLowestStretch levels track from (suc to) next
  with_last from to lowest true e h l =
      let low = l.low in
      let high = l.high in (
        to,
        record {
          low = omega arith;
          high = omega arith;
          before = λ i after before. elim (before_at_behind i lowest) [
            | inl less ↦ through to lowest i h (omega arith) (omega arith) e (l.before i after less)
            | inr (inl same) ↦ rw same e
            | inr (inr more) ↦ through to lowest i h (omega arith) (omega arith) e (other_way i lowest (omega arith) (omega arith) (l.behind i more before))
          ];
          behind = λ i after before. absurd (omega arith);
        },
      )
  with_last from to lowest false e h l =
      let low = l.low in
      let high = l.high in (
        lowest,
        record {
          low = l.low;
          high = omega arith;
          before = l.before;
          behind = λ i after before. elim (last_or_below to i before) [ inl same ↦ rw same e | inr less ↦ l.behind i after less ];
        },
      )

  lowest_from : (from count : ℕ) → from + suc count ≤ stretches_of track → (lowest : ℕ) × IsLowestStretch levels track from (from + suc count) lowest
  lowest_from from zero h = (
    from,
    record {
      low = omega arith;
      high = omega arith;
      before = λ i after before. absurd (omega arith);
      behind = λ i after before. absurd (omega arith);
    },
  )
  lowest_from from (suc count) h =
      let before = lowest_from from count (omega arith) in
      let next : from + suc (suc count) ≡ suc (from + suc count) = omega arith in
      rw next (with_last from (from + suc count) before.0 (is_stretch_at_most levels track (from + suc count) before.0) refl (omega arith) before.1)

  -- between two breaks some stretch is
  pub some_lowest : (from to : ℕ) → from < to → to ≤ stretches_of track → (lowest : ℕ) × IsLowestStretch levels track from to lowest
  some_lowest from to h inside =
      let count : to ≡ from + suc (to - from - 1) = omega arith in
      let there = lowest_from from (to - from - 1) (omega arith) in
      rw count there
