-- Stretches walked backwards.
use Rattle.std.proofs.Common.{◌≡◌, ap, sym, ◌∙◌, arith, ℕ, ◌+◌, ◌-◌, ◌%◌, ◌<◌, ◌≤◌, inl, inr, length}
use Rattle.std.proofs.Math.Nat.{eq-zero-or-pos}
use Rattle.rbc_model.specs.Levels.{Levels, IsLawful}
use Rattle.rbc_model.specs.Profiles.{StepFunction, IsTrackFunction}
use Rattle.rbc_table_laws.specs.Stretches.{break_before}
use Rattle.rbc_stretches.specs.OnTracks.{IsStretch}
use Rattle.rbc_stretches.specs.declared.stretch.Stretch.{Stretch}
use Rattle.rbc_stretches.proofs.StandingLemmas.{edge, edges_are, at, walked}

module _ {V : Type 0} (levels : Levels V) (lawful : IsLawful levels) (track : StepFunction V) (function : IsTrackFunction levels track.end track.steps) where
  -- a metre before a run's start has a run before it
  pub run_before : (r x : ℕ) → x < edge levels lawful track function r → 0 < r
  run_before r x before = elim (eq-zero-or-pos r) [
    | inl none ↦
        let first = (edges_are levels lawful track function).first in
        let same : edge levels lawful track function r ≡ edge levels lawful track function 0 = ap (edge levels lawful track function) none in
        absurd (omega arith)
    | inr some ↦ some
  ]

  pub edge_back : (r : ℕ) → 0 < r → edge levels lawful track function (r - 1 + 1) ≡ edge levels lawful track function r
  edge_back r some = ap (edge levels lawful track function) (omega arith)

  module _ (unit : ℕ) (some : 0 < unit) (whole : track.end % unit ≡ 0) where
    abbrev there : ℕ → ℕ
    there = at levels lawful track function unit some whole

    -- the first stretch alone starts at 0
    pub first_of_zero : (i : ℕ) (s : Stretch) → IsStretch unit track i s → s.from ≡ 0 → i ≡ 0
    first_of_zero i s is zero = elim (eq-zero-or-pos i) [
      | inl none ↦ none
      | inr later ↦
          let rises = (walked levels lawful track function unit some whole).0.rise (i - 1) (let more = is.between in omega arith) in
          let same : there (i - 1 + 1) ≡ there i = ap there (omega arith) in
          let from = is.from in
          absurd (omega arith)
    ]

    module _ (r : ℕ) (s : Stretch) (inside : r < length track.steps) (low : edge levels lawful track function r < s.from) (high : s.from ≤ edge levels lawful track function (r + 1)) where
      break_is : (i : ℕ) → IsStretch unit track (i + 1) s → there i ≡ break_before unit s.from (edge levels lawful track function r)
      break_is i is =
          let from = is.from in
          (walked levels lawful track function unit some whole).1.before i r (let more = is.between in omega arith) inside (omega arith) (omega arith)
          ∙ ap (λ x. break_before unit x (edge levels lawful track function r)) (sym from)

      pub before_there : (i first from : ℕ) → IsStretch unit track (i + 1) s → from ≡ break_before unit s.from (edge levels lawful track function r)
          → first < length track.steps → edge levels lawful track function first ≤ from → from < edge levels lawful track function (first + 1)
          → IsStretch unit track i (record { from = from; to = s.from; first = first })
      before_there i first from is begins run below above =
          let at_break = break_is i is in
          let more = is.between in
          let up = is.from in
          let end = is.on_track.inside in
          let on = is.on_track.some in
          let rises = (walked levels lawful track function unit some whole).0.rise i (omega arith) in
          record {
            on_track = record { some = omega arith; inside = omega arith; run = run; low = below; high = above };
            between = omega arith;
            from = begins ∙ sym at_break;
            to = up;
          }
