-- Stretches that stand on a track, and the edges of its runs.
use Rattle.std.proofs.Common.{◌≡◌, ap, sym, ◌∙◌, arith, ℕ, zero, suc, ◌+◌, ◌-◌, ◌%◌, ◌<◌, ◌≤◌, inl, inr, min, length, get_or, Some}
use Rattle.std.proofs.Math.Nat.{eq-or-lt_of_le}
use Rattle.std.specs.List.{slice_get}
use Rattle.rbc_model.specs.Levels.{Levels, IsLawful}
use Rattle.rbc_model.specs.Profiles.{StepFunction, IsTrackFunction}
use Rattle.rbc_table_laws.specs.Breaks.{AreBreaks, breaks_in}
use Rattle.rbc_table_laws.specs.Stretches.{AreBreaksFor, AreWalked, IsPart, breaks_for, break_behind}
use Rattle.rbc_table_laws.proofs.TrackBreakLemmas.{in_track, up_to_end}
use Rattle.rbc_table_laws.proofs.TableLawLemmas.{breaks_walked}
use Rattle.rbc_table_laws.proofs.StretchLemmas.{breaks_to_end}
use Rattle.rbc_stretches.specs.OnTracks.{IsStretch}
use Rattle.rbc_stretches.specs.declared.stretch.Stretch.{Stretch}

module _ {V : Type 0} (levels : Levels V) (lawful : IsLawful levels) (track : StepFunction V) (function : IsTrackFunction levels track.end track.steps) where
  pub edges_are : AreBreaks track (breaks_in track)
  edges_are = in_track levels track.end track.steps function

  -- where run i starts, or the end
  abbrev pub edge : ℕ → ℕ
  edge i = get_or (breaks_in track) i 0

  pub edge_inside : (i : ℕ) → i ≤ length track.steps → edge i ≤ track.end
  edge_inside = up_to_end track (breaks_in track) edges_are

  -- an edge before the end is where a run starts
  pub some_run : (i : ℕ) → i ≤ length track.steps → edge i < track.end → i < length track.steps
  some_run i h before = elim (eq-or-lt_of_le h) [
    | inl same ↦ let last = edges_are.last in let at : edge i ≡ edge (length track.steps) = ap edge same in absurd (omega arith)
    | inr less ↦ less
  ]

  pub edges_rise : (i : ℕ) → i < length track.steps → edge i < edge (i + 1)
  edges_rise = edges_are.rise

  -- so there are no more runs than metres
  edge_at_least : (i : ℕ) → i ≤ length track.steps → i ≤ edge i
  edge_at_least zero h = omega arith
  edge_at_least (suc i) h =
      let before = edge_at_least i (omega arith) in
      let up = edges_rise i (omega arith) in
      let same : edge (suc i) ≡ edge (i + 1) = ap edge (omega arith) in
      omega arith

  pub runs_to_end : length track.steps ≤ track.end
  runs_to_end =
      let last = edges_are.last in
      let all = edge_at_least (length track.steps) (omega arith) in
      omega arith

  -- the part of a run from a place up to where the run stops, or up to another place
  pub part_of_run : (r : ℕ) (run : ℕ × V) (from to : ℕ) → slice_get track.steps r ≡ Some run → edge r ≤ from → from < edge (r + 1) → from < to
      → IsPart track (breaks_in track) r run from (min (edge (r + 1)) to)
  part_of_run r run from to there low high more = record { there = there; low = low; some = omega arith; high = omega arith }

  -- ---- from stretch to stretch

  module _ (unit : ℕ) (some : 0 < unit) (whole : track.end % unit ≡ 0) where
    pub walked : AreBreaksFor unit track (breaks_for unit track) × AreWalked unit track (breaks_in track) (breaks_for unit track)
    walked = breaks_walked levels lawful unit some track whole function (breaks_in track) edges_are

    -- break i
    abbrev pub at : ℕ → ℕ
    at i = get_or (breaks_for unit track) i 0

    pub first_break : at 0 ≡ 0
    first_break = walked.0.first

    pub stretch_there : (i r from to : ℕ) → i + 1 < length (breaks_for unit track) → r < length track.steps → from ≡ at i → edge r ≤ from → from < edge (r + 1)
        → to ≡ break_behind unit from (edge (r + 1)) → IsStretch unit track i (record { from = from; to = to; first = r })
    stretch_there i r from to more inside is low high behind =
        let next = walked.1.behind i r more inside (omega (arith, is)) (omega (arith, is)) in
        let same : to ≡ at (i + 1) = behind ∙ ap (λ x. break_behind unit x (edge (r + 1))) is ∙ sym next in
        let rises = walked.0.rise i more in
        let end = breaks_to_end unit track (breaks_for unit track) walked.0 (i + 1) more in
        record {
          on_track = record { some = omega arith; inside = omega arith; run = inside; low = low; high = high };
          between = more;
          from = is;
          to = same;
        }

    some_break : 1 < length (breaks_for unit track)
    some_break = walked.0.some

    pub first_there : (to : ℕ) → to ≡ break_behind unit 0 (edge 1) → IsStretch unit track 0 (record { from = 0; to = to; first = 0 })
    first_there to is =
        let first = edges_are.first in
        let more = some_break in
        let end = breaks_to_end unit track (breaks_for unit track) walked.0 1 (omega arith) in
        let rises = walked.0.rise 0 (omega arith) in
        let run = some_run 0 (omega arith) (omega (arith, first_break)) in
        let up = edges_rise 0 run in
        stretch_there 0 0 0 to (omega arith) run (sym first_break) (omega arith) (omega arith) is

    -- the break at which a stretch ends is the last one if it is the track's end, and only then
    pub goes_on : (i : ℕ) (s : Stretch) → IsStretch unit track i s → s.to < track.end → i + 2 < length (breaks_for unit track)
    goes_on i s there before = elim (eq-or-lt_of_le (let more : i + 2 ≤ length (breaks_for unit track) = (let inside = there.between in omega arith) in more)) [
      | inl same ↦
          let last = walked.0.last in
          let to = there.to in
          let e : at (length (breaks_for unit track) - 1) ≡ at (i + 1) = ap at (omega arith) in
          absurd (omega arith)
      | inr less ↦ less
    ]

    pub ends : (i : ℕ) (s : Stretch) → IsStretch unit track i s → track.end ≤ s.to → i + 2 ≡ length (breaks_for unit track)
    ends i s there after = elim (eq-or-lt_of_le (let more : i + 2 ≤ length (breaks_for unit track) = (let inside = there.between in omega arith) in more)) [
      | inl same ↦ same
      | inr less ↦
          let rises = walked.0.rise (i + 1) (omega arith) in
          let end = breaks_to_end unit track (breaks_for unit track) walked.0 (i + 2) less in
          let to = there.to in
          let e : at (i + 1 + 1) ≡ at (i + 2) = ap at (omega arith) in
          absurd (omega arith)
    ]

    pub behind_there : (i r to : ℕ) (s : Stretch) → IsStretch unit track i s → s.to < track.end → r < length track.steps → edge r ≤ s.to → s.to < edge (r + 1)
        → to ≡ break_behind unit s.to (edge (r + 1)) → IsStretch unit track (i + 1) (record { from = s.to; to = to; first = r })
    behind_there i r to s there before inside low high is =
        stretch_there (i + 1) r s.to to (let more = goes_on i s there before in omega arith) inside there.to low high is
