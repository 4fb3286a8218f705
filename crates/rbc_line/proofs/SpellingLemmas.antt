-- A track is the one that is made metre by metre.
use Rattle.std.proofs.Common.{◌≡◌, ℕ, zero, suc, ◌<◌, List, [], ◌∷◌, Option, sym, ◌∙◌, arith}
use Rattle.rbc_model.specs.Levels.{Levels, IsLawful}
use Rattle.rbc_model.specs.Profiles.{value_at, starts_of, runs_over, IsTrackFunction}
use Rattle.rbc_model.proofs.OneSpellingLemmas.{one_spelling}
use Rattle.rbc_model.proofs.RunLemmas.{IsCovered, value_at-runs_over}
use Rattle.rbc_model.proofs.StepListLemmas.{zero_split, value_at-some, value_in_range}
use Rattle.rbc_steps.proofs.TrackRunLemmas.{IsTrackFunction-runs_over}

module _ {V : Type 0} (levels : Levels V) (lawful : IsLawful levels) where
  -- a track has a value at each of its metres
  pub covered : (n : ℕ) (rows : List (ℕ × V)) (level : ℕ → Option V) → IsTrackFunction levels n rows → ((x : ℕ) → x < n → value_at rows x ≡ level x) → IsCovered levels lawful n level
  covered n [] level track same = λ x h. absurd (cc track.starts.rising)
  covered n (row ∷ rows) level track same = λ x h.
      let first = zero_split row.0 (starts_of rows) track.starts.rising in
      let some = value_at-some row rows x (omega (arith, first.0)) in
      (some.0, sym (same x h) ∙ some.1, value_in_range levels (row ∷ rows) x some.0 track.values some.1)

  -- a track with these levels is the one that is made metre by metre
  pub spelled : (n : ℕ) (rows : List (ℕ × V)) (level : ℕ → Option V) → 0 < n → IsTrackFunction levels n rows → ((x : ℕ) → x < n → value_at rows x ≡ level x) → rows ≡ runs_over levels n level
  spelled zero rows level some track same = absurd (omega arith)
  spelled (suc n) rows level some track same =
      let cover = covered (suc n) rows level track same in
      one_spelling levels lawful (suc n) rows (runs_over levels (suc n) level) track (IsTrackFunction-runs_over levels lawful (suc n) level some cover)
      (λ x h. same x h ∙ sym (value_at-runs_over levels lawful (suc n) level cover x h))
