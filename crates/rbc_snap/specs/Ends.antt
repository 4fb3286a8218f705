-- What a press and an eye have.
use Rattle.std.specs.Prelude.{ℕ, List, fold}
use Rattle.rbc_record.specs.Records.{HistoryOnTrack}
use Rattle.rbc_snap.specs.Sights.{SeenOf}
use Rattle.rbc_snap.specs.declared.published.Issue.{Issue}

-- a press: all that it was handed, and the moment of it that is published
pub record Pressed : Type 0 where
  pub told : HistoryOnTrack
  pub published : HistoryOnTrack

abbrev pub pressed : HistoryOnTrack → HistoryOnTrack → Pressed
pressed told published = record { told = told; published = published }

-- an eye: all that its seat was told, and how many entries it knows to be published
pub record Watching : Type 0 where
  pub told : HistoryOnTrack
  pub published : ℕ

abbrev pub watching : HistoryOnTrack → ℕ → Watching
watching told published = record { told = told; published = published }

-- the moment of the last of these issues, or the first moment where there is none
abbrev pub put : SeenOf → List Issue → SeenOf
put first issues = fold (λ sight issue. issue.sight) first issues
