-- Stretches that stand on a track.
use Rattle.std.specs.Prelude.{◌≡◌, ℕ, ◌+◌, ◌<◌, ◌≤◌, length, slice_index}
use Rattle.rbc_model.specs.Profiles.{StepFunction}
use Rattle.rbc_table_laws.specs.Breaks.{breaks_in}
use Rattle.rbc_table_laws.specs.Stretches.{breaks_for}
use Rattle.rbc_stretches.specs.declared.stretch.Stretch.{Stretch}

-- The stretch has a metre, its metres are the track's, and its run has the first one.
pub record IsOnTrack {V : Type 0} (track : StepFunction V) (stretch : Stretch) : Type 0 where
  pub some : stretch.from < stretch.to
  pub inside : stretch.to ≤ track.end
  pub run : stretch.first < length track.steps
  pub low : slice_index (breaks_in track) stretch.first ≤ stretch.from
  pub high : stretch.from < slice_index (breaks_in track) (stretch.first + 1)

-- It lies between break i and the next one.
pub record IsStretch {V : Type 0} (unit : ℕ) (track : StepFunction V) (i : ℕ) (stretch : Stretch) : Type 0 where
  pub on_track : IsOnTrack track stretch
  pub between : i + 1 < length (breaks_for unit track)
  pub from : stretch.from ≡ slice_index (breaks_for unit track) i
  pub to : stretch.to ≡ slice_index (breaks_for unit track) (i + 1)
