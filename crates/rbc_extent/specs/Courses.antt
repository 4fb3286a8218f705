-- A line that can be lengthened, and its sections as a set.
use Rattle.std.specs.Prelude.{◌≡◌, ℕ, Bool, List, length}
use Rattle.rbc_model.specs.Lines.{has_section}
use Rattle.rbc_model.specs.SoundTracks.{IsSound}
use Rattle.rbc_line.specs.OnTracks.{LineOnTrack}
use Rattle.rbc_line.specs.SectionSets.{is_in}

-- the line is of a sound track; the set has an answer for each section of the track, and the sections in it are the line's
pub record IsCourse (line : LineOnTrack) (set : List Bool) : Type 0 where
  pub sound : IsSound line.track
  pub size : length set ≡ length line.track.sections
  pub sections : (section : ℕ) → is_in set section ≡ has_section line.legs section
