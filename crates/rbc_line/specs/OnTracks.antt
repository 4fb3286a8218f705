-- A line together with its track.
use Rattle.std.specs.Prelude.{◌≡◌, ℕ}
use Rattle.rbc_model.specs.Tracks.{Track}
use Rattle.rbc_model.specs.SoundTracks.{IsInForm, IsSound}
use Rattle.rbc_model.specs.Lines.{Line, IsLine, line_length}

-- the legs of a line, and the track that they are of
pub record LineOnTrack : Type 0 where
  pub track : Track
  pub legs : Line

-- what a line keeps, with its length in metres
pub record IsLineOfLength (track : Track) (legs : Line) (total : ℕ) : Type 0 where
  pub form : IsInForm track
  pub sound : IsSound track
  pub line : IsLine track legs
  pub metres : total ≡ line_length track legs
