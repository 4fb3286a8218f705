-- What the lines of a track tell.
use Rattle.std.specs.Prelude.{◌≡◌, ℕ, List, Some}
use Rattle.rbc_model.specs.SoundTracks.{IsInForm, IsSound}
use Rattle.rbc_model.specs.TrackLines.{track_lines, read_track_lines, HasNames}
use Rattle.rbc_model.specs.Tracks.{Track}

-- a sound track whose names are names is read back from its lines
abbrev pub TrackLinesAreReadBack : Type 0
TrackLinesAreReadBack = (track : Track) → IsInForm track → IsSound track → HasNames track → read_track_lines (track_lines track) ≡ Some track

-- the text is the lines of a sound track
pub record IsLinesOf (text : List ℕ) (track : Track) : Type 0 where
  pub sound : IsSound track
  pub lines : track_lines track ≡ text

-- and no text is read but the lines of a sound track, as this track
abbrev pub ReadLinesAreOfTracks : Type 0
ReadLinesAreOfTracks = (text : List ℕ) (track : Track) → read_track_lines text ≡ Some track → IsLinesOf text track
