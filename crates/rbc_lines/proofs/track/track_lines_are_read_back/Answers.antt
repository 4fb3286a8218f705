use Rattle.rbc_lines.proofs.TrackLawLemmas.{track_lines_are_read_back, read_lines_are_of_tracks}
use Rattle.rbc_lines.proofs.track.track_lines_are_read_back.Goals as goal

pub returns-clause-tracks : goal.returns-clause-tracks
returns-clause-tracks c = track_lines_are_read_back

pub returns-clause-texts : goal.returns-clause-texts
returns-clause-texts c = read_lines_are_of_tracks
