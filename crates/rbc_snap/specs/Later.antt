-- Histories that go on from others.
use Rattle.std.specs.Prelude.{◌≡◌, [], length, take}
use Rattle.rbc_model.specs.Tracks.{Track}
use Rattle.rbc_model.specs.Scenes.{empty_scene}
use Rattle.rbc_model.specs.declared.places.Format.TheVariants.{Near}
use Rattle.rbc_record.specs.ScenesOnTracks.{SceneOnTrack}
use Rattle.rbc_record.specs.Records.{HistoryOnTrack, IsRight, scene_now}

-- The history is a right one, and goes on from all that was told: it is on the same track, begins with the same scene, may have as many entries, and its
-- first entries are those.
pub record IsLater (told history : HistoryOnTrack) : Type 0 where
  pub track : history.track ≡ told.track
  pub begin : history.begin ≡ told.begin
  pub most : history.most ≡ told.most
  pub right : IsRight history
  pub opening : take (length told.entries) history.entries ≡ told.entries

-- a track without sections
abbrev no_track : Track
no_track = record { format = Near; speed_steps = 1; grade_steps = 1; sections = []; links = []; groups = []; routes = [] }

-- the empty history on it, that may have no entries
abbrev pub nothing_entered : HistoryOnTrack
nothing_entered = record { track = no_track; begin = empty_scene no_track; most = 0; entries = [] }

-- the scene that a history leads to, with its track
abbrev pub scene_of : HistoryOnTrack → SceneOnTrack
scene_of history = record { track = history.track; scene = scene_now history }
