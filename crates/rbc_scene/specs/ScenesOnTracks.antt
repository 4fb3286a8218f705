-- Scenes together with their track.
use Rattle.rbc_model.specs.Tracks.{Track}
use Rattle.rbc_model.specs.SoundTracks.{IsSound}
use Rattle.rbc_model.specs.Locks.{Locks}
use Rattle.rbc_model.specs.Scenes.{Scene}
use Rattle.rbc_scene_laws.specs.Good.{IsGoodScene}
use Rattle.rbc_search.specs.Books.{Book}

-- a scene, and the track that it is of
pub record SceneOnTrack : Type 0 where
  pub track : Track
  pub scene : Scene

-- the scene of these locks and of the trains of this book
abbrev pub scene_on : Locks → Book → SceneOnTrack
scene_on locks book = record { track = book.track; scene = record { locks = locks; trains = book.trains } }

-- what a scene keeps: its track is sound; lines, places and locks are good, authorities are apart and locked
pub record IsKept (scene : SceneOnTrack) : Type 0 where
  pub sound : IsSound scene.track
  pub good : IsGoodScene scene.track scene.scene
