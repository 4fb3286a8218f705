-- What was read of a scene so far, and what it keeps.
use Rattle.std.specs.Prelude.{◌≡◌, ℕ, ◌<◌, [], length, None}
use Rattle.rbc_model.specs.declared.limits.TheConstants.{MOST_TRAINS}
use Rattle.rbc_model.specs.Tracks.{Track}
use Rattle.rbc_model.specs.SoundTracks.{IsSound}
use Rattle.rbc_model.specs.Locks.{Locks}
use Rattle.rbc_model.specs.Reports.{Report}
use Rattle.rbc_model.specs.Scenes.{Scene, train_numbered}
use Rattle.rbc_scene_laws.specs.Good.{IsGoodScene}
use Rattle.rbc_scene.specs.Books.{Book}
use Rattle.rbc_scene_reading.specs.declared.stage.Stage.{Stage}
use Rattle.rbc_scene_reading.specs.declared.stage.Stage.TheVariants.{Start, Rows, Told, Running as RunningTrain, Standing}

-- what was read: the version, the locks and the trains so far, and what may come next
pub record Reading : Type 0 where
  pub track : Track
  pub version : ℕ
  pub scene : Scene
  pub stage : Stage

-- ---- what is kept

-- a train with this report may be put behind the others
pub record IsNew (scene : Scene) (report : Report) : Type 0 where
  pub few : length scene.trains < MOST_TRAINS
  pub new : train_numbered scene report.train ≡ None

-- while rows may come there is no train, and the train that is being told is new
abbrev pub FitsStage : Track → Scene → Stage → Type 0
FitsStage track scene Start = scene.trains ≡ []
FitsStage track scene (Rows first) = scene.trains ≡ []
FitsStage track scene (Told report) = IsNew scene report
FitsStage track scene (RunningTrain running) = IsNew scene running.report
FitsStage track scene (Standing standing) = IsNew scene standing.train.report × (standing.track ≡ track)
FitsStage track scene _ = Unit {0}

-- the track is sound, the scene so far is a good one, and the train that is being told is new
pub record IsSoFar (reading : Reading) : Type 0 where
  pub sound : IsSound reading.track
  pub good : IsGoodScene reading.track reading.scene
  pub stage : FitsStage reading.track reading.scene reading.stage

-- what was read, by its parts
abbrev pub reading_of : ℕ → Locks → Book → Stage → Reading
reading_of version locks book stage = record { track = book.track; version = version; scene = record { locks = locks; trains = book.trains }; stage = stage }
