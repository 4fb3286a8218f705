-- Reaches together with their track, and what the walk to them keeps.
use Rattle.std.specs.Prelude.{◌≡◌, ℕ, List, length, take}
use Rattle.rbc_model.specs.declared.refusals.Obstacle.{Obstacle}
use Rattle.rbc_model.specs.Tracks.{Track}
use Rattle.rbc_model.specs.Locks.{Locks}
use Rattle.rbc_model.specs.Lines.{Line}
use Rattle.rbc_model.specs.Trains.{Train}
use Rattle.rbc_model.specs.Scenes.{Scene}
use Rattle.rbc_model.specs.Obstacles.{way}

-- how far a train's way is clear, what stands there, and the legs that its way begins with
pub record ReachOnTrack : Type 0 where
  pub track : Track
  pub place : ℕ
  pub obstacle : Obstacle
  pub line : Line

-- trains in order of arrival
abbrev pub Trains : Type 0
Trains = List Train

-- the scene of these locks and these trains
abbrev pub scene_of : Locks → Trains → Scene
scene_of locks trains = record { locks = locks; trains = trains }

-- the legs are those that the train's way begins with
abbrev pub BeginsWay : Track → Scene → Train → Line → Type 0
BeginsWay track scene train line = line ≡ take (length line) (way track scene train)
