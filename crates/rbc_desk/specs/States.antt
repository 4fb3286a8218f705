-- How far a history is.
use Rattle.std.specs.Prelude.{ℕ, length}
use Rattle.rbc_model.specs.Inquiries.{locked_count}
use Rattle.rbc_model.specs.Scenes.{Scene}
use Rattle.rbc_snap.specs.Records.{HistoryOnTrack, scene_now}
use Rattle.rbc_desk.specs.declared.state.State.{State}

-- the state of a history of this version that leads to this scene
abbrev pub state_at : ℕ → Scene → State
state_at version scene = record { version = version; trains = length scene.trains; locked = locked_count scene.locks }

-- the state of a history
abbrev pub state_of : HistoryOnTrack → State
state_of history = state_at (length history.entries) (scene_now history)
