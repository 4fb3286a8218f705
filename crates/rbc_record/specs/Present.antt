-- Whether a train is there.
use Rattle.std.specs.Prelude.{ℕ, Bool, is_some}
use Rattle.rbc_model.specs.Scenes.{train_numbered}
use Rattle.rbc_record.specs.Records.{HistoryOnTrack, scene_now}

-- whether the scene that the history leads to has a train of this number
abbrev pub has_train : HistoryOnTrack → ℕ → Bool
has_train history number = is_some (train_numbered (scene_now history) number)
