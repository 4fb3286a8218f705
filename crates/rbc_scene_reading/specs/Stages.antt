-- What may come next in the lines of a scene.
use Rattle.std.specs.Prelude.{ℕ, nat_le, Bool, true, false, Option, Some, None}
use Rattle.rbc_model.specs.Reports.{Report}
use Rattle.rbc_model.specs.Trains.{Train}
use Rattle.rbc_scene_reading.specs.Running.{Running}
use Rattle.rbc_scene_reading.specs.declared.stage.Stage.{Stage}
use Rattle.rbc_scene_reading.specs.declared.stage.Stage.TheVariants.{Start, Rows, Told, Running as RunningTrain, Standing, Held, Between}

-- whether the version may come
abbrev pub is_start : Stage → Bool
is_start Start = true
is_start _ = false

-- whether a row of this section may come
abbrev pub may_be_of : ℕ → Stage → Bool
may_be_of section (Rows first) = nat_le first section
may_be_of section _ = false

-- whether a train or the end may come
abbrev pub is_between : Stage → Bool
is_between (Rows first) = true
is_between Held = true
is_between Between = true
is_between _ = false

-- the train whose line comes, the one whose line is being told, and the one that stands on its line
abbrev pub told_in : Stage → Option Report
told_in (Told report) = Some report
told_in _ = None

abbrev pub running_in : Stage → Option Running
running_in (RunningTrain running) = Some running
running_in _ = None

abbrev pub standing_in : Stage → Option Train
standing_in (Standing standing) = Some standing.train
standing_in _ = None

-- whether it may be told what the last train would be granted
abbrev pub is_held : Stage → Bool
is_held Held = true
is_held _ = false
