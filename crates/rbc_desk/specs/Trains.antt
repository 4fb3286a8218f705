-- Which trains a desk shows.
use Rattle.std.specs.Prelude.{ℕ, List, map}
use Rattle.rbc_snap.specs.Records.{HistoryOnTrack, scene_now}

-- the numbers of all trains of the scene that the history leads to, in order of arrival
abbrev pub numbers_of : HistoryOnTrack → List ℕ
numbers_of history = map (λ train. train.report.train) (scene_now history).trains
