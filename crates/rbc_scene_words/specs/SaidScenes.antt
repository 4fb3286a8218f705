-- What the lines of a scene say, in their order.
use Rattle.std.specs.Prelude.{ℕ, ◌+◌, List, [], ◌∷◌, ◌++◌, map, flat_map, Option, Some, None}
use Rattle.rbc_model.specs.declared.limits.TheConstants.{LEGS_A_LINE}
use Rattle.rbc_model.specs.declared.tracks.Lock.{Lock}
use Rattle.rbc_model.specs.Lines.{Line}
use Rattle.rbc_model.specs.Locks.{Locks}
use Rattle.rbc_model.specs.SceneLines.{pieces_of}
use Rattle.rbc_model.specs.Scenes.{Scene}
use Rattle.rbc_model.specs.Trains.{Train}
use Rattle.rbc_model.specs.Views.{from_group}
use Rattle.rbc_scene_words.specs.SceneLine.{SceneLine, Version, Locked, Reported, Along, More, Stands, Holds, Next, Done}

-- that a section is locked, if it is
abbrev pub said_row : ℕ → Option Lock → List SceneLine
said_row section None = []
said_row section (Some lock) = Locked (record { section = section; direction = lock.direction }) lock.route lock.before ∷ []

-- the locked sections in the order of the track, counted from a section on
abbrev pub said_locks : ℕ → Locks → List SceneLine
said_locks section [] = []
said_locks section (lock ∷ locks) = said_row section lock ++ said_locks (section + 1) locks

-- the pieces of a train's line, the first of them with the place of its group
abbrev pub said_way : Train → List Line → List SceneLine
said_way train [] = []
said_way train (first ∷ later) = Along train.report.train train.origin first ∷ map (More train.report.train) later

-- a train: its report, its line, where it stands and what it holds
abbrev pub said_train : Train → List SceneLine
said_train train =
    Reported train.report
    ∷ (said_way train (pieces_of LEGS_A_LINE train.line)
    ++ Stands train.report.train (from_group train train.rear) (from_group train train.front)
    ∷ Holds train.report.train (from_group train train.from) (from_group train train.to)
    ∷ Next
    ∷ [])

-- the version, the locked sections, the trains in order of arrival, and the end
abbrev pub said_scene : ℕ → Scene → List SceneLine
said_scene version scene = Version version ∷ ((said_locks 0 scene.locks ++ flat_map said_train scene.trains) ++ Done ∷ [])
