-- That the scenes that are read are good ones, and that each good one is read from the lines in which it was written, and from no others.
use Rattle.std.specs.Prelude.{◌≡◌, ℕ, ◌<◌, ◌^◌, List, Ok, Bool, true, false, not, filter, Result}
use Rattle.rbc_model.specs.declared.refusals.LineFault.{LineFault}
use Rattle.rbc_model.specs.SoundTracks.{IsInForm, IsSound}
use Rattle.rbc_model.specs.Tracks.{Track}
use Rattle.rbc_model.specs.TrackLines.{HasNames}
use Rattle.rbc_model.specs.Scenes.{Scene}
use Rattle.rbc_model.specs.SceneLines.{scene_lines, IsTellable}
use Rattle.rbc_model.specs.Sessions.{lines_of}
use Rattle.rbc_scene_laws.specs.Good.{IsGoodScene}
use Rattle.rbc_good_laws.specs.Told.{IsToldScene}
use Rattle.rbc_scene_words.specs.SceneLine.{SceneLine, Next, parse_scene_line}
use Rattle.rbc_scene_reading.specs.Reading.{read_scene}

-- a scene that is read is a good one, and as what was told leaves it, and lines can tell it
abbrev pub ReadScenesAreGood : Type 0
ReadScenesAreGood = (track : Track) (lines : List (List ℕ)) (version : ℕ) (scene : Scene) → IsSound track → read_scene track lines ≡ Ok (version, scene)
    → IsGoodScene track scene × IsToldScene track scene × IsTellable track scene

-- each scene that is so is read from the lines in which it is written
abbrev pub WrittenScenesAreRead : Type 0
WrittenScenesAreRead = (track : Track) (version : ℕ) (scene : Scene) → IsInForm track → IsSound track → HasNames track → IsGoodScene track scene → IsToldScene track scene → IsTellable track scene
    → version < 10 ^ 10 → read_scene track (lines_of (scene_lines track version scene)) ≡ Ok (version, scene)

-- whether a line tells what a train would be granted
abbrev pub tells_next : Result SceneLine LineFault → Bool
tells_next (Ok Next) = true
tells_next _ = false

-- the lines but those that do, which follow from the rest
abbrev pub without_next : Track → List (List ℕ) → List (List ℕ)
without_next track lines = filter (λ line. not (tells_next (parse_scene_line track line))) lines

-- the lines of a scene that is read are those in which it is written, but for what trains would be granted: no other text tells it
abbrev pub OneTextIsRead : Type 0
OneTextIsRead = (track : Track) (lines : List (List ℕ)) (version : ℕ) (scene : Scene) → IsInForm track → IsSound track → HasNames track → read_scene track lines ≡ Ok (version, scene)
    → without_next track lines ≡ without_next track (lines_of (scene_lines track version scene))
