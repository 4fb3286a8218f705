-- What the lines of a scene tell.
use Rattle.std.specs.Prelude.{◌≡◌, ℕ, ◌-◌, ◌<◌, ◌^◌, List, [], ◌∷◌, All, Some, Result, Ok, Err, codes, decimal}
use Rattle.std.specs.Fmt.{signed_decimal}
use Rattle.rbc_model.specs.declared.refusals.ViewFault.{ViewFault}
use Rattle.rbc_model.specs.declared.refusals.ViewFault.TheVariants.{UnknownTrain, Blocked}
use Rattle.rbc_model.specs.declared.reports.Told.TheVariants.{Report as ToldReport}
use Rattle.rbc_model.specs.Reports.{IsReport}
use Rattle.rbc_model.specs.SoundTracks.{IsInForm, IsSound}
use Rattle.rbc_model.specs.Tracks.{Track}
use Rattle.rbc_model.specs.TrackLines.{HasNames}
use Rattle.rbc_model.specs.Scenes.{Scene, empty_scene}
use Rattle.rbc_model.specs.Trains.{Train}
use Rattle.rbc_model.specs.Rows.{Row}
use Rattle.rbc_model.specs.SessionReply.{obstacle_words}
use Rattle.rbc_model.specs.Views.{View, view_of}
use Rattle.rbc_model.specs.Histories.{Beginning, Entry, Heard, replay}
use Rattle.rbc_model.specs.SceneLines.{distance_word, next_line, read_scene_lines, scene_lines, train_line, IsTellable}
use Rattle.rbc_scene_laws.specs.Good.{IsGoodScene}

-- The version and the scene are read back from their lines, where the track is sound and its names are names, the scene is a good one, its rows are
-- rows of routes and its reports are reports.
abbrev pub SceneLinesAreReadBack : Type 0
SceneLinesAreReadBack = (track : Track) (version : ℕ) (scene : Scene) → IsInForm track → IsSound track → HasNames track → IsGoodScene track scene → IsTellable track scene
    → version < 10 ^ 10 → read_scene_lines track (scene_lines track version scene) ≡ Some (version, scene)

-- what was told is no report, or one whose numbers are in their ranges
abbrev pub IsReportIfTold : Entry → Type 0
IsReportIfTold (Heard (ToldReport report)) = IsReport report
IsReportIfTold _ = Unit {0}

-- so it is with the scene of any history of such entries, where it begins with a good scene that lines can tell
abbrev pub ScenesOfHistoriesAreReadBack : Type 0
ScenesOfHistoriesAreReadBack = (begin : Beginning) (version : ℕ) (entries : List Entry) → IsInForm begin.track → IsSound begin.track → HasNames begin.track → IsGoodScene begin.track begin.scene → IsTellable begin.track begin.scene
    → All IsReportIfTold entries → version < 10 ^ 10 → read_scene_lines begin.track (scene_lines begin.track version (replay begin entries)) ≡ Some (version, replay begin entries)

-- lines can tell the empty scene
abbrev pub EmptyScenesAreTellable : Type 0
EmptyScenesAreTellable = (track : Track) → IsTellable track (empty_scene track)

-- The `next` line of a train, by what it is shown if it asks: of a view the end and the obstacle, which `granted` tells, and the reach; or what stands
-- in its way, and where, which `blocked` tells.
abbrev pub next_shown : Track → Train → Result View ViewFault → Row
next_shown track train (Ok shown) = train_line (codes "next") train (decimal (shown.end - shown.origin) ∷ distance_word train shown.reach ∷ obstacle_words track shown.obstacle)
next_shown track train (Err (Blocked obstacle at)) = train_line (codes "next") train (codes "-" ∷ signed_decimal at ∷ obstacle_words track obstacle)
next_shown track train (Err UnknownTrain) = []

-- it tells what an `ask` would be answered
abbrev pub NextIsWhatIsShown : Type 0
NextIsWhatIsShown = (track : Track) (scene : Scene) (train : Train) → next_line track scene train ≡ next_shown track train (view_of track scene train)
