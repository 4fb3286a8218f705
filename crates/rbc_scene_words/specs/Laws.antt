-- That each line of a scene is read as what it was written to say, and that it says this in no other spelling.
use Rattle.std.specs.Prelude.{◌≡◌, ◌≢◌, ℕ, ◌<◌, ◌≤◌, ◌^◌, List, length, map, All, IfSome, Ok, nat_abs}
use Rattle.std.specs.List.{join_with_byte}
use Rattle.rbc_model.specs.declared.limits.TheConstants.{LAST_TRAIN, LEGS_A_LINE}
use Rattle.rbc_model.specs.declared.places.Leg.{Leg}
use Rattle.rbc_model.specs.Reports.{IsReport}
use Rattle.rbc_model.specs.SoundTracks.{IsInForm, IsSound}
use Rattle.rbc_model.specs.Tracks.{Track}
use Rattle.rbc_model.specs.TrackLines.{HasNames}
use Rattle.rbc_model.specs.Lines.{Line}
use Rattle.rbc_model.specs.Scenes.{Scene}
use Rattle.rbc_model.specs.SceneLines.{scene_lines, IsTellable}
use Rattle.rbc_model.specs.Sessions.{lines_of}
use Rattle.rbc_scene_laws.specs.Good.{IsGoodScene}
use Rattle.rbc_scene_words.specs.SaidScenes.{said_scene}
use Rattle.rbc_scene_words.specs.SceneLine.{SceneLine, Version, Locked, Reported, Along, More, Stands, Holds, Next, Done, parse_scene_line, scene_row}

-- a train's number
abbrev pub IsNumber : ℕ → Type 0
IsNumber train = (1 ≤ train) × (train ≤ LAST_TRAIN)

-- a leg of the track
abbrev pub IsLegOf : Track → Leg → Type 0
IsLegOf track leg = leg.section < length track.sections

-- legs of the track, as many as a line may tell
abbrev pub AreLegsOf : Track → Line → Type 0
AreLegsOf track legs = All (IsLegOf track) legs × (length legs ≤ LEGS_A_LINE)

-- what a line can say: numbers of ten digits at most, in their ranges where they are a train's or a report's, and legs and routes of the track
abbrev pub IsSayableOn : Track → SceneLine → Type 0
IsSayableOn track (Version version) = version < 10 ^ 10
IsSayableOn track (Locked leg route before) = IsLegOf track leg × (route < length track.routes) × IfSome before (IsLegOf track)
IsSayableOn track (Reported report) = IsReport report
IsSayableOn track (Along train origin legs) = IsNumber train × (origin < 10 ^ 10) × AreLegsOf track legs
IsSayableOn track (More train legs) = IsNumber train × AreLegsOf track legs
IsSayableOn track (Stands train rear front) = IsNumber train × (nat_abs rear < 10 ^ 10) × (nat_abs front < 10 ^ 10)
IsSayableOn track (Holds train from to) = IsNumber train × (nat_abs from < 10 ^ 10) × (nat_abs to < 10 ^ 10)
IsSayableOn track Next = Unit {0}
IsSayableOn track Done = Unit {0}

-- a line that is written is read as what it says, on a sound track whose names are names
abbrev pub SceneLinesAreParsedBack : Type 0
SceneLinesAreParsedBack = (track : Track) (line : SceneLine) → IsSound track → HasNames track → IsSayableOn track line
    → parse_scene_line track (join_with_byte 32 (scene_row track line)) ≡ Ok line

-- the lines that are written of a good scene, with rows of the track's routes and numbers of reports in their ranges, are read one by one as what they say
abbrev pub ScenesAreParsedBack : Type 0
ScenesAreParsedBack = (track : Track) (version : ℕ) (scene : Scene) → IsInForm track → IsSound track → HasNames track → IsGoodScene track scene → IsTellable track scene
    → version < 10 ^ 10 → map (parse_scene_line track) (lines_of (scene_lines track version scene)) ≡ map Ok (said_scene version scene)

-- a line is read only if it is spelled as what it says is written; of `next`, which follows from the rest, nothing is asked
abbrev pub ReadLinesAreWritten : Type 0
ReadLinesAreWritten = (track : Track) (line : List ℕ) (said : SceneLine) → parse_scene_line track line ≡ Ok said → said ≢ Next → line ≡ join_with_byte 32 (scene_row track said)
