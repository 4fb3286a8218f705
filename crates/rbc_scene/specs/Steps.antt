-- What a call on a scene answers, and what it leaves.
use Rattle.std.specs.Prelude.{◌≡◌, ◌<◌, ◌≤◌, ℕ, ◌+◌, nat_lt, nat_le, not, ◌&&◌, ◌||◌, Bool, if◌then◌else◌, length, is_some, is_none, Option, Some, None, Result, Ok, Err, ℤ, pos}
use Rattle.std.specs.Option.{option_map_or}
use Rattle.std.specs.Result.{result_err}
use Rattle.rbc_model.specs.declared.limits.TheConstants.{MOST_TRAINS}
use Rattle.rbc_model.specs.declared.memory.OrMemory.{OrMemory}
use Rattle.rbc_model.specs.declared.refusals.Refusal.{Refusal}
use Rattle.rbc_model.specs.declared.refusals.Refusal.TheVariants.{Crowded, UnknownGroup, UnknownTrain, YieldRange, NotSafe}
use Rattle.rbc_model.specs.declared.refusals.Obstacle.{Obstacle}
use Rattle.rbc_model.specs.declared.reports.Event.{Event}
use Rattle.rbc_model.specs.declared.reports.Event.TheVariants.{Tell, Grant}
use Rattle.rbc_model.specs.declared.reports.Told.{Told}
use Rattle.rbc_model.specs.declared.reports.Told.TheVariants.{Report as ToldReport, Lock as ToldLock}
use Rattle.rbc_model.specs.Answers.{RefusesOrMemory}
use Rattle.rbc_model.specs.Events.{after_told}
use Rattle.rbc_model.specs.Lines.{Line, line_length}
use Rattle.rbc_model.specs.Scales.{farthest}
use Rattle.rbc_model.specs.Tracks.{Track, group_named}
use Rattle.rbc_model.specs.Reports.{Report}
use Rattle.rbc_model.specs.Trains.{Train}
use Rattle.rbc_model.specs.Scenes.{Scene, train_numbered}
use Rattle.rbc_model.specs.Views.{reach, stop}
use Rattle.rbc_search.specs.Reaches.{BeginsWay}
use Rattle.rbc_scene.specs.ScenesOnTracks.{SceneOnTrack}

-- The call changed the old scene into the new one that the definition names, or it was refused as the definition says and the scene is the old one.
abbrev pub StepsTo : Result (Unit {0}) Refusal → SceneOnTrack → SceneOnTrack → Result Scene Refusal → Type 0
StepsTo (Ok _) old new answer = (answer ≡ Ok new.scene) × (new.track ≡ old.track)
StepsTo (Err refusal) old new answer = (answer ≡ Err refusal) × (new ≡ old)

-- The call changed the old scene into the new one that the definition names; or it was refused as that says, or memory was, and the scene is the old one.
abbrev pub StepsOrMemory : Result (Unit {0}) (OrMemory Refusal) → SceneOnTrack → SceneOnTrack → Result Scene Refusal → Type 0
StepsOrMemory (Ok _) old new answer = (answer ≡ Ok new.scene) × (new.track ≡ old.track)
StepsOrMemory (Err fault) old new answer = RefusesOrMemory fault answer × (new ≡ old)

-- whether a train of this number would be a new one where there are as many as there may be
abbrev pub is_crowded : Scene → Report → Bool
is_crowded scene report = not (is_some (train_numbered scene report.train)) && nat_le MOST_TRAINS (length scene.trains)

-- the place at which a train's authority ends once it has given back what lies beyond `distance` metres from its group, if it may
abbrev pub end_cut : Train → ℕ → Option ℕ
end_cut train distance =
    let to = train.origin + distance in if nat_lt to train.to && nat_le train.front to && nat_le train.from to then Some to else None

-- the place at which the authority of the train of this number then ends, or why it may not give that back
abbrev pub end_given_back : Scene → ℕ → ℕ → Result ℕ Refusal
end_given_back scene number distance = option_map_or (λ train. option_map_or (λ to. Ok to) (end_cut train distance) (Err (YieldRange number))) (train_numbered scene number) (Err (UnknownTrain number))

-- the route that is told is one of the track's
abbrev pub IsOfTrack : Track → Told → Type 0
IsOfTrack track (ToldLock route) = route < length track.routes
IsOfTrack track _ = Unit {0}

-- what is told is a report, for which memory may be needed
abbrev pub IsReportTold : Told → Type 0
IsReportTold (ToldReport report) = Unit {0}
IsReportTold _ = ⊥

-- an event names a route or a section of the track, if it names one
abbrev pub IsEventOfTrack : Track → Event → Type 0
IsEventOfTrack track (Tell told) = IsOfTrack track told
IsEventOfTrack track (Grant train distance) = Unit {0}

-- memory may be needed for a report and for a grant
abbrev pub MayNeedMemory : Event → Type 0
MayNeedMemory (Tell told) = IsReportTold told
MayNeedMemory (Grant train distance) = Unit {0}

-- why what is told is refused, where nothing has to grow to see it: of a report, that there are too many trains or no such group; of all else, each refusal
abbrev pub told_at_once : Track → Scene → Told → Option Refusal
told_at_once track scene (ToldReport report) =
    if is_crowded scene report then Some Crowded else (if is_none (group_named track report.group) then Some UnknownGroup else None)
told_at_once track scene told = result_err (after_told track scene told)

-- No way is so clear that the train's authority may end `distance` metres from its group: no message tells as many, or the place does not lie beyond
-- the front, or metres are taken back.
abbrev pub is_out_of_range : Track → Train → ℕ → Bool
is_out_of_range track train distance =
    let to = train.origin + distance in nat_lt (farthest track.format) distance || nat_le to train.front || nat_lt to train.to

-- why a grant is refused, where nothing has to grow to see it
abbrev pub granted_at_once : Track → Scene → ℕ → ℕ → Option Refusal
granted_at_once track scene number distance =
    option_map_or (λ train. if is_out_of_range track train distance then Some NotSafe else None) (train_numbered scene number) (Some (UnknownTrain number))

-- why an event is refused, where nothing has to grow to see it
abbrev pub refused_at_once : Track → Scene → Event → Option Refusal
refused_at_once track scene (Tell told) = told_at_once track scene told
refused_at_once track scene (Grant train distance) = granted_at_once track scene train distance

-- what stands at the reach of the train of this number, and where, in metres from the start of its line
abbrev pub reach_of : Track → Scene → ℕ → Result (Obstacle × ℤ) Refusal
reach_of track scene number =
    option_map_or (λ train. let found : Result (Obstacle × ℤ) Refusal = Ok (stop track scene train, pos (reach track scene train)) in found) (train_numbered scene number) (Err (UnknownTrain number))

-- the way of the train of this number begins with the legs, and they have each metre before the place `distance` metres from its group
abbrev pub LeadTo : Track → Scene → ℕ → ℕ → Line → Type 0
LeadTo track scene number distance legs =
    (train : Train) → train_numbered scene number ≡ Some train → BeginsWay track scene train legs × (train.origin + distance ≤ line_length track legs)
