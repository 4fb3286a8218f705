-- Steps: what may happen to a scene, what each event changes, and why it may be refused.
use Rattle.std.specs.Prelude.{ℕ, ◌+◌, max, Bool, false, not, ◌&&◌, ◌||◌, ◌==◌, nat_lt, nat_le, if◌then◌else◌, [], ◌∷◌, ◌++◌, length, map, take, find, filter, Option, option_map, is_some, Result, Ok, Err}
use Rattle.std.specs.Option.{option_map_or}
use Rattle.std.specs.Result.{result_map_both}
use Rattle.std.specs.List.{list_any}
use Rattle.rbc_model.specs.declared.limits.TheConstants.{MOST_TRAINS}
use Rattle.rbc_model.specs.declared.reports.Told.{Told}
use Rattle.rbc_model.specs.declared.reports.Told.TheVariants.{Report as ToldReport, Lock as ToldLock, Free as ToldFree, Leave as ToldLeave, GiveBack as ToldGiveBack}
use Rattle.rbc_model.specs.declared.reports.Event.{Event}
use Rattle.rbc_model.specs.declared.reports.Event.TheVariants.{Tell, Grant}
use Rattle.rbc_model.specs.Tracks.{Track}
use Rattle.rbc_model.specs.declared.refusals.Refusal.{Refusal}
use Rattle.rbc_model.specs.declared.refusals.Refusal.TheVariants.{Crowded, Busy, UnknownTrain, YieldRange, NotSafe}
use Rattle.rbc_model.specs.Results.{unless}
use Rattle.rbc_model.specs.Lines.{Line, places, metre_at, legs_begun_before}
use Rattle.rbc_model.specs.Locks.{Locks, row, locked, freed}
use Rattle.rbc_model.specs.Reports.{Report}
use Rattle.rbc_model.specs.Trains.{Train}
use Rattle.rbc_model.specs.Placing.{reported, through}
use Rattle.rbc_model.specs.Scenes.{Scene, train_numbered}
use Rattle.rbc_model.specs.Views.{start_of, is_safe, is_expressible_end}
use Rattle.rbc_model.specs.Obstacles.{way}

-- ---- changes of the trains

-- the scene with other locks
abbrev pub with_locks : Scene → Locks → Scene
with_locks scene locks = record { locks = locks; trains = scene.trains }

-- the scene with the train as it is now; a new train is last
abbrev pub with_train : Scene → Train → Scene
with_train scene train =
    record {
      locks = scene.locks;
      trains =
          if is_some (train_numbered scene train.report.train)
          then map (λ other. if other.report.train == train.report.train then train else other) scene.trains
          else scene.trains ++ train ∷ [];
    }

-- the scene without the train of this number
abbrev pub without_train : Scene → ℕ → Scene
without_train scene number = record { locks = scene.locks; trains = filter (λ train. not (train.report.train == number)) scene.trains }

-- the train with an authority from one place to another
abbrev pub with_authority : Train → Line → ℕ → ℕ → Train
with_authority train line from to = record { report = train.report; line = line; origin = train.origin; rear = train.rear; front = train.front; from = from; to = to }

-- ---- the events

-- a report: a new train is refused where there are as many as there may be
abbrev pub after_report : Track → Scene → Report → Result Scene Refusal
after_report track scene report =
    if not (is_some known) && nat_le MOST_TRAINS (length scene.trains)
    then Err Crowded
    else result_map_both (with_train scene) (λ refusal. refusal) (reported track scene.locks known report)
  where
    known : Option Train
    known = train_numbered scene report.train

-- a route is locked
abbrev pub after_lock : Track → Scene → ℕ → Result Scene Refusal
after_lock track scene route = result_map_both (with_locks scene) (λ refusal. refusal) (locked track scene.locks route)

-- whether the train's extent or authority has a metre of the section
abbrev pub stands_on : Track → ℕ → Train → Bool
stands_on track section train = list_any in_section (places train.rear train.front) || list_any in_section (places train.from train.to)
  where
    in_section : ℕ → Bool
    in_section i = option_map_or (λ metre. metre.section == section) (metre_at track train.line i) false

-- a section is freed: unless it is not locked, and unless a train, of which the first is named, stands on it or holds it, its row goes
abbrev pub after_free : Track → Scene → ℕ → Result Scene Refusal
after_free track scene section =
    if is_some (row scene.locks section)
    then unless (option_map (λ train. Busy section train.report.train) (find (stands_on track section) scene.trains)) free
    else free
  where
    -- unless it is not locked, its row goes
    free : Result Scene Refusal
    free = result_map_both (with_locks scene) (λ refusal. refusal) (freed scene.locks section)

-- a train leaves
abbrev pub after_leave : Scene → ℕ → Result Scene Refusal
after_leave scene number = if is_some (train_numbered scene number) then Ok (without_train scene number) else Err (UnknownTrain number)

-- the train with its authority cut at a place; an empty authority is one at the front
abbrev pub cut_at : Track → Train → ℕ → Train
cut_at track train to = if nat_lt train.from to then with_authority train line train.from to else with_authority train line train.front train.front
  where
    line : Line
    line = through track train.report (max train.front to) train.line

-- a train gives back the end of its authority, but not what it stands on or has run over
abbrev pub after_give_back : Track → Scene → ℕ → ℕ → Result Scene Refusal
after_give_back track scene number distance = option_map_or cut (train_numbered scene number) (Err (UnknownTrain number))
  where
    cut : Train → Result Scene Refusal
    cut train =
        let to = train.origin + distance in
        if nat_lt to train.to && nat_le train.front to && nat_le train.from to then Ok (with_train scene (cut_at track train to)) else Err (YieldRange number)

-- the train's line, continued to have the last metre before a place
abbrev pub line_to : Track → Scene → Train → ℕ → Line
line_to track scene train to = take (max (length train.line) (legs_begun_before track to (way track scene train))) (way track scene train)

-- a train is granted an authority from its start to a safe and expressible end; its line is continued to have the last metre
abbrev pub after_grant : Track → Scene → ℕ → ℕ → Result Scene Refusal
after_grant track scene number distance = option_map_or grant (train_numbered scene number) (Err (UnknownTrain number))
  where
    grant : Train → Result Scene Refusal
    grant train =
        let to = train.origin + distance in
        if is_safe track scene train to && is_expressible_end track train to
        then Ok (with_train scene (with_authority train (line_to track scene train to) (start_of train) to))
        else Err NotSafe

-- what is told, in a scene
abbrev pub after_told : Track → Scene → Told → Result Scene Refusal
after_told track scene (ToldReport report) = after_report track scene report
after_told track scene (ToldLock route) = after_lock track scene route
after_told track scene (ToldFree section) = after_free track scene section
after_told track scene (ToldLeave train) = after_leave scene train
after_told track scene (ToldGiveBack train distance) = after_give_back track scene train distance

-- the scene after an event, or the first refusal
abbrev pub step : Track → Scene → Event → Result Scene Refusal
step track scene (Tell told) = after_told track scene told
step track scene (Grant train distance) = after_grant track scene train distance
