-- How a scene is read from its lines: each line adds something to what was read before, or is the first one with a fault.
use Rattle.std.specs.Prelude.{ℕ, ◌+◌, ◌&&◌, ◌==◌, not, max, min, nat_lt, nat_le, if◌then◌else◌, List, [], ◌∷◌, length, find, Option, Some, None, is_some, is_none, option_map, option_and_then, Result, Ok, Err, ℤ, pos, ◌+ℤ◌}
use Rattle.std.specs.Option.{ok_or, option_or}
use Rattle.std.specs.Result.{result_map_both}
use Rattle.rbc_model.specs.declared.limits.TheConstants.{MOST_TRAINS}
use Rattle.rbc_model.specs.declared.places.Leg.{Leg}
use Rattle.rbc_model.specs.declared.refusals.Refusal.{Refusal}
use Rattle.rbc_model.specs.declared.refusals.Refusal.TheVariants.{LinkTaken as TakenRefusal}
use Rattle.rbc_model.specs.Results.{demand, unless, ◌>>=◌, ◌>>◌}
use Rattle.rbc_model.specs.Reports.{Report}
use Rattle.rbc_model.specs.Scales.{farthest}
use Rattle.rbc_model.specs.Tracks.{Track, group_named, metres_of}
use Rattle.rbc_model.specs.Lines.{Line}
use Rattle.rbc_model.specs.Locks.{Locks}
use Rattle.rbc_model.specs.Obstacles.{is_locked}
use Rattle.rbc_model.specs.Trains.{Train}
use Rattle.rbc_model.specs.Scenes.{Scene, empty_scene, train_numbered}
use Rattle.rbc_model.specs.Events.{with_authority, with_locks, with_train}
use Rattle.rbc_model.specs.SceneLines.{place_in}
use Rattle.rbc_good_laws.specs.Good.{is_good_line, is_good_train}
use Rattle.rbc_good_laws.specs.Tests.{hold_both}
use Rattle.rbc_good_laws.specs.Told.{is_needed, stands_as_told}
use Rattle.rbc_scene.specs.Added.{added}
use Rattle.rbc_scene.specs.Entries.{on_track}
use Rattle.rbc_scene_words.specs.SceneLine.{SceneLine, Version, Locked, Reported, Along, More, Stands, Holds, Next, Done, parse_scene_line}
use Rattle.rbc_scene_reading.specs.Pieces.{fits, is_full, may_go_on, with_legs}
use Rattle.rbc_scene_reading.specs.Running.{Running}
use Rattle.rbc_scene_reading.specs.Stages.{is_between, is_held, is_start, may_be_of, running_in, standing_in, told_in}
use Rattle.rbc_scene_reading.specs.declared.fault.FaultyLine.{FaultyLine}
use Rattle.rbc_scene_reading.specs.declared.fault.SceneFault.{SceneFault}
use Rattle.rbc_scene_reading.specs.declared.fault.SceneFault.TheVariants.{Line as LineAtFault, Order, NotOfRoute, LinkTaken, Crowded, TwiceTold, UnknownGroup, TooFar, NoLine, NotAsTold, OffLine, NotLocked, Held as HeldTwice, NoEnd}
use Rattle.rbc_scene_reading.specs.Readings.{Reading}
use Rattle.rbc_scene_reading.specs.declared.stage.Stage.{Stage}
use Rattle.rbc_scene_reading.specs.declared.stage.Stage.TheVariants.{Start, Rows, Told, Running as RunningTrain, Standing, Held, Between, Ended}

-- before the first line
abbrev pub begun : Track → Reading
begun track = record { track = track; version = 0; scene = empty_scene track; stage = Start }

-- and once a line changed what may come next
abbrev pub at_stage : Reading → Stage → Reading
at_stage reading stage = record { track = reading.track; version = reading.version; scene = reading.scene; stage = stage }

-- ---- the version and the rows

abbrev pub with_version : ℕ → Reading → Result Reading SceneFault
with_version version reading = do
  demand (is_start reading.stage) Order
  Ok (record { track = reading.track; version = version; scene = reading.scene; stage = Rows 0 })

-- why a row can't be added: a section has one row
abbrev pub row_fault : Refusal → SceneFault
row_fault (TakenRefusal leg) = LinkTaken leg
row_fault _ = Order

-- the locks with a row that its route needs, behind the rows of the sections before
abbrev pub locks_with : Track → Locks → Leg → ℕ → Option Leg → Result Locks SceneFault
locks_with track locks leg route before = do
  demand (is_needed track leg.section (record { direction = leg.direction; route = route; before = before })) (NotOfRoute leg.section route)
  result_map_both (λ locks. locks) row_fault (added locks route leg before)

abbrev pub with_row_told : Leg → ℕ → Option Leg → Reading → Result Reading SceneFault
with_row_told leg route before reading = do
  demand (may_be_of leg.section reading.stage) Order
  locks ← locks_with reading.track reading.scene.locks leg route before
  Ok (record { track = reading.track; version = reading.version; scene = with_locks reading.scene locks; stage = Rows (leg.section + 1) })

-- ---- a train

-- why no train with this report may come
abbrev pub report_fault : Track → Scene → Report → Option SceneFault
report_fault track scene report =
    if nat_le MOST_TRAINS (length scene.trains) then Some (Crowded report.train)
    else if is_some (train_numbered scene report.train) then Some (TwiceTold report.train)
    else if is_none (group_named track report.group) then Some (UnknownGroup report.train)
    else if nat_lt (farthest track.format) (report.distance + report.under) then Some (TooFar report.train)
    else None

abbrev pub with_report : Report → Reading → Result Reading SceneFault
with_report report reading = do
  demand (is_between reading.stage) Order
  unless (report_fault reading.track reading.scene report) (Ok (at_stage reading (Told report)))

-- the place of its group, and its first legs
abbrev pub with_line : ℕ → ℕ → Line → Reading → Result Reading SceneFault
with_line train origin legs reading = do
  report ← ok_or (told_in reading.stage) Order
  demand (train == report.train && fits legs) Order
  Ok (at_stage reading (RunningTrain (record { report = report; origin = origin; legs = legs; full = is_full legs })))

-- more legs, behind a full piece
abbrev pub with_piece : ℕ → Line → Reading → Result Reading SceneFault
with_piece train legs reading = do
  running ← ok_or (running_in reading.stage) Order
  demand (may_go_on train running legs) Order
  Ok (at_stage reading (RunningTrain (with_legs running legs)))

-- the place at a distance from the group
abbrev pub place_at : ℕ → ℤ → Option ℕ
place_at origin distance = place_in (distance +ℤ pos origin)

-- the train at these places, holding nothing yet
abbrev pub standing_at : Running → ℕ → ℕ → Train
standing_at running rear front = record {
  report = running.report;
  line = running.legs;
  origin = running.origin;
  rear = rear;
  front = front;
  from = front;
  to = front;
}

-- the train, if it stands on its line, and where its report tells
abbrev pub if_stands : Track → Train → Option Train
if_stands track train = if is_good_train track train && stands_as_told track train then Some train else None

-- the train at these distances from its group, if it stands there
abbrev pub where_told : Track → Running → ℤ → ℤ → Option Train
where_told track running rear front =
    option_and_then (λ rear. option_and_then (λ front. if_stands track (standing_at running rear front)) (place_at running.origin front)) (place_at running.origin rear)

-- the train whose line is whole, where it stands
abbrev pub stands_on_line : Track → Running → ℤ → ℤ → Result Train SceneFault
stands_on_line track running rear front = do
  demand (is_good_line track running.legs) (NoLine running.report.train)
  ok_or (where_told track running rear front) (NotAsTold running.report.train)

abbrev pub with_extent : ℕ → ℤ → ℤ → Reading → Result Reading SceneFault
with_extent train rear front reading = do
  running ← ok_or (running_in reading.stage) Order
  demand (train == running.report.train) Order
  standing ← stands_on_line reading.track running rear front
  Ok (at_stage reading (Standing (on_track reading.track standing)))

-- ---- what it holds

-- the first section of which it holds a metre and which is not locked in the direction of its leg, from the leg at a place on
abbrev pub first_unlocked : Track → Locks → ℕ → ℕ → ℕ → Line → Option ℕ
first_unlocked track locks from to place [] = None
first_unlocked track locks from to place (leg ∷ legs) =
    let rest = first_unlocked track locks from to (place + metres_of track leg.section) legs in
    if nat_lt (max from place) (min to (place + metres_of track leg.section)) && not (is_locked locks None leg) then Some leg.section else rest

-- the first of the trains that holds a metre of a section which this train holds too
abbrev pub first_sharing : Track → List Train → Train → ℕ → Option ℕ
first_sharing track trains train section = option_map (λ (other : Train). other.report.train) (find (hold_both track section train) trains)

-- that train and that section, for the first of these legs where there is one
abbrev pub first_shared : Track → List Train → Train → Line → Option (ℕ × ℕ)
first_shared track trains train [] = None
first_shared track trains train (leg ∷ legs) =
    option_or (option_map (λ other. (other, leg.section)) (first_sharing track trains train leg.section)) (first_shared track trains train legs)

-- why the train can't hold that
abbrev pub held_fault : Track → Scene → Train → Option SceneFault
held_fault track scene train =
    option_or
    (option_map (NotLocked train.report.train) (first_unlocked track scene.locks train.from train.to 0 train.line))
    (option_map (λ both. HeldTwice train.report.train both.0 both.1) (first_shared track scene.trains train train.line))

-- the train, if it is a good one
abbrev pub if_good : Track → Train → Option Train
if_good track train = if is_good_train track train then Some train else None

-- the train with what it holds at these distances from its group, if that lies on its line and not behind its rear
abbrev pub where_held : Track → Train → ℤ → ℤ → Option Train
where_held track standing from to =
    option_and_then (λ from. option_and_then (λ to. if_good track (with_authority standing standing.line from to)) (place_at standing.origin to)) (place_at standing.origin from)

-- the train with what it holds
abbrev pub holding : Track → Scene → Train → ℤ → ℤ → Result Train SceneFault
holding track scene standing from to = do
  held ← ok_or (where_held track standing from to) (OffLine standing.report.train)
  unless (held_fault track scene held) (Ok held)

abbrev pub with_held : ℕ → ℤ → ℤ → Reading → Result Reading SceneFault
with_held train from to reading = do
  standing ← ok_or (standing_in reading.stage) Order
  demand (train == standing.report.train) Order
  held ← holding reading.track reading.scene standing from to
  Ok (record { track = reading.track; version = reading.version; scene = with_train reading.scene held; stage = Held })

-- ---- all lines

-- what would be granted follows from the rest, and is passed over
abbrev pub with_next : Reading → Result Reading SceneFault
with_next reading = demand (is_held reading.stage) Order >> Ok (at_stage reading Between)

abbrev pub with_end : Reading → Result Reading SceneFault
with_end reading = demand (is_between reading.stage) Order >> Ok (at_stage reading Ended)

-- what was read, with what a line says
abbrev pub with_said : SceneLine → Reading → Result Reading SceneFault
with_said (Version version) reading = with_version version reading
with_said (Locked leg route before) reading = with_row_told leg route before reading
with_said (Reported report) reading = with_report report reading
with_said (Along train origin legs) reading = with_line train origin legs reading
with_said (More train legs) reading = with_piece train legs reading
with_said (Stands train rear front) reading = with_extent train rear front reading
with_said (Holds train from to) reading = with_held train from to reading
with_said Next reading = with_next reading
with_said Done reading = with_end reading

abbrev pub with_text : List ℕ → Reading → Result Reading SceneFault
with_text line reading = do
  said ← result_map_both (λ said. said) LineAtFault (parse_scene_line reading.track line)
  with_said said reading

-- the version and the scene, if the end was told
abbrev pub whole : Reading → Result (ℕ × Scene) SceneFault
whole reading = ended reading.stage
  where
    ended : Stage → Result (ℕ × Scene) SceneFault
    ended Ended = Ok (reading.version, reading.scene)
    ended _ = Err NoEnd

-- the fault of the line of this number
abbrev pub at_line : {A : Type 0} → ℕ → Result A SceneFault → Result A FaultyLine
at_line line answer = result_map_both (λ x. x) (λ fault. record { line = line; fault = fault }) answer

-- the lines from the one of this number on
abbrev pub read_from : ℕ → Reading → List (List ℕ) → Result (ℕ × Scene) FaultyLine
read_from n reading [] = at_line n (whole reading)
read_from n reading (line ∷ lines) = at_line n (with_text line reading) >>= (λ reading. read_from (n + 1) reading lines)

-- the version and the scene that lines tell, or the first line with a fault
abbrev pub read_scene : Track → List (List ℕ) → Result (ℕ × Scene) FaultyLine
read_scene track lines = read_from 1 (begun track) lines
