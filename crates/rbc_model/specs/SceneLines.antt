-- Lines of a scene: the locks and the trains of one version as lines of text, and how these are read back.
-- Distances are metres from the balise group of the train's last report, as in the replies of a session.
use Rattle.std.specs.Prelude.{◌≡◌, ℕ, suc, zero, ◌+◌, ◌-◌, ◌<◌, ◌==◌, All, if◌then◌else◌, List, [], ◌∷◌, ◌++◌, length, map, flat_map, Option, Some, None, option_map, Result, Ok, Err, ℤ, pos, negsuc, ◌+ℤ◌, bytes_eq, codes, decimal}
use Rattle.std.specs.Fmt.{signed_decimal}
use Rattle.std.specs.Option.{ok_or, option_and_then}
use Rattle.std.specs.Result.{result_ok}
use Rattle.rbc_model.specs.declared.limits.TheConstants.{LEGS_A_LINE}
use Rattle.rbc_model.specs.declared.places.Leg.{Leg}
use Rattle.rbc_model.specs.declared.refusals.LineFault.{LineFault}
use Rattle.rbc_model.specs.declared.refusals.LineFault.TheVariants.{Command, Words, Number, Name}
use Rattle.rbc_model.specs.declared.tracks.Lock.{Lock}
use Rattle.rbc_model.specs.Results.{demand, ◌>>=◌, ◌>>◌}
use Rattle.rbc_model.specs.Reports.{Report, IsReport}
use Rattle.rbc_model.specs.Names.{LegName}
use Rattle.rbc_model.specs.Words.{number_in, integer_in}
use Rattle.rbc_model.specs.Rows.{Row, rows_text, leg_or_none, leg_at, leg_or_none_at, each_word}
use Rattle.rbc_model.specs.Sessions.{lines_of}
use Rattle.rbc_model.specs.RequestText.{request_words}
use Rattle.rbc_model.specs.SessionText.{report_in, group_word, nominal_word}
use Rattle.rbc_model.specs.SessionReply.{leg_word, obstacle_words}
use Rattle.rbc_model.specs.HistoryText.{route_word}
use Rattle.rbc_model.specs.Tracks.{Track, section_named, route_named}
use Rattle.rbc_model.specs.TrackLines.{named_leg}
use Rattle.rbc_model.specs.Lines.{Line}
use Rattle.rbc_model.specs.Locks.{row, Locks, with_row}
use Rattle.rbc_model.specs.Trains.{Train}
use Rattle.rbc_model.specs.Scenes.{Scene, empty_scene}
use Rattle.rbc_model.specs.Views.{from_group, reach, stop, greatest_end}

-- ---- locks

-- a locked section: its leg, the route that locked it, and the leg before
abbrev pub locked_line : Track → ℕ → Lock → Row
locked_line track section lock =
    codes "locked" ∷ leg_word track (record { section = section; direction = lock.direction }) ∷ route_word track lock.route ∷ leg_or_none (option_map (named_leg track) lock.before) ∷ []

-- the row of a section, if it has one
abbrev pub row_lines : Track → ℕ → Option Lock → List Row
row_lines track section None = []
row_lines track section (Some lock) = locked_line track section lock ∷ []

-- the locked sections in the order of the track, counted from a section on
abbrev pub locked_lines : Track → ℕ → Locks → List Row
locked_lines track section [] = []
locked_lines track section (lock ∷ locks) = row_lines track section lock ++ locked_lines track (section + 1) locks

-- ---- trains

-- a leg in front of the first piece
abbrev pub in_front : Leg → List Line → List Line
in_front leg [] = (leg ∷ []) ∷ []
in_front leg (piece ∷ pieces) = (leg ∷ piece) ∷ pieces

-- a line in pieces: so many legs, and then as many as a line of text may tell, until none is left
abbrev pub pieces_of : ℕ → Line → List Line
pieces_of room [] = [] ∷ []
pieces_of zero (leg ∷ legs) = [] ∷ in_front leg (pieces_of (LEGS_A_LINE - 1) legs)
pieces_of (suc room) (leg ∷ legs) = in_front leg (pieces_of room legs)

-- the words of a report, as a train tells them behind `report`
abbrev pub report_words : Report → Row
report_words report =
    decimal report.train
    ∷ group_word report.group
    ∷ nominal_word report.nominal
    ∷ decimal report.distance
    ∷ decimal report.over
    ∷ decimal report.under
    ∷ decimal report.length
    ∷ decimal report.time
    ∷ []

-- a line that begins with this word, and tells something of a train
abbrev pub train_line : List ℕ → Train → Row → Row
train_line command train words = command ∷ decimal train.report.train ∷ words

-- a place, in metres from the train's group
abbrev pub distance_word : Train → ℕ → List ℕ
distance_word train place = signed_decimal (from_group train place)

-- the legs that it runs along, and how many metres behind the start of the first one its group stands
abbrev pub way_lines : Track → Train → List Line → List Row
way_lines track train [] = []
way_lines track train (first ∷ later) =
    train_line (codes "line") train (decimal train.origin ∷ map (leg_word track) first)
    ∷ map (λ piece. train_line (codes "along") train (map (leg_word track) piece)) later

-- two places of it
abbrev pub places_line : List ℕ → Train → ℕ → ℕ → Row
places_line command train low high = train_line command train (distance_word train low ∷ distance_word train high ∷ [])

-- where it may stand
abbrev pub stands_line : Train → Row
stands_line train = places_line (codes "stands") train train.rear train.front

-- what it holds
abbrev pub holds_line : Train → Row
holds_line train = places_line (codes "holds") train train.from train.to

-- an end, in metres from the train's group; `-` where there is none
abbrev pub end_word : Train → Option ℕ → List ℕ
end_word train None = codes "-"
end_word train (Some end) = decimal (end - train.origin)

-- What it would be granted now, if it asked: the greatest end that is safe and that a message can give, and where which obstacle stands.
abbrev pub next_line : Track → Scene → Train → Row
next_line track scene train =
    train_line (codes "next") train
    (end_word train (greatest_end track scene train) ∷ distance_word train (reach track scene train) ∷ obstacle_words track (stop track scene train))

-- the lines of a train
abbrev pub train_lines : Track → Scene → Train → List Row
train_lines track scene train =
    (codes "train" ∷ report_words train.report)
    ∷ (way_lines track train (pieces_of LEGS_A_LINE train.line) ++ stands_line train ∷ holds_line train ∷ next_line track scene train ∷ [])

-- ---- the scene

-- the lines of the locks, and then the trains' lines in order of arrival
abbrev pub scene_body : Track → Scene → List Row
scene_body track scene = locked_lines track 0 scene.locks ++ flat_map (train_lines track scene) scene.trains

-- the scene of this version, as lines
abbrev pub scene_lines : Track → ℕ → Scene → List ℕ
scene_lines track version scene =
    rows_text ((codes "scene" ∷ decimal version ∷ []) ∷ (scene_body track scene ++ (codes "done" ∷ []) ∷ []))

-- ---- reading

-- the leg of the track of this name, which word i tells
abbrev pub known_leg : Track → ℕ → LegName → Result Leg LineFault
known_leg track i leg = ok_or (section_named track leg.section) (Name i) >>= (λ section. Ok (record { section = section; direction = leg.direction }))

-- word i as a leg of the track, or as none
abbrev pub track_leg_at : Track → ℕ → List ℕ → Result Leg LineFault
track_leg_at track i word = leg_at i word >>= known_leg track i

abbrev pub known_leg_or_none : Track → ℕ → Option LegName → Result (Option Leg) LineFault
known_leg_or_none track i None = Ok None
known_leg_or_none track i (Some leg) = known_leg track i leg >>= (λ leg. Ok (Some leg))

abbrev pub track_leg_or_none_at : Track → ℕ → List ℕ → Result (Option Leg) LineFault
track_leg_or_none_at track i word = leg_or_none_at i word >>= known_leg_or_none track i

-- a place: none lies before the line's start
abbrev pub place_in : ℤ → Option ℕ
place_in (pos place) = Some place
place_in (negsuc _) = None

-- word i as the place at the distance from the train's group that it writes
abbrev pub place_at : Train → ℕ → List ℕ → Result ℕ LineFault
place_at train i word = ok_or (option_and_then (λ distance. place_in (distance +ℤ pos train.origin)) (integer_in word)) (Number i)

-- the words behind `locked`
abbrev pub with_locked : Track → Scene → List (List ℕ) → Result Scene LineFault
with_locked track scene (leg ∷ route ∷ before ∷ []) = do
  leg ← track_leg_at track 2 leg
  route ← ok_or (route_named track route) (Name 3)
  before ← track_leg_or_none_at track 4 before
  Ok (record { locks = with_row route scene.locks (leg, before); trains = scene.trains })
with_locked track scene _ = Err Words

-- the words behind `train`: a train more, of which the next lines tell the rest
abbrev pub with_reported : Scene → List (List ℕ) → Result Scene LineFault
with_reported scene words = do
  report ← report_in words
  Ok (record { locks = scene.locks; trains = scene.trains ++ record { report = report; line = []; origin = 0; rear = 0; front = 0; from = 0; to = 0 } ∷ [] })

-- the words behind `line` and the train: where its group stands, and its first legs
abbrev pub with_line : Track → Train → List (List ℕ) → Result Train LineFault
with_line track train (origin ∷ words) = do
  origin ← ok_or (number_in origin) (Number 3)
  legs ← each_word (track_leg_at track) 4 words
  Ok (record train { line = legs; origin = origin })
with_line track train [] = Err Words

-- the words behind `along` and the train: more legs
abbrev pub with_legs : Track → Train → List (List ℕ) → Result Train LineFault
with_legs track train words = do
  legs ← each_word (track_leg_at track) 3 words
  Ok (record train { line = train.line ++ legs })

-- the words behind `stands` and the train
abbrev pub with_extent : Train → List (List ℕ) → Result Train LineFault
with_extent train (rear ∷ front ∷ []) = do
  rear ← place_at train 3 rear
  front ← place_at train 4 front
  Ok (record train { rear = rear; front = front })
with_extent train _ = Err Words

-- the words behind `holds` and the train
abbrev pub with_held : Train → List (List ℕ) → Result Train LineFault
with_held train (from ∷ to ∷ []) = do
  from ← place_at train 3 from
  to ← place_at train 4 to
  Ok (record train { from = from; to = to })
with_held train _ = Err Words

-- with what a line tells of the last train
abbrev pub with_last : (Train → Result Train LineFault) → List Train → Result (List Train) LineFault
with_last change [] = Err (Number 2)
with_last change (train ∷ []) = change train >>= (λ changed. Ok (changed ∷ []))
with_last change (train ∷ next ∷ trains) = with_last change (next ∷ trains) >>= (λ changed. Ok (train ∷ changed))

-- the words behind the first one of a line that tells something of a train: its number, which is that of the last train, and others
abbrev pub told_of : (Train → List (List ℕ) → Result Train LineFault) → Scene → List (List ℕ) → Result Scene LineFault
told_of change scene (number ∷ words) = do
  number ← ok_or (number_in number) (Number 2)
  trains ← with_last (λ train. demand (train.report.train == number) (Number 2) >> change train words) scene.trains
  Ok (record { locks = scene.locks; trains = trains })
told_of change scene [] = Err Words

-- the scene with what a line tells; what a train would be granted follows from the rest, and is passed over
abbrev pub after_row : Track → Scene → Row → Result Scene LineFault
after_row track scene (command ∷ words) =
    if bytes_eq command (codes "locked") then with_locked track scene words
    else if bytes_eq command (codes "train") then with_reported scene words
    else if bytes_eq command (codes "line") then told_of (with_line track) scene words
    else if bytes_eq command (codes "along") then told_of (with_legs track) scene words
    else if bytes_eq command (codes "stands") then told_of with_extent scene words
    else if bytes_eq command (codes "holds") then told_of with_held scene words
    else if bytes_eq command (codes "next") then Ok scene
    else Err Command
after_row track scene [] = Err Words

-- the words of a line, which is text of at most 4,096 bytes
abbrev pub row_in : List ℕ → Result Row LineFault
row_in line = request_words line >>= (λ words. ok_or words Words)

-- the lines behind the first one, of which `done` is the last
abbrev pub read_lines : Track → ℕ → Scene → List (List ℕ) → Result (ℕ × Scene) LineFault
read_lines track version scene [] = Err Words
read_lines track version scene (line ∷ []) = demand (bytes_eq line (codes "done")) Command >> Ok (version, scene)
read_lines track version scene (line ∷ next ∷ lines) = do
  words ← row_in line
  scene ← after_row track scene words
  read_lines track version scene (next ∷ lines)

-- the version that the first line tells
abbrev pub version_in : Row → Result ℕ LineFault
version_in (command ∷ number ∷ []) = demand (bytes_eq command (codes "scene")) Command >> ok_or (number_in number) (Number 2)
version_in _ = Err Words

-- all lines
abbrev pub read_all : Track → List (List ℕ) → Result (ℕ × Scene) LineFault
read_all track [] = Err Words
read_all track (line ∷ lines) = do
  words ← row_in line
  version ← version_in words
  read_lines track version (empty_scene track) lines

-- the version and the scene that a text tells, if it is the lines of one
abbrev pub read_scene_lines : Track → List ℕ → Option (ℕ × Scene)
read_scene_lines track text = result_ok (read_all track (lines_of text))

-- ---- what lines can tell

-- each row is one that a route of the track made, and each train's report is one
pub record IsTellable (track : Track) (scene : Scene) : Type 0 where
  pub routes : (section : ℕ) (lock : Lock) → row scene.locks section ≡ Some lock → lock.route < length track.routes
  pub reports : All (λ train. IsReport train.report) scene.trains
