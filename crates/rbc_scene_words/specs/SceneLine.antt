-- One line of a scene: what it says, how it is read, and how it is written. Its legs and routes are a track's.
use Rattle.std.specs.Prelude.{ℕ, Bool, true, not, ◌&&◌, ◌==◌, List, [], ◌∷◌, map, Option, Some, None, option_map, option_and_then, Result, Ok, Err, ℤ, if◌then◌else◌, bytes_eq, codes, decimal}
use Rattle.std.specs.Fmt.{signed_decimal}
use Rattle.std.specs.List.{before_first, after_first}
use Rattle.std.specs.Option.{ok_or}
use Rattle.rbc_model.specs.declared.places.Leg.{Leg}
use Rattle.rbc_model.specs.declared.refusals.LineFault.{LineFault}
use Rattle.rbc_model.specs.declared.refusals.LineFault.TheVariants.{Command, Words, Number, Name}
use Rattle.rbc_model.specs.Results.{demand, ◌>>=◌, ◌>>◌}
use Rattle.rbc_model.specs.GroupNames.{GroupName}
use Rattle.rbc_model.specs.Names.{name_in}
use Rattle.rbc_model.specs.Reports.{Report}
use Rattle.rbc_model.specs.Rows.{Row, leg_or_none, each_word}
use Rattle.rbc_model.specs.RequestText.{line_in}
use Rattle.rbc_model.specs.SessionText.{report_in, train_at}
use Rattle.rbc_model.specs.SessionReply.{leg_word}
use Rattle.rbc_model.specs.HistoryText.{route_word}
use Rattle.rbc_model.specs.Tracks.{Track, route_named}
use Rattle.rbc_model.specs.TrackLines.{named_leg}
use Rattle.rbc_model.specs.Lines.{Line}
use Rattle.rbc_model.specs.SceneLines.{report_words, row_in, track_leg_at, track_leg_or_none_at}
use Rattle.rbc_model.specs.Words.{integer_in, number_in}
use Rattle.rbc_scene_words.specs.declared.first_word.FirstWord.{FirstWord}
use Rattle.rbc_scene_words.specs.declared.first_word.FirstWord.TheVariants.{Scene as SceneWord, Locked as LockedWord, Train as TrainWord, Line as LineWord, Along as AlongWord, Stands as StandsWord, Holds as HoldsWord, Next as NextWord, Done as DoneWord}

-- the version; a leg whose section is locked, with its route and the leg before; a train's report; the place of its group and its first legs; more legs;
-- where it stands, and what it holds, in metres from its group; what it would be granted next, which follows from the rest; and the end
pub data SceneLine : Type 0 where
  Version : ℕ → SceneLine
  Locked : Leg → ℕ → Option Leg → SceneLine
  Reported : Report → SceneLine
  Along : ℕ → ℕ → Line → SceneLine
  More : ℕ → Line → SceneLine
  Stands : ℕ → ℤ → ℤ → SceneLine
  Holds : ℕ → ℤ → ℤ → SceneLine
  Next : SceneLine
  Done : SceneLine

-- ---- words that are spelled in one way

-- that word i spells a number as it is written, without a needless 0
abbrev pub number_spelled : ℕ → List ℕ → ℕ → Result (Unit {0}) LineFault
number_spelled i word number = demand (bytes_eq word (decimal number)) (Number i)

-- word 2 as the number of a train
abbrev pub train_spelled : List ℕ → Result ℕ LineFault
train_spelled word = do
  train ← train_at 2 word
  number_spelled 2 word train
  Ok train

-- word i as a number
abbrev pub count_spelled : ℕ → List ℕ → Result ℕ LineFault
count_spelled i word = do
  count ← ok_or (number_in word) (Number i)
  number_spelled i word count
  Ok count

-- word i as metres from a group, with a `-` where they lie before it
abbrev pub distance_spelled : ℕ → List ℕ → Result ℤ LineFault
distance_spelled i word = do
  distance ← ok_or (integer_in word) (Number i)
  demand (bytes_eq word (signed_decimal distance)) (Number i)
  Ok distance

-- that word 3 spells a group as it is written: the numbers before and behind its slash (47) are spelled so
abbrev pub group_spelled : List ℕ → GroupName → Result (Unit {0}) LineFault
group_spelled word group =
    demand
    (bytes_eq (before_first (λ byte. byte == 47) word) (decimal group.country) && bytes_eq (after_first (λ byte. byte == 47) word) (decimal group.number))
    (Name 3)

-- that the length and the time of a report are spelled so
abbrev pub size_spelled : List (List ℕ) → Report → Result (Unit {0}) LineFault
size_spelled (length ∷ time ∷ []) report = do
  number_spelled 8 length report.length
  number_spelled 9 time report.time
size_spelled _ report = Err Words

-- and its distance, with by how much that may be too great or too small
abbrev pub extent_spelled : List (List ℕ) → Report → Result (Unit {0}) LineFault
extent_spelled (distance ∷ over ∷ under ∷ words) report = do
  number_spelled 5 distance report.distance
  number_spelled 6 over report.over
  number_spelled 7 under report.under
  size_spelled words report
extent_spelled _ report = Err Words

-- that the words behind `train` spell this report as it is written
abbrev pub report_spelled : List (List ℕ) → Report → Result (Unit {0}) LineFault
report_spelled (train ∷ group ∷ nominal ∷ words) report = do
  number_spelled 2 train report.train
  group_spelled group report.group
  extent_spelled words report
report_spelled _ report = Err Words

-- that a byte goes on with a line: no carriage return (13), and no space (32) where a word has to begin
abbrev pub goes_on : Bool → ℕ → Bool
goes_on begins byte = not (byte == 13) && not (begins && byte == 32)

-- that a line has one space between each two words, no other space, and no carriage return; `begins` says whether a word has to begin
abbrev pub is_close : Bool → List ℕ → Bool
is_close begins [] = not begins
is_close begins (byte ∷ line) = goes_on begins byte && is_close (byte == 32) line

-- ---- reading

-- word 3 as a route of the track
abbrev pub route_at : Track → List ℕ → Result ℕ LineFault
route_at track word = ok_or (option_and_then (route_named track) (name_in word)) (Name 3)

-- the words behind `scene`: a version
abbrev pub version_in : List (List ℕ) → Result SceneLine LineFault
version_in (version ∷ []) = line_in Version (count_spelled 2 version)
version_in _ = Err Words

-- the words behind `locked`: a leg, a route, and the leg before
abbrev pub locked_in : Track → List (List ℕ) → Result SceneLine LineFault
locked_in track (leg ∷ route ∷ before ∷ []) = do
  leg ← track_leg_at track 2 leg
  route ← route_at track route
  before ← track_leg_or_none_at track 4 before
  Ok (Locked leg route before)
locked_in track _ = Err Words

-- the words behind `line`: a train, the place of its group, and legs
abbrev pub along_in : Track → List (List ℕ) → Result SceneLine LineFault
along_in track (train ∷ origin ∷ words) = do
  train ← train_spelled train
  origin ← count_spelled 3 origin
  legs ← each_word (track_leg_at track) 4 words
  Ok (Along train origin legs)
along_in track _ = Err Words

-- the words behind `along`: a train, and more legs
abbrev pub more_in : Track → List (List ℕ) → Result SceneLine LineFault
more_in track (train ∷ words) = do
  train ← train_spelled train
  legs ← each_word (track_leg_at track) 3 words
  Ok (More train legs)
more_in track [] = Err Words

-- the words behind `stands` and `holds`: a train, and two distances
abbrev pub distances_in : (ℕ → ℤ → ℤ → SceneLine) → List (List ℕ) → Result SceneLine LineFault
distances_in say (train ∷ low ∷ high ∷ []) = do
  train ← train_spelled train
  low ← distance_spelled 3 low
  high ← distance_spelled 4 high
  Ok (say train low high)
distances_in say _ = Err Words

-- the words behind `train`: a report
abbrev pub reported_in : List (List ℕ) → Result SceneLine LineFault
reported_in words = do
  report ← report_in words
  report_spelled words report
  Ok (Reported report)

-- there is no word behind `done`
abbrev pub done_in : List (List ℕ) → Result SceneLine LineFault
done_in [] = Ok Done
done_in _ = Err Words

-- a word as the first of a line
abbrev pub first_word : List ℕ → Option FirstWord
first_word word =
    if bytes_eq word (codes "scene") then Some SceneWord
    else if bytes_eq word (codes "locked") then Some LockedWord
    else if bytes_eq word (codes "train") then Some TrainWord
    else if bytes_eq word (codes "line") then Some LineWord
    else if bytes_eq word (codes "along") then Some AlongWord
    else if bytes_eq word (codes "stands") then Some StandsWord
    else if bytes_eq word (codes "holds") then Some HoldsWord
    else if bytes_eq word (codes "next") then Some NextWord
    else if bytes_eq word (codes "done") then Some DoneWord
    else None

-- what the words behind the first one say
abbrev pub said_behind : Track → Option FirstWord → List (List ℕ) → Result SceneLine LineFault
said_behind track (Some SceneWord) words = version_in words
said_behind track (Some LockedWord) words = locked_in track words
said_behind track (Some TrainWord) words = reported_in words
said_behind track (Some LineWord) words = along_in track words
said_behind track (Some AlongWord) words = more_in track words
said_behind track (Some StandsWord) words = distances_in Stands words
said_behind track (Some HoldsWord) words = distances_in Holds words
said_behind track (Some NextWord) words = Ok Next
said_behind track (Some DoneWord) words = done_in words
said_behind track None words = Err Command

-- the words of a line
abbrev pub scene_line_in : Track → Row → Result SceneLine LineFault
scene_line_in track [] = Err Words
scene_line_in track (word ∷ words) = said_behind track (first_word word) words

-- what the bytes of a line say, without its line feed
abbrev pub parse_scene_line : Track → List ℕ → Result SceneLine LineFault
parse_scene_line track line = do
  words ← row_in line
  demand (is_close true line) Words
  scene_line_in track words

-- ---- writing

abbrev pub legs_words : Track → Line → Row
legs_words track legs = map (leg_word track) legs

-- the words of a line that says this
abbrev pub scene_row : Track → SceneLine → Row
scene_row track (Version version) = codes "scene" ∷ decimal version ∷ []
scene_row track (Locked leg route before) = codes "locked" ∷ leg_word track leg ∷ route_word track route ∷ leg_or_none (option_map (named_leg track) before) ∷ []
scene_row track (Reported report) = codes "train" ∷ report_words report
scene_row track (Along train origin legs) = codes "line" ∷ decimal train ∷ decimal origin ∷ legs_words track legs
scene_row track (More train legs) = codes "along" ∷ decimal train ∷ legs_words track legs
scene_row track (Stands train rear front) = codes "stands" ∷ decimal train ∷ signed_decimal rear ∷ signed_decimal front ∷ []
scene_row track (Holds train from to) = codes "holds" ∷ decimal train ∷ signed_decimal from ∷ signed_decimal to ∷ []
scene_row track Next = codes "next" ∷ []
scene_row track Done = codes "done" ∷ []
