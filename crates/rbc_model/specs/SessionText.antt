-- A session of the centre: the grammar of a line that it reads.
use Rattle.std.specs.Prelude.{ℕ, ◌≤◌, Bool, true, false, IsTrue, List, [], ◌∷◌, ◌++◌, Result, Ok, Err, ◌==◌, if◌then◌else◌, codes, decimal, bytes_eq}
use Rattle.std.specs.List.{before_first, after_first, join_with_byte}
use Rattle.rbc_model.specs.declared.limits.TheConstants.{LAST_COUNTRY, LAST_GROUP, LAST_TRAIN, FARTHEST_REPORT, FARTHEST_KEPT, MOST_DOUBT, LONGEST_TRAIN, LAST_TIME}
use Rattle.rbc_model.specs.declared.refusals.LineFault.{LineFault}
use Rattle.rbc_model.specs.declared.refusals.LineFault.TheVariants.{Command, Words, Name}
use Rattle.rbc_model.specs.declared.sessions.Inquiry.{Inquiry}
use Rattle.rbc_model.specs.declared.sessions.Inquiry.TheVariants.{State, Scene}
use Rattle.rbc_model.specs.Results.{is_from_to, allowed_value, ◌>>=◌}
use Rattle.rbc_model.specs.GroupNames.{GroupName}
use Rattle.rbc_model.specs.Reports.{IsReport, Report as TrainReport}
use Rattle.rbc_model.specs.Names.{is_name}
use Rattle.rbc_model.specs.Words.{number_in}
use Rattle.rbc_model.specs.RequestText.{number_at, line_in, parse_line}

-- ---- what a line may come to

-- A line that is not refused: one without a reply, or a request. Routes and sections stand in it by their names, trains by their numbers.
pub data SessionLine : Type 0 where
  Blank : SessionLine
  Report : TrainReport → SessionLine
  Lock : List ℕ → SessionLine
  Free : List ℕ → SessionLine
  Leave : ℕ → SessionLine
  GiveBack : ℕ → ℕ → SessionLine
  Ask : ℕ → SessionLine
  Inquire : Inquiry → SessionLine

-- ---- single words

-- word i as the name of a route or a section
abbrev pub name_at : ℕ → List ℕ → Result (List ℕ) LineFault
name_at i word = if is_name word then Ok word else Err (Name i)

-- word i as a balise group: its country, a slash (47), and its number there; where there is no slash there is no number
abbrev pub group_at : ℕ → List ℕ → Result GroupName LineFault
group_at i word = do
  country ← allowed_value (is_from_to 0 LAST_COUNTRY) (Name i) (number_in (before_first (λ byte. byte == 47) word))
  number ← allowed_value (is_from_to 0 LAST_GROUP) (Name i) (number_in (after_first (λ byte. byte == 47) word))
  Ok (record { country = country; number = number })

-- word i as a direction: whether it is the group's nominal one
abbrev pub nominal_at : ℕ → List ℕ → Result Bool LineFault
nominal_at i word =
    if bytes_eq word (codes "nominal") then Ok true
    else if bytes_eq word (codes "reverse") then Ok false
    else Err (Name i)

-- word i as the number of a train
abbrev pub train_at : ℕ → List ℕ → Result ℕ LineFault
train_at i word = number_at i 1 LAST_TRAIN word

-- ---- the words of a request

-- the words behind `report`, just eight: the train, the group, the direction, the distance, by how much it may be too great or too small, the
-- train's length, and the time
abbrev pub report_in : List (List ℕ) → Result TrainReport LineFault
report_in (train ∷ group ∷ direction ∷ distance ∷ over ∷ under ∷ length ∷ time ∷ []) = do
  train ← train_at 2 train
  group ← group_at 3 group
  nominal ← nominal_at 4 direction
  distance ← number_at 5 0 FARTHEST_REPORT distance
  over ← number_at 6 0 MOST_DOUBT over
  under ← number_at 7 0 MOST_DOUBT under
  length ← number_at 8 1 LONGEST_TRAIN length
  time ← number_at 9 0 LAST_TIME time
  Ok (record { train = train; group = group; nominal = nominal; distance = distance; over = over; under = under; length = length; time = time })
report_in _ = Err Words

-- the words behind `yield`, just two: the train, and how many metres from its group the authority ends that it keeps
abbrev pub give_back_in : List (List ℕ) → Result SessionLine LineFault
give_back_in (train ∷ end ∷ []) = do
  train ← train_at 2 train
  end ← number_at 3 0 FARTHEST_KEPT end
  Ok (GiveBack train end)
give_back_in _ = Err Words

-- the word behind another command, if it is the only one
abbrev pub only_word : List (List ℕ) → Result (List ℕ) LineFault
only_word (word ∷ []) = Ok word
only_word _ = Err Words

-- the name behind a command
abbrev pub name_in : List (List ℕ) → Result (List ℕ) LineFault
name_in words = only_word words >>= name_at 2

-- the train behind a command
abbrev pub train_in : List (List ℕ) → Result ℕ LineFault
train_in words = only_word words >>= train_at 2

-- behind a command that asks to be shown something there is no word
abbrev pub inquiry_in : Inquiry → List (List ℕ) → Result SessionLine LineFault
inquiry_in inquiry [] = Ok (Inquire inquiry)
inquiry_in inquiry _ = Err Words

-- the words of a line
abbrev pub words_line : List (List ℕ) → Result SessionLine LineFault
words_line [] = Ok Blank
words_line (command ∷ words) =
    if bytes_eq command (codes "report") then line_in Report (report_in words)
    else if bytes_eq command (codes "lock") then line_in Lock (name_in words)
    else if bytes_eq command (codes "free") then line_in Free (name_in words)
    else if bytes_eq command (codes "leave") then line_in Leave (train_in words)
    else if bytes_eq command (codes "yield") then give_back_in words
    else if bytes_eq command (codes "ask") then line_in Ask (train_in words)
    else if bytes_eq command (codes "state") then inquiry_in State words
    else if bytes_eq command (codes "scene") then inquiry_in Scene words
    else Err Command

-- what the bytes of a line say, without its line feed
abbrev pub parse_session : List ℕ → Result SessionLine LineFault
parse_session line = parse_line Blank words_line line

-- ---- requests, written

-- a balise group as a word
abbrev pub group_word : GroupName → List ℕ
group_word group = decimal group.country ++ 47 ∷ decimal group.number

-- a direction as a word
abbrev pub nominal_word : Bool → List ℕ
nominal_word true = codes "nominal"
nominal_word false = codes "reverse"

-- what is asked to be shown, as a word
abbrev pub inquiry_word : Inquiry → List ℕ
inquiry_word State = codes "state"
inquiry_word Scene = codes "scene"

-- the words of a request; a line without a reply has none
abbrev pub said_words : SessionLine → List (List ℕ)
said_words Blank = []
said_words (Report report) =
    codes "report"
    ∷ decimal report.train
    ∷ group_word report.group
    ∷ nominal_word report.nominal
    ∷ decimal report.distance
    ∷ decimal report.over
    ∷ decimal report.under
    ∷ decimal report.length
    ∷ decimal report.time
    ∷ []
said_words (Lock name) = codes "lock" ∷ name ∷ []
said_words (Free name) = codes "free" ∷ name ∷ []
said_words (Leave train) = codes "leave" ∷ decimal train ∷ []
said_words (GiveBack train end) = codes "yield" ∷ decimal train ∷ decimal end ∷ []
said_words (Ask train) = codes "ask" ∷ decimal train ∷ []
said_words (Inquire inquiry) = inquiry_word inquiry ∷ []

-- a request as a line, without its line feed
abbrev pub said_line : SessionLine → List ℕ
said_line said = join_with_byte 32 (said_words said)

-- a train has this number
abbrev pub IsTrainNumber : ℕ → Type 0
IsTrainNumber train = (1 ≤ train) × (train ≤ LAST_TRAIN)

-- a line can say it: its numbers are in their ranges, and its name is in its form
abbrev pub IsSayable : SessionLine → Type 0
IsSayable Blank = Unit {0}
IsSayable (Report report) = IsReport report
IsSayable (Lock name) = IsTrue (is_name name)
IsSayable (Free name) = IsTrue (is_name name)
IsSayable (Leave train) = IsTrainNumber train
IsSayable (GiveBack train end) = IsTrainNumber train × (end ≤ FARTHEST_KEPT)
IsSayable (Ask train) = IsTrainNumber train
IsSayable (Inquire inquiry) = Unit {0}
