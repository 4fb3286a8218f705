-- The program `rbc check`: the lines that it reads, the blocks that they make, and what it says of each block. A block is a certificate: its
-- track, its profile, and the rows of its price table.
use Rattle.std.specs.Prelude.{◌≡◌, ℕ, ◌+◌, ◌<◌, ◌≤◌, ◌||◌, Bool, true, false, not, ◌⊎◌, List, [], ◌∷◌, ◌++◌, Option, Some, None, option_map, option_and_then, is_none, is_ok, length, ℤ, pos, negsuc, Result, Ok, Err, ◌==◌, if◌then◌else◌, codes, decimal, bytes_eq}
use Rattle.std.specs.List.{before_first, after_first}
use Rattle.std.specs.Io.KnownBytes.{Appends}
use Rattle.rbc_model.specs.declared.limits.TheConstants.{LONGEST_TRACK, LONGEST_CHECK_LINE}
use Rattle.rbc_model.specs.declared.places.Format.{Format}
use Rattle.rbc_model.specs.declared.prices.Part.{Part}
use Rattle.rbc_model.specs.declared.prices.Part.TheVariants.{Head, Profile, Row}
use Rattle.rbc_model.specs.declared.prices.Reason.{Reason}
use Rattle.rbc_model.specs.declared.prices.Reason.TheVariants.{Shape, Above, Inequality, NotAttained, Steps}
use Rattle.rbc_model.specs.declared.refusals.LineFault.{LineFault}
use Rattle.rbc_model.specs.declared.sessions.SessionFault.{SessionFault}
use Rattle.rbc_model.specs.declared.sessions.SessionFault.TheVariants.{Write}
use Rattle.rbc_model.specs.Results.{is_from_to, demand, ◌>>=◌, ◌>>◌}
use Rattle.rbc_model.specs.Levels.{Levels, speed_levels, grade_levels}
use Rattle.rbc_model.specs.Profiles.{profile_fault}
use Rattle.rbc_model.specs.PriceChecks.{price_check, last_price}
use Rattle.rbc_model.specs.Kinds.{Kind, speed_kind, grade_kind}
use Rattle.rbc_model.specs.Words.{without_return, words_of, is_blank, is_text, number_in, integer_in, line_of}
use Rattle.rbc_model.specs.Sessions.{WritesPart}
use Rattle.rbc_model.specs.Talks.{IsTalk}
use Rattle.rbc_model.specs.StepsText.{StepsRequest, request_in, track_in}

-- ---- lines

-- What a line says: the head of a block with its track, a profile's steps with the loss told, the number of a row with its prices, a line
-- whose first word is one of these and which is out of form, or any other line.
pub data CheckLine : Type 0 where
  SpeedHead : StepsRequest ℕ → CheckLine
  GradeHead : StepsRequest ℤ → CheckLine
  ProfileLine : List (ℕ × ℤ) → ℕ → CheckLine
  PriceLine : ℕ → List ℕ → CheckLine
  Bad : Part → CheckLine
  Other : CheckLine

-- the value that the option has, put into a list that it has
abbrev pub put_first : {A : Type 0} → Option A → Option (List A) → Option (List A)
put_first first rest = option_and_then (λ x. option_map (λ xs. x ∷ xs) rest) first

-- a word as a step: a start of 0 to 100,000, a colon (58), and a whole number
abbrev pub step_in_word : List ℕ → Option (ℕ × ℤ)
step_in_word word =
    option_and_then (λ start. if is_from_to 0 LONGEST_TRACK start then option_map (λ value. (start, value)) (integer_in (after_first (λ byte. byte == 58) word)) else None)
    (number_in (before_first (λ byte. byte == 58) word))

-- words as steps, the word `loss`, and the loss
abbrev pub profile_in : List (List ℕ) → Option (List (ℕ × ℤ) × ℕ)
profile_in [] = None
profile_in (word ∷ []) = None
profile_in (word ∷ last ∷ []) = if bytes_eq word (codes "loss") then option_map (λ lost. ([], lost)) (number_in last) else None
profile_in (word ∷ next ∷ last ∷ more) =
    option_and_then (λ step. option_map (λ rest. (step ∷ rest.0, rest.1)) (profile_in (next ∷ last ∷ more))) (step_in_word word)

-- words as numbers
abbrev pub numbers_in : List (List ℕ) → Option (List ℕ)
numbers_in [] = Some []
numbers_in (word ∷ words) = put_first (number_in word) (numbers_in words)

-- what was read, as a line of its part
abbrev pub head_line : {V : Type 0} → (StepsRequest V → CheckLine) → Result (StepsRequest V) LineFault → CheckLine
head_line line (Ok request) = line request
head_line line (Err fault) = Bad Head

abbrev pub profile_line : Option (List (ℕ × ℤ) × ℕ) → CheckLine
profile_line None = Bad Profile
profile_line (Some profile) = ProfileLine profile.0 profile.1

abbrev pub price_line : Option (List ℕ) → CheckLine
price_line (Some (j ∷ prices)) = PriceLine j prices
price_line _ = Bad Row

-- the words of a line
abbrev pub words_said : Format → List (List ℕ) → CheckLine
words_said format [] = Other
words_said format (first ∷ words) =
    if bytes_eq first (codes "speed") then head_line SpeedHead (request_in speed_kind format words)
    else if bytes_eq first (codes "grade") then head_line GradeHead (request_in grade_kind format words)
    else if bytes_eq first (codes "steps") then profile_line (profile_in words)
    else if bytes_eq first (codes "prices") then price_line (numbers_in words)
    else Other

-- what the bytes of a line say, without its line feed
abbrev pub check_line : Format → List ℕ → CheckLine
check_line format line =
    let words = words_of (without_return line) in
    if is_blank words then Other else if not (is_text (without_return line)) then Other else words_said format words

-- ---- blocks

-- the part of a block that a line is, if it is one
abbrev pub part_of : CheckLine → Option Part
part_of (SpeedHead request) = Some Head
part_of (GradeHead request) = Some Head
part_of (ProfileLine steps lost) = Some Profile
part_of (PriceLine j prices) = Some Row
part_of (Bad part) = Some part
part_of Other = None

-- whether a line of this part begins a block
abbrev pub is_head : Option Part → Bool
is_head (Some Head) = true
is_head _ = false

-- whether a line goes on with the open block, which is the list of its lines: a profile behind the head, and rows of prices behind the profile
abbrev pub goes_on : List CheckLine → Option Part → Bool
goes_on (head ∷ []) (Some Profile) = true
goes_on (head ∷ profile ∷ rows) (Some Row) = true
goes_on block part = false

-- the block that is open behind a line, and the one that the line ends, if there is one
abbrev pub opened : List CheckLine → CheckLine → List CheckLine
opened block line = if goes_on block (part_of line) then block ++ line ∷ [] else if is_head (part_of line) then line ∷ [] else []

abbrev pub ended : List CheckLine → CheckLine → List CheckLine
ended block line = if goes_on block (part_of line) then [] else block

-- ---- what is said of a block

-- a whole number as a speed, and as a gradient
abbrev pub speed_of : ℤ → Option ℕ
speed_of (pos n) = Some n
speed_of (negsuc n) = None

-- steps of values that a kind of level has
abbrev pub steps_of : {V : Type 0} → Levels V → (ℤ → Option V) → List (ℕ × ℤ) → Option (List (ℕ × V))
steps_of levels value_of [] = Some []
steps_of levels value_of (step ∷ steps) =
    put_first (option_and_then (λ value. if levels.in_range value then Some (step.0, value) else None) (value_of step.1)) (steps_of levels value_of steps)

-- the rows of a table, which count from j on
abbrev pub rows_of : ℕ → List CheckLine → Option (List (List ℕ))
rows_of j [] = Some []
rows_of j (PriceLine k prices ∷ lines) = if k == j then put_first (Some prices) (rows_of (j + 1) lines) else None
rows_of j (line ∷ lines) = None

-- the value that there is, or `Shape`
abbrev pub in_shape : {A : Type 0} → Option A → Result A Reason
in_shape None = Err Shape
in_shape (Some x) = Ok x

abbrev pub shaped : {A E : Type 0} → Result A E → Result A Reason
shaped (Ok x) = Ok x
shaped (Err fault) = Err Shape

-- a loss told that is not the last price is refused as one that is not attained, before too many steps are
abbrev pub with_loss : Bool → Result (Unit {0}) Reason → Result (Unit {0}) Reason
with_loss same (Ok done) = demand same NotAttained
with_loss same (Err Steps) = demand same NotAttained >> Err Steps
with_loss same (Err reason) = Err reason

-- the verdict on a track, a profile with the loss told, and the rows of a table
abbrev pub verdict_of : {V : Type 0} → Levels V → (ℤ → Option V) → StepsRequest V → List (ℕ × ℤ) → ℕ → List CheckLine → Result (Unit {0}) Reason
verdict_of levels value_of request words told lines = do
  track ← shaped (track_in levels request)
  steps ← in_shape (steps_of levels value_of words)
  demand (is_none (profile_fault levels track.end steps)) Shape
  rows ← in_shape (rows_of 1 lines)
  with_loss (told == last_price levels track.limit (record { steps = track.runs; end = track.end }) rows)
      (price_check levels track.limit (record { steps = track.runs; end = track.end }) (record { steps = steps; end = track.end }) rows)

-- a reason's name and values
abbrev pub reason_words : Reason → List (List ℕ)
reason_words Shape = codes "Shape" ∷ []
reason_words (Above metre) = codes "Above" ∷ decimal metre ∷ []
reason_words (Inequality row from to) = codes "Inequality" ∷ decimal row ∷ decimal from ∷ decimal to ∷ []
reason_words NotAttained = codes "NotAttained" ∷ []
reason_words Steps = codes "Steps" ∷ []

abbrev pub refusal_text : Reason → List ℕ
refusal_text reason = line_of (codes "refused" ∷ reason_words reason)

-- the reply to a block of a kind, by its verdict
abbrev pub verdict_text : {V : Type 0} → Kind V → ℕ → Result (Unit {0}) Reason → List ℕ
verdict_text kind told (Ok done) = line_of (codes "certified" ∷ kind.command ∷ decimal told ∷ [])
verdict_text kind told (Err reason) = refusal_text reason

-- What is said of a block: nothing of none, and else that it is certified, with its loss, or why it is refused.
abbrev pub block_text : List CheckLine → List ℕ
block_text [] = []
block_text (SpeedHead request ∷ ProfileLine steps told ∷ rows) =
    verdict_text speed_kind told (verdict_of speed_levels speed_of request steps told rows)
block_text (GradeHead request ∷ ProfileLine steps told ∷ rows) =
    verdict_text grade_kind told (verdict_of grade_levels (λ value. Some value) request steps told rows)
block_text lines = refusal_text Shape

-- Whether a block is certified.
abbrev pub is_certified : List CheckLine → Bool
is_certified (SpeedHead request ∷ ProfileLine steps told ∷ rows) = is_ok (verdict_of speed_levels speed_of request steps told rows)
is_certified (GradeHead request ∷ ProfileLine steps told ∷ rows) = is_ok (verdict_of grade_levels (λ value. Some value) request steps told rows)
is_certified lines = false

-- ---- the lines of an input, answered in order

-- the reply to a block for which memory is refused
abbrev pub memory_text : List ℕ
memory_text = line_of (codes "refused" ∷ codes "Memory" ∷ [])

-- the reply to a line that is too long
abbrev pub overlong_text : List ℕ
overlong_text = line_of (codes "refused" ∷ codes "Overlong" ∷ [])

-- The bytes answer a block, which is refused or not; memory may be refused where there is one.
abbrev pub AnswersBlock : List CheckLine → List ℕ → Bool → Type 0
AnswersBlock [] reply refused = (reply ≡ []) × (refused ≡ false)
AnswersBlock (line ∷ lines) reply refused =
    ((reply ≡ block_text (line ∷ lines)) × (refused ≡ not (is_certified (line ∷ lines))))
    ⊎ ((reply ≡ memory_text) × (refused ≡ true))

-- what is kept from line to line: the lines of the open block, and whether a block was refused so far
pub record Checking : Type 0 where
  pub block : List CheckLine
  pub refused : Bool

-- nothing is checked yet
abbrev pub unchecked : Checking
unchecked = record { block = []; refused = false }

-- Behind this reply the block of these lines is open; or memory is refused for it: it is refused at once, and open no more.
abbrev pub LeavesOpen : List CheckLine → Bool → List ℕ → List ℕ → Checking → Type 0
LeavesOpen block refused said reply after =
    ((reply ≡ said) × (after ≡ record { block = block; refused = refused }))
    ⊎ ((0 < length block) × (reply ≡ said ++ memory_text) × (after ≡ record { block = []; refused = true }))

-- A line is answered by what is said of the block that it ends, and leaves the block that is open behind it.
abbrev pub AnswersShort : Format → Checking → List ℕ → List ℕ → Checking → Type 0
AnswersShort format before line reply after =
    (said : List ℕ) × (bad : Bool) × AnswersBlock (ended before.block (check_line format line)) said bad
    × LeavesOpen (opened before.block (check_line format line)) (before.refused || bad) said reply after

-- A line that is too long ends the block that is open, and is refused.
abbrev pub AnswersLong : Checking → List ℕ → Checking → Type 0
AnswersLong before reply after =
    (said : List ℕ) × (bad : Bool) × AnswersBlock before.block said bad
    × (reply ≡ said ++ overlong_text) × (after ≡ record { block = []; refused = before.refused || bad })

-- the answer to a line
abbrev pub AnswersCheck : Format → Checking → List ℕ → List ℕ → Checking → Type 0
AnswersCheck format before line reply after =
    (length line ≤ LONGEST_CHECK_LINE → AnswersShort format before line reply after)
    × (LONGEST_CHECK_LINE < length line → AnswersLong before reply after)

-- ---- a whole input

-- This text was written, or a part of it from its start where the writer failed; and it is told whether no block was refused.
abbrev pub TellsAll : Option (List ℕ) → Option (List ℕ) → List ℕ → Bool → Result Bool SessionFault → Type 0
TellsAll old new text refused (Ok all) = Appends old new text × (all ≡ not refused)
TellsAll old new text refused (Err fault) = WritesPart old new text × (fault ≡ Write)

-- What comes behind the lines: where all were answered, the block that is open is, and else nothing.
abbrev pub EndsCheck : Checking → Option (List ℕ) → Option (List ℕ) → Result (Unit {0}) SessionFault → Result Bool SessionFault → Type 0
EndsCheck last old new (Ok done) result =
    (said : List ℕ) × (bad : Bool) × AnswersBlock last.block said bad × TellsAll old new said (last.refused || bad) result
EndsCheck last old new (Err fault) result = (new ≡ old) × (result ≡ Err fault)

-- A check of this input: its lines are answered in order, and at its end the block that is open.
pub record IsChecked (format : Format) (input : List ℕ) (old new : Option (List ℕ)) (result : Result Bool SessionFault) : Type 0 where
  pub last : Checking
  pub between : Option (List ℕ)
  pub outcome : Result (Unit {0}) SessionFault
  pub talk : IsTalk LONGEST_CHECK_LINE (AnswersCheck format) unchecked last input old between outcome
  pub ends : EndsCheck last between new outcome result

-- the replies to lines in order, and to the block that is open at their end; memory aside
abbrev pub check_text : Format → List CheckLine → List (List ℕ) → List ℕ
check_text format block [] = block_text block
check_text format block (line ∷ lines) =
    block_text (ended block (check_line format line)) ++ check_text format (opened block (check_line format line)) lines
