-- What is read of a line of `rbc steps`, as the grammar has it, and the ranges of its numbers.
use Rattle.std.specs.Prelude.{◌<◌, ◌≤◌, length, IsTrue, nat_le}
use Rattle.std.specs.List.{list_all}
use Rattle.rbc_model.specs.declared.limits.TheConstants.{MOST_STEPS, LONGEST_TRACK}
use Rattle.rbc_model.specs.declared.places.Format.TheVariants.{Far}
use Rattle.rbc_model.specs.Levels.{Levels, speed_levels, grade_levels}
use Rattle.rbc_model.specs.Scales.{is_expressible}
use Rattle.rbc_model.specs.StepsText.{StepsRequest, StepsLine, Blank, Speed, Grade}
use Rattle.rbc_words.specs.declared.steps_request.StepsRequest.{StepsRequest as ReadRequest}
use Rattle.rbc_words.specs.declared.steps_request.StepsLine.{StepsLine as ReadLine}
use Rattle.rbc_words.specs.declared.steps_request.StepsLine.TheVariants.{Blank as ReadBlank, Speed as ReadSpeed, Grade as ReadGrade}

-- a request as the grammar has it
abbrev pub request_view : {V : Type 0} → ReadRequest V → StepsRequest V
request_view request = record { limit = request.limit; runs = request.runs.items; end = request.end }

-- a line as the grammar has it
abbrev pub line_view : ReadLine → StepsLine
line_view ReadBlank = Blank
line_view (ReadSpeed request) = Speed (request_view request)
line_view (ReadGrade request) = Grade (request_view request)

-- the line is a request
abbrev pub IsRequest : StepsLine → Type 0
IsRequest Blank = ⊥
IsRequest (Speed request) = Unit {0}
IsRequest (Grade request) = Unit {0}

-- the numbers of a request are in their ranges, and it has a run
pub record IsRequestInRange {V : Type 0} (levels : Levels V) (request : StepsRequest V) : Type 0 where
  pub limit_low : 1 ≤ request.limit
  pub limit_high : request.limit ≤ MOST_STEPS
  pub some : 0 < length request.runs
  pub starts : IsTrue (list_all (λ run. nat_le run.0 LONGEST_TRACK) request.runs)
  pub values : IsTrue (list_all (λ run. levels.in_range run.1) request.runs)
  pub expressible : IsTrue (is_expressible Far request.end)

-- the request of a line is in range, if it has one
abbrev pub IsLineInRange : StepsLine → Type 0
IsLineInRange Blank = Unit {0}
IsLineInRange (Speed request) = IsRequestInRange speed_levels request
IsLineInRange (Grade request) = IsRequestInRange grade_levels request
