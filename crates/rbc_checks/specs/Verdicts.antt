-- What is said of a block, as text.
use Rattle.std.specs.Prelude.{◌≡◌, ℕ, Bool, true, false, List, [], ◌∷◌, Option, Some, None, is_none, Result, Ok, Err, codes, decimal, ℤ, ◌==◌}
use Rattle.rbc_model.specs.declared.memory.OrMemory.{OrMemory}
use Rattle.rbc_model.specs.declared.memory.OrMemory.TheVariants.{Refused as RefusedFor, Memory as NoMemory}
use Rattle.rbc_model.specs.declared.prices.Reason.{Reason}
use Rattle.rbc_model.specs.declared.prices.Reason.TheVariants.{Shape}
use Rattle.rbc_model.specs.Answers.{RefusesOrMemory}
use Rattle.rbc_model.specs.Results.{demand, ◌>>=◌, ◌>>◌}
use Rattle.rbc_model.specs.Levels.{Levels}
use Rattle.rbc_model.specs.Profiles.{StepFunction, profile_fault}
use Rattle.rbc_model.specs.PriceChecks.{price_check, last_price}
use Rattle.rbc_model.specs.StepsText.{StepsRequest}
use Rattle.rbc_model.specs.CheckText.{CheckLine, AnswersBlock, refusal_text, memory_text, in_shape, with_loss, rows_of, verdict_of}
use Rattle.rbc_model.specs.Kinds.{speed_kind, grade_kind}
use Rattle.rbc_model.specs.Words.{line_of}
use Rattle.rbc_checks.specs.Lines.{line_view}
use Rattle.rbc_checks.specs.declared.lines.CheckLine.{CheckLine as ReadLine}
use Rattle.rbc_checks.specs.declared.certify.Parts.{Parts}
use Rattle.rbc_checks.specs.declared.verdict.Verdict.{Verdict}
use Rattle.rbc_checks.specs.declared.verdict.Verdict.TheVariants.{Speed, Grade, Refused, Memory}

-- the line that tells a verdict
abbrev pub verdict_line : Verdict → List ℕ
verdict_line (Speed told) = line_of (codes "certified" ∷ speed_kind.command ∷ decimal told ∷ [])
verdict_line (Grade told) = line_of (codes "certified" ∷ grade_kind.command ∷ decimal told ∷ [])
verdict_line (Refused reason) = refusal_text reason
verdict_line Memory = memory_text

abbrev pub is_refusal : Verdict → Bool
is_refusal (Speed told) = false
is_refusal (Grade told) = false
is_refusal (Refused reason) = true
is_refusal Memory = true

-- what is written of a verdict, if there is one
abbrev pub said_text : Option Verdict → List ℕ
said_text None = []
said_text (Some verdict) = verdict_line verdict

abbrev pub is_bad : Option Verdict → Bool
is_bad None = false
is_bad (Some verdict) = is_refusal verdict

-- what a check came to, as it is told
abbrev pub told_as : Result (Unit {0}) (OrMemory Reason) → Verdict → Verdict
told_as (Ok done) certified = certified
told_as (Err (RefusedFor reason)) certified = Refused reason
told_as (Err NoMemory) certified = Memory

-- the verdict on a track with its profile, by the rows that are found and the loss told
abbrev pub rows_verdict : {V : Type 0} → Levels V → ℕ → StepFunction V → StepFunction V → ℕ → Option (List (List ℕ)) → Result (Unit {0}) Reason
rows_verdict levels limit track profile told found =
    in_shape found >>= λ rows. with_loss (told == last_price levels limit track rows) (price_check levels limit track profile rows)

-- the verdict on a track with steps, which have to be a profile
abbrev pub steps_verdict : {V : Type 0} → Levels V → ℕ → StepFunction V → List (ℕ × V) → ℕ → Option (List (List ℕ)) → Result (Unit {0}) Reason
steps_verdict levels limit track steps told found =
    demand (is_none (profile_fault levels track.end steps)) Shape >> rows_verdict levels limit track (record { steps = steps; end = track.end }) told found

-- The parts are a request's and the steps', whatever rows and loss come with them; or there are none, and each such block is refused so.
abbrev pub ArePartsOf : {V : Type 0} → Levels V → (ℤ → Option V) → StepsRequest V → List (ℕ × ℤ) → Result (Parts V) (OrMemory Reason) → Type 0
ArePartsOf levels value_of request words (Ok parts) = (told : ℕ) (lines : List CheckLine)
    → verdict_of levels value_of request words told lines ≡ steps_verdict levels parts.limit parts.track parts.steps.items told (rows_of 1 lines)
ArePartsOf levels value_of request words (Err fault) = (told : ℕ) (lines : List CheckLine)
    → RefusesOrMemory fault (verdict_of levels value_of request words told lines)

-- the verdict on a head, a line behind it, and rows
abbrev pub Judges : ReadLine → ReadLine → List CheckLine → Verdict → Type 0
Judges head profile rows verdict =
    AnswersBlock (line_view head ∷ line_view profile ∷ rows) (verdict_line verdict) (is_refusal verdict)
