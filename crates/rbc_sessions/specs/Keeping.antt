-- Which entry of a history a request led to.
use Rattle.std.specs.Prelude.{◌≡◌, ℕ, take, slice_get, Some, Ok}
use Rattle.rbc_model.specs.Histories.{Entry}
use Rattle.rbc_model.specs.SessionText.{SessionLine}
use Rattle.rbc_sweep.specs.Asking.{IsAnswered, after_answer}
use Rattle.rbc_sweep.specs.Granted.{Granted as Grant}
use Rattle.rbc_sweep.specs.Outcomes.{Begins}
use Rattle.rbc_sweep.specs.Records.{begin_of, HistoryOnTrack}
use Rattle.rbc_sweep.specs.declared.outcome.Answer.{Answer}
use Rattle.rbc_sweep.specs.declared.outcome.Answer.TheVariants.{Granted}
use Rattle.rbc_sweep.specs.declared.outcome.Outcome.{Outcome}
use Rattle.rbc_session_laws.specs.Answers.{command_answer}
use Rattle.rbc_session_laws.specs.Commands.{resolve}

-- the request, after the entries before this place, adds the entry that stands there
pub record AddsEntry (history : HistoryOnTrack) (place : ℕ) (request : SessionLine) : Type 0 where
  pub entry : Entry
  pub stands : slice_get history.entries place ≡ Some entry
  pub adds : (command_answer (begin_of history) (take place history.entries) (resolve history.track request)).added ≡ Some entry

-- this begins with a history after which the train was granted this, and with the entry for it
pub record HasGrant (history : HistoryOnTrack) (train : ℕ) (grant : Grant) : Type 0 where
  pub before : HistoryOnTrack
  pub begins : Begins (after_answer before (Ok grant)) history
  pub answered : IsAnswered before train (Ok grant)

-- if the train was answered that it was granted something: this begins with a history after which it was granted this, and with the entry for it
abbrev pub HasAnswer : HistoryOnTrack → ℕ → Answer → Type 0
HasAnswer history train (Granted grant) = HasGrant history train grant
HasAnswer history train _ = Unit {0}

abbrev pub HasOutcome : HistoryOnTrack → Outcome → Type 0
HasOutcome history outcome = HasAnswer history outcome.train outcome.answer
