-- A session at a desk: what a line is answered from a seat, which receipt the seat gains, and what it is told.
use Rattle.std.specs.Prelude.{◌≡◌, ℕ, List, [], length, Option, option_map, Some, None, Result, Ok, Err}
use Rattle.rbc_model.specs.Histories.{Beginning, Entry, Receipt}
use Rattle.rbc_model.specs.SessionReply.{SessionRefusal, refused_reply}
use Rattle.rbc_sweep.specs.Later.{IsLater}
use Rattle.rbc_sweep.specs.Records.{begin_of, HistoryOnTrack}
use Rattle.rbc_session_laws.specs.declared.command.Command.{Command}
use Rattle.rbc_session_laws.specs.declared.command.Command.TheVariants.{Nothing, Event, Authority, Show}
use Rattle.rbc_sessions.specs.Changes.{with_added}
use Rattle.rbc_session_laws.specs.Commands.{command_in}
use Rattle.rbc_session_laws.specs.Turns.{AnswersEvent, AnswersAuthority, AnswersInquiry}

-- the entry that a receipt is for, if there is one
abbrev pub entry_in : Option Receipt → Option Entry
entry_in receipt = option_map (λ r. r.entry) receipt

-- the receipt, if there is one, is for the entry behind these
abbrev pub IsNext : List Entry → Option Receipt → Type 0
IsNext entries None = Unit {0}
IsNext entries (Some receipt) = receipt.place ≡ length entries

-- This is answered after a legal history that goes on from what had been told. The receipt is for the entry that the answer adds there, or there is
-- none. What is told then is that history, with this entry.
pub record IsAnsweredSince (Answers : Beginning → List Entry → Option Entry → Type 0) (begun after : HistoryOnTrack) (receipt : Option Receipt) : Type 0 where
  pub before : HistoryOnTrack
  pub later : IsLater begun before
  pub answered : Answers (begin_of before) before.entries (entry_in receipt)
  pub next : IsNext before.entries receipt
  pub told : after ≡ with_added before (entry_in receipt)

-- From a seat that had been told this history, and is told that one from then on, a line is answered by this reply, and the seat gains this receipt,
-- or none.
module _ (begun after : HistoryOnTrack) (reply : List ℕ) (receipt : Option Receipt) where
  -- nothing is entered, and nothing told of the history
  abbrev pub IsIdle : Type 0
  IsIdle = (receipt ≡ None) × (after ≡ begun)

  -- what is asked for
  abbrev pub AnswersCommandAtDesk : Result Command SessionRefusal → Type 0
  AnswersCommandAtDesk (Ok Nothing) = (reply ≡ []) × IsIdle
  AnswersCommandAtDesk (Ok (Event told)) = IsAnsweredSince (λ begin entries added. AnswersEvent begin entries reply added told) begun after receipt
  AnswersCommandAtDesk (Ok (Authority train)) = IsAnsweredSince (λ begin entries added. AnswersAuthority begin entries reply added train) begun after receipt
  AnswersCommandAtDesk (Ok (Show inquiry)) = IsAnsweredSince (λ begin entries added. AnswersInquiry begin entries reply added inquiry) begun after receipt
  AnswersCommandAtDesk (Err refusal) = (reply ≡ refused_reply begun.track refusal) × IsIdle

  -- what the line asks for
  abbrev pub AnswersLineAtDesk : List ℕ → Type 0
  AnswersLineAtDesk line = AnswersCommandAtDesk (command_in begun.track line)
