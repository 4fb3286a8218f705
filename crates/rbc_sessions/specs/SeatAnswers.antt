-- What the lines of a session at a desk are answered: what they are answered in a session of its own, after a history that the seat is told.
use Rattle.std.specs.Prelude.{◌≡◌, List, [], ◌∷◌, ◌⊎◌}
use Rattle.rbc_model.specs.SessionReply.{Memory, refused_reply}
use Rattle.rbc_sweep.specs.Later.{IsLater}
use Rattle.rbc_sweep.specs.Records.{begin_of, HistoryOnTrack}
use Rattle.rbc_session_laws.specs.Answers.{line_answer}
use Rattle.rbc_sessions.specs.Changes.{with_added}
use Rattle.rbc_sessions.specs.SeatSessions.{SeatTurn}
use Rattle.rbc_sessions.specs.SeatTurns.{entry_in, IsNext}

-- The reply to a line is that of the function that computes it, after a history that the seat had been told, or after a legal one that goes on from
-- it; the receipt is for the entry that the function adds there; and the seat is told that history then, with this entry.
pub record IsLineAnswer (begun : HistoryOnTrack) (turn : SeatTurn) : Type 0 where
  pub before : HistoryOnTrack
  pub since : (before ≡ begun) ⊎ IsLater begun before
  pub reply : turn.reply ≡ (line_answer (begin_of before) before.entries turn.line).reply
  pub added : entry_in turn.receipt ≡ (line_answer (begin_of before) before.entries turn.line).added
  pub next : IsNext before.entries turn.receipt
  pub told : turn.told ≡ with_added before (entry_in turn.receipt)

-- so it is with each turn, from one history to the next, but where memory was refused
abbrev pub AreLineAnswers : HistoryOnTrack → List SeatTurn → Type 0
AreLineAnswers begun [] = Unit {0}
AreLineAnswers begun (turn ∷ turns) = ((turn.reply ≡ refused_reply begun.track Memory) ⊎ IsLineAnswer begun turn) × AreLineAnswers turn.told turns
