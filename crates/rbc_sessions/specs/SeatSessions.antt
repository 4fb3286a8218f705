-- A whole session at a desk from one seat, line by line.
use Rattle.std.specs.Prelude.{◌≡◌, ℕ, ◌≤◌, List, [], ◌∷◌, ◌++◌, length, map, Option, Some, None, Result}
use Rattle.std.specs.List.{flat_map}
use Rattle.rbc_model.specs.declared.limits.TheConstants.{LONGEST_LINE, MOST_LINES}
use Rattle.rbc_model.specs.declared.sessions.SessionFault.{SessionFault}
use Rattle.rbc_model.specs.Sessions.{lines_of}
use Rattle.rbc_model.specs.Talks.{Ends}
use Rattle.rbc_model.specs.Histories.{Receipt}
use Rattle.rbc_sweep.specs.Records.{HistoryOnTrack}
use Rattle.rbc_sweep.specs.Seats.{Seated}
use Rattle.rbc_sessions.specs.SeatTurns.{AnswersLineAtDesk}

-- A line that was treated, the reply to it, the receipt that the seat gained for it, or none, and the history that the seat is told from then on.
pub record SeatTurn : Type 0 where
  pub line : List ℕ
  pub reply : List ℕ
  pub receipt : Option Receipt
  pub told : HistoryOnTrack

-- The turns are right, one after the other: what is told after one is what the next begins with.
abbrev pub AreInTurn : HistoryOnTrack → List SeatTurn → HistoryOnTrack → Type 0
AreInTurn begun [] last = last ≡ begun
AreInTurn begun (turn ∷ turns) last = AnswersLineAtDesk begun turn.told turn.reply turn.receipt turn.line × AreInTurn turn.told turns last

-- the receipts that a turn, and turns in order, gained
abbrev pub receipts_of : Option Receipt → List Receipt
receipts_of None = []
receipts_of (Some receipt) = receipt ∷ []

abbrev pub receipts_gained : List SeatTurn → List Receipt
receipts_gained turns = flat_map (λ turn. receipts_of turn.receipt) turns

-- the lines and the replies of turns
abbrev pub lines_at_seat : List SeatTurn → List (List ℕ)
lines_at_seat turns = map (λ turn. turn.line) turns

abbrev pub replies_at_seat : List SeatTurn → List ℕ
replies_at_seat turns = flat_map (λ turn. turn.reply) turns

-- A session over this input at a desk, from a seat to the same seat later, that ended so: its first lines were treated, in turns that lead from what
-- the seat had been told to what it is told then; the receipts gained, in order, stand behind the old ones; and what was written is made of the
-- replies, in order.
pub record IsSeatSession (before after : Seated) (input : List ℕ) (old new : Option (List ℕ)) (result : Result (Unit {0}) SessionFault) : Type 0 where
  pub turns : List SeatTurn
  pub rest : List (List ℕ)
  pub lines : lines_of input ≡ lines_at_seat turns ++ rest
  pub few : length turns ≤ MOST_LINES
  pub each : AreInTurn before.told turns after.told
  pub receipts : after.receipts ≡ before.receipts ++ receipts_gained turns
  pub ends : Ends LONGEST_LINE input old new (lines_at_seat turns) rest (replies_at_seat turns) result
