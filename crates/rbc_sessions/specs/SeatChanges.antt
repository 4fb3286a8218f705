-- What the treatment of a line makes of a seat.
use Rattle.std.specs.Prelude.{◌≡◌, ℕ, List, [], ◌∷◌, ◌++◌, Option, None, Result}
use Rattle.rbc_model.specs.Histories.{Receipt}
use Rattle.rbc_model.specs.SessionReply.{SessionRefusal}
use Rattle.rbc_sweep.specs.Seats.{Seated}
use Rattle.rbc_session_laws.specs.declared.command.Command.{Command}
use Rattle.rbc_sessions.specs.SeatTurns.{AnswersCommandAtDesk}
use Rattle.rbc_sessions.specs.SeatSessions.{receipts_of}

-- The reply is one that is right at the desk, by what the seat was told before and after; and its receipts after it have the one that goes with the
-- reply.
abbrev pub SeatComes : Result Command SessionRefusal → Seated → List ℕ → Seated → Type 0
SeatComes command before reply after =
    (receipt : Option Receipt) × AnswersCommandAtDesk before.told after.told reply receipt command × (after.receipts ≡ before.receipts ++ receipts_of receipt)

-- So it is, and nothing is entered: the seat gains no receipt.
abbrev pub SeatReplies : Result Command SessionRefusal → Seated → List ℕ → Seated → Type 0
SeatReplies command before reply after = AnswersCommandAtDesk before.told after.told reply None command × (after.receipts ≡ before.receipts)

-- What is asked for, one after the other, is answered by this text, reply by reply, and leads from the one seat to the other.
abbrev pub SeatHears : Seated → List (Result Command SessionRefusal) → List ℕ → Seated → Type 0
SeatHears before [] text after = (text ≡ []) × (after ≡ before)
SeatHears before (command ∷ more) text after =
    (reply : List ℕ) × (rest : List ℕ) × (next : Seated) × SeatComes command before reply next × (text ≡ reply ++ rest) × SeatHears next more rest after
