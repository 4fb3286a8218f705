-- What is answered to what is told at the desk.
use Rattle.std.specs.Prelude.{◌≡◌, [], ◌∷◌, ◌++◌, slice_get, Some, None, Result, Err, IfOk, OnErr}
use Rattle.rbc_model.specs.declared.memory.OrMemory.{OrMemory}
use Rattle.rbc_model.specs.declared.memory.OrMemory.TheVariants.{Memory}
use Rattle.rbc_model.specs.declared.reports.Told.{Told}
use Rattle.rbc_model.specs.Histories.{Heard, Receipt}
use Rattle.rbc_snap.specs.ApplyFault.{ApplyFault}
use Rattle.rbc_snap.specs.Entering.{EntersOrMemory, entry_told, refused_at_once}
use Rattle.rbc_snap.specs.Records.{HistoryOnTrack}
use Rattle.rbc_snap.specs.Later.{IsLater}
use Rattle.rbc_desk.specs.Seats.{Seated}

-- The answer is right for a state that the desk may have been in: after a legal history that goes on from all that had been told it is entered, or
-- refused as the definitions say; or memory was refused, where nothing refuses it at once there. What is told then is that history, with what was
-- entered.
pub record IsToldThen (begun after : HistoryOnTrack) (told : Told) (answer : Result Receipt (OrMemory ApplyFault)) : Type 0 where
  pub before : HistoryOnTrack
  pub later : IsLater begun before
  pub entered : EntersOrMemory answer before after (entry_told before told)
  pub needed : answer ≡ Err Memory → refused_at_once before told ≡ None

-- What is answered to what is told from a seat. The seat gains the receipt of what is entered, whose entry is what was told, and nothing else.
pub record IsToldAt (had has : Seated) (told : Told) (answer : Result Receipt (OrMemory ApplyFault)) : Type 0 where
  pub since : IsToldThen had.told has.told told answer
  pub later : IsLater had.told has.told
  pub receipt : IfOk answer (λ receipt. has.receipts ≡ had.receipts ++ receipt ∷ [])
  pub entry : IfOk answer (λ receipt. receipt.entry ≡ Heard told)
  pub place : IfOk answer (λ receipt. slice_get has.told.entries receipt.place ≡ Some receipt.entry)
  pub refused : OnErr answer (has.receipts ≡ had.receipts)
