-- What a seat has.
use Rattle.std.specs.Prelude.{List}
use Rattle.rbc_model.specs.Histories.{Receipt}
use Rattle.rbc_snap.specs.Records.{HistoryOnTrack}

-- a seat: the receipts of what was entered from it, in order, and all that it was told of the history
pub record Seated : Type 0 where
  pub receipts : List Receipt
  pub told : HistoryOnTrack

abbrev pub seated : List Receipt → HistoryOnTrack → Seated
seated receipts told = record { receipts = receipts; told = told }
