use Rattle.std.proofs.Common.{◌≡◌}
use Rattle.rbc_snap.specs.Later.{IsLater}
use Rattle.rbc_desk.proofs.desk.Desk.try_outside.Given as goal

abbrev pub invariant-loop-try : goal.invariant-loop-try
invariant-loop-try g l = (l.seat.receipts ≡ l.fn.seat.receipts) × IsLater l.fn.seat.told l.seat.told
