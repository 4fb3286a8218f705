use Rattle.std.proofs.Common.{◌≡◌, drop, fold}
use Rattle.rbc_model.specs.Locks.{needed_rows, with_leg_before, with_row}
use Rattle.rbc_locks.specs.Room.{HaveRoom}
use Rattle.rbc_locks.proofs.locks.Locks.add_rows.Given as goal

abbrev pub invariant-loop-leg : goal.invariant-loop-leg
invariant-loop-leg l = record {
  room : HaveRoom l.number l.self (with_leg_before l.before (drop l.leg-index l.leg-items));
  rest : fold (with_row l.number) l.self (with_leg_before l.before (drop l.leg-index l.leg-items)) ≡ fold (with_row l.number) l.initial.self (needed_rows l.route);
}
