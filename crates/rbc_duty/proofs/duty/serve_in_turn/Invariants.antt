use Rattle.std.proofs.Common.{◌≡◌, false}
use Rattle.rbc_server.specs.Connections.{TellsFailure}
use Rattle.rbc_duty.proofs.VisitLemmas.{IsUnderWay}
use Rattle.rbc_duty.proofs.duty.serve_in_turn.Given as goal

-- The clients so far were served in turn.
abbrev pub invariant-loop-served : goal.invariant-loop-served
invariant-loop-served g l =
    IsUnderWay g.K.Keeper.kept (g.P.Clients.coming l.initial.port) (g.P.Clients.coming l.port) l.initial.sitting l.sitting
    × TellsFailure g.K.Keeper.failed l.sitting
    × (l.is_port_lost ≡ false)
