use Rattle.std.proofs.Common.{◌≡◌, ◌+◌, ◌++◌, List, length}
use Rattle.std.specs.Prelude.{vec_capacity}
use Rattle.std.specs.List.{AllZip}
use Rattle.std.specs.Vec.Iter.{into_iter_items}
use Rattle.rbc_server.specs.Connections.{TellsFailure}
use Rattle.rbc_duty.specs.Duties.{IsDuty}
use Rattle.rbc_duty.proofs.standing.join_all.Given as goal

-- Each duty that came back kept what its handle promised, whatever comes back of those that have not ended. There is room for these.
abbrev pub invariant-loop-handle : goal.invariant-loop-handle
invariant-loop-handle g l =
    ((rest : List _)
    → AllZip (λ h d. IsDuty g.K.Keeper.kept (record { coming = g.P.Clients.coming h.promise.0.value.port; before = h.promise.0.value.sitting; after = d.sitting; lost = d.is_port_lost }) × TellsFailure g.K.Keeper.failed d.sitting)
    (into_iter_items l.handle-iterator) rest
    → AllZip (λ h d. IsDuty g.K.Keeper.kept (record { coming = g.P.Clients.coming h.promise.0.value.port; before = h.promise.0.value.sitting; after = d.sitting; lost = d.is_port_lost }) × TellsFailure g.K.Keeper.failed d.sitting)
    (into_iter_items l.initial.handle-iterator) (l.back.items ++ rest))
    × (length l.back.items + length (into_iter_items l.handle-iterator) ≡ length (into_iter_items l.initial.handle-iterator))
    × (vec_capacity l.back ≡ vec_capacity l.initial.back)
