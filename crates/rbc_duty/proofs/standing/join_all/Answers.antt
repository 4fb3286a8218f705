use Rattle.std.proofs.Common.{rules}
use Rattle.std.specs.Vec.Iter.{into_iter_items}
use Rattle.rbc_server.specs.Connections.{TellsFailure}
use Rattle.rbc_server.proofs.ConnectionLemmas.{all_came}
use Rattle.rbc_duty.specs.Duties.{IsDuty}
use Rattle.rbc_duty.proofs.standing.join_all.Goals as goal

pub returns-clause-on_duty : goal.returns-clause-on_duty
returns-clause-on_duty g c =
    let inv = c.loop-handle.invariant in
    all_came
    (λ h d. IsDuty g.K.Keeper.kept (record { coming = g.P.Clients.coming h.promise.0.value.port; before = h.promise.0.value.sitting; after = d.sitting; lost = d.is_port_lost }) × TellsFailure g.K.Keeper.failed d.sitting)
    c.args.handles.items (into_iter_items c.into_iter-handle-iterator.result)
    (into_iter_items c.loop-handle.handle-iterator) c.loop-handle.back.items inv.0 (search rules) c.into_iter-handle-iterator.ensures.into_iter_gives.0
