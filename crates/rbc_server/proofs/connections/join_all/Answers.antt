use Rattle.std.proofs.Common.{rules}
use Rattle.std.specs.Vec.Iter.{into_iter_items}
use Rattle.rbc_server.specs.Connections.{IsConnection, TellsFailure}
use Rattle.rbc_server.proofs.ConnectionLemmas.{all_came, one_back}
use Rattle.rbc_server.proofs.connections.join_all.Goals as goal

pub returns-clause-served : goal.returns-clause-served
returns-clause-served g c =
    let inv = c.loop-handle.invariant in
    all_came
    (λ h v. IsConnection g.K.Keeper.kept (record { came = g.C.Client.coming h.promise.1.value; before = h.promise.0.value; after = v.sitting; went = g.C.Client.parting v.gone }) × TellsFailure g.K.Keeper.failed v.sitting)
    c.args.handles.items (into_iter_items c.into_iter-handle-iterator.result)
    (into_iter_items c.loop-handle.handle-iterator) c.loop-handle.back.items inv.0 (search rules) c.into_iter-handle-iterator.ensures.into_iter_gives.0

pub loop-handle-preserved : goal.loop-handle-preserved
loop-handle-preserved g c =
    let inv = c.loop-handle.invariant in (
      one_back
          (λ h v. IsConnection g.K.Keeper.kept (record { came = g.C.Client.coming h.promise.1.value; before = h.promise.0.value; after = v.sitting; went = g.C.Client.parting v.gone }) × TellsFailure g.K.Keeper.failed v.sitting)
          (into_iter_items c.into_iter-handle-iterator.result) (into_iter_items c.loop-handle.handle-iterator) (into_iter_items c.next.new.self) c.loop-handle.back.items c.push_reserved.new.self.items
          c.in-Some.handle c.join.result inv.0 (search rules) (search rules) (search rules),
      search rules,
      search rules,
    )
