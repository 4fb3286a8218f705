use Rattle.std.proofs.Common.{◌≡◌, ◌+◌, ◌++◌, List, length}
use Rattle.std.specs.Prelude.{vec_capacity}
use Rattle.std.specs.List.{AllZip}
use Rattle.std.specs.Vec.Iter.{into_iter_items}
use Rattle.rbc_server.specs.Connections.{IsConnection, TellsFailure}
use Rattle.rbc_server.proofs.connections.join_all.Given as goal

-- Each visit that came back kept what its handle promised, whatever comes back of those that have not ended. There is room for these.
abbrev pub invariant-loop-handle : goal.invariant-loop-handle
invariant-loop-handle g l =
    ((rest : List _)
    → AllZip (λ h v. IsConnection g.K.Keeper.kept (record { came = g.C.Client.coming h.promise.1.value; before = h.promise.0.value; after = v.sitting; went = g.C.Client.parting v.gone }) × TellsFailure g.K.Keeper.failed v.sitting)
    (into_iter_items l.handle-iterator) rest
    → AllZip (λ h v. IsConnection g.K.Keeper.kept (record { came = g.C.Client.coming h.promise.1.value; before = h.promise.0.value; after = v.sitting; went = g.C.Client.parting v.gone }) × TellsFailure g.K.Keeper.failed v.sitting)
    (into_iter_items l.initial.handle-iterator) (l.back.items ++ rest))
    × (length l.back.items + length (into_iter_items l.handle-iterator) ≡ length (into_iter_items l.initial.handle-iterator))
    × (vec_capacity l.back ≡ vec_capacity l.initial.back)
