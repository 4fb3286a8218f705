use Rattle.std.proofs.Common.{◌≡◌, ◌+◌, ◌≤◌, None, map, length}
use Rattle.std.specs.Prelude.{vec_capacity}
use Rattle.std.specs.Vec.Iter.{into_iter_items}
use Rattle.rbc_server.proofs.ConnectionLemmas.{IsUnderWay}
use Rattle.rbc_server.proofs.connections.fn.visit_all.scope.Given as goal

-- As long as nothing stands in the way, each of the sittings so far went to a thread that serves a client from it: the next one that came. There is room for a
-- handle for each sitting.
abbrev pub invariant-loop-sitting : goal.invariant-loop-sitting
invariant-loop-sitting g l =
    IsUnderWay (g.P.Clients.coming l.initial.port) (g.P.Clients.coming l.port) (into_iter_items l.initial.sitting-iterator) (into_iter_items l.sitting-iterator)
    (map (λ h. h.promise.0.value) l.handles.items) (map (λ h. g.C.Client.coming h.promise.1.value) l.handles.items) l.fault
    × (length l.handles.items + length (into_iter_items l.sitting-iterator) ≤ length (into_iter_items l.initial.sitting-iterator))
    × (l.fault ≡ None → l.initial.fault ≡ None)
    × (vec_capacity l.handles ≡ vec_capacity l.initial.handles)
