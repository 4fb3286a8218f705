use Rattle.std.proofs.Common.{◌≡◌, ◌+◌, ◌≤◌, true, map, length}
use Rattle.std.specs.Prelude.{vec_capacity}
use Rattle.std.specs.Vec.Iter.{into_iter_items}
use Rattle.rbc_duty.proofs.DutyLemmas.{AreBegun}
use Rattle.rbc_duty.proofs.standing.fn.stand_all.scope.Given as goal

-- As long as each thread could be started, each of the posts so far went to one that stands at it. There is room for a handle for each post.
abbrev pub invariant-loop-post : goal.invariant-loop-post
invariant-loop-post g l =
    AreBegun (into_iter_items l.initial.post-iterator) (into_iter_items l.post-iterator) (map (λ h. h.promise.0.value) l.handles.items) l.all_begun
    × (length l.handles.items + length (into_iter_items l.post-iterator) ≤ length (into_iter_items l.initial.post-iterator))
    × (l.all_begun ≡ true → l.initial.all_begun ≡ true)
    × (vec_capacity l.handles ≡ vec_capacity l.initial.handles)
