use Rattle.std.proofs.Common.{◌≡◌, ◌+◌, ◌++◌, length, map}
use Rattle.std.specs.Prelude.{vec_capacity}
use Rattle.std.specs.Vec.Iter.{into_iter_items}
use Rattle.rbc_server.proofs.staff.Staff.new.Given as goal

-- Each seat so far has its committer; as many committers are left as seats, and there is room for these.
abbrev pub invariant-loop-seat : goal.invariant-loop-seat
invariant-loop-seat g l = record {
  seats : map (λ s. s.seat) l.sittings.items ++ into_iter_items l.seat-iterator ≡ into_iter_items l.initial.seat-iterator;
  committers : map (λ s. s.committer) l.sittings.items ++ into_iter_items l.committers ≡ into_iter_items l.initial.committers;
  left : length (into_iter_items l.committers) ≡ length (into_iter_items l.seat-iterator);
  room : vec_capacity l.sittings ≡ vec_capacity l.initial.sittings;
  count : length l.sittings.items + length (into_iter_items l.seat-iterator) ≡ length (into_iter_items l.initial.seat-iterator);
}
