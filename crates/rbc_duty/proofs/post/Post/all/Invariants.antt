use Rattle.std.proofs.Common.{◌≡◌, ◌+◌, ◌++◌, length, map}
use Rattle.std.specs.Prelude.{vec_capacity}
use Rattle.std.specs.Vec.Iter.{into_iter_items}
use Rattle.rbc_duty.proofs.post.Post.all.Given as goal

-- Each seat so far has its committer and its port; as many of both are left as seats, and there is room for these.
abbrev pub invariant-loop-seat : goal.invariant-loop-seat
invariant-loop-seat g l = record {
  seats : map (λ p. p.sitting.seat) l.posts.items ++ into_iter_items l.seat-iterator ≡ into_iter_items l.initial.seat-iterator;
  committers : map (λ p. p.sitting.committer) l.posts.items ++ into_iter_items l.committers ≡ into_iter_items l.initial.committers;
  ports : map (λ p. p.port) l.posts.items ++ into_iter_items l.ports ≡ into_iter_items l.initial.ports;
  left : length (into_iter_items l.committers) ≡ length (into_iter_items l.seat-iterator);
  ports_left : length (into_iter_items l.ports) ≡ length (into_iter_items l.seat-iterator);
  room : vec_capacity l.posts ≡ vec_capacity l.initial.posts;
  count : length l.posts.items + length (into_iter_items l.seat-iterator) ≡ length (into_iter_items l.initial.seat-iterator);
}
