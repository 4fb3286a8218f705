use Rattle.std.proofs.Common.{◌≡◌, ◌+◌, map, vec_capacity, vec_len}
use Rattle.std.specs.Vec.Iter.{into_iter_len}
use Rattle.rbc_server.proofs.connections.part_all.Given as goal

-- The seats, the committers and what is left of the clients so far, each with room for the others.
abbrev pub invariant-loop-visit : goal.invariant-loop-visit
invariant-loop-visit g l = record {
  seats : l.seats.items ≡ map (λ v. v.sitting.seat) l.yielded;
  committers : l.committers.items ≡ map (λ v. v.sitting.committer) l.yielded;
  gone : l.gone.items ≡ map (λ v. v.gone) l.yielded;
  room : vec_capacity l.seats ≡ vec_capacity l.initial.seats;
  room_for_committers : vec_capacity l.committers ≡ vec_capacity l.initial.committers;
  room_for_gone : vec_capacity l.gone ≡ vec_capacity l.initial.gone;
  count : vec_len l.seats + into_iter_len l.visit-iterator ≡ into_iter_len l.initial.visit-iterator;
  count_of_committers : vec_len l.committers + into_iter_len l.visit-iterator ≡ into_iter_len l.initial.visit-iterator;
  count_of_gone : vec_len l.gone + into_iter_len l.visit-iterator ≡ into_iter_len l.initial.visit-iterator;
}
