use Rattle.std.proofs.Common.{◌≡◌, ◌+◌, map, vec_capacity, vec_len}
use Rattle.std.specs.Vec.Iter.{into_iter_len}
use Rattle.rbc_duty.proofs.staying.part_all.Given as goal

-- The seats and the committers so far, each with room for the others.
abbrev pub invariant-loop-duty : goal.invariant-loop-duty
invariant-loop-duty g l = record {
  seats : l.seats.items ≡ map (λ d. d.sitting.seat) l.yielded;
  committers : l.committers.items ≡ map (λ d. d.sitting.committer) l.yielded;
  room : vec_capacity l.seats ≡ vec_capacity l.initial.seats;
  room_for_committers : vec_capacity l.committers ≡ vec_capacity l.initial.committers;
  count : vec_len l.seats + into_iter_len l.duty-iterator ≡ into_iter_len l.initial.duty-iterator;
  count_of_committers : vec_len l.committers + into_iter_len l.duty-iterator ≡ into_iter_len l.initial.duty-iterator;
}
