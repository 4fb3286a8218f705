use Rattle.std.proofs.Common.{◌≡◌, vec_capacity, vec_len}
use Rattle.rbc_server.proofs.staff.no_committers.Given as goal

-- there is room for the committers that are to come
abbrev pub invariant-loop : goal.invariant-loop
invariant-loop l = record {
  count : vec_len l.committers ≡ l.counter;
  room : vec_capacity l.committers ≡ vec_capacity l.initial.committers;
}
