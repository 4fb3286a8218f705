use Rattle.std.proofs.Common.{◌≡◌, vec_capacity, vec_len}
use Rattle.rbc_port.proofs.place.open_places.Given as goal

-- there is room for the ports that are to come
abbrev pub invariant-loop : goal.invariant-loop
invariant-loop g l = record {
  count : vec_len l.ports ≡ l.counter;
  room : vec_capacity l.ports ≡ vec_capacity l.initial.ports;
}
