use Rattle.std.proofs.Common.{◌≡◌, ◌+◌, map, vec_capacity, vec_len}
use Rattle.std.specs.Vec.Iter.{into_iter_len}
use Rattle.rbc_sweep.specs.Serving.{outcome_of}
use Rattle.rbc_sweep.proofs.order.outcomes_of.Given as goal

abbrev pub invariant-loop-one : goal.invariant-loop-one
invariant-loop-one l = record {
  items : l.outcomes.items ≡ map outcome_of l.yielded;
  capacity : vec_capacity l.outcomes ≡ vec_capacity l.initial.outcomes;
  rest : vec_len l.outcomes + into_iter_len l.one-iterator ≡ into_iter_len l.initial.one-iterator;
}
