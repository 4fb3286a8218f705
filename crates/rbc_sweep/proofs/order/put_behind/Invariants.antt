use Rattle.std.proofs.Common.{◌≡◌, ◌+◌, ◌++◌, vec_capacity, vec_len}
use Rattle.std.specs.Vec.Iter.{into_iter_len}
use Rattle.rbc_sweep.proofs.order.put_behind.Given as goal

abbrev pub invariant-loop-one : goal.invariant-loop-one
invariant-loop-one l = record {
  items : l.done.items ≡ l.fn.done.items ++ l.yielded;
  capacity : vec_capacity l.done ≡ vec_capacity l.fn.done;
  rest : vec_len l.done + into_iter_len l.one-iterator ≡ vec_len l.fn.done + into_iter_len l.initial.one-iterator;
}
