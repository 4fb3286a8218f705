use Rattle.std.proofs.Common.{◌≡◌, ◌+◌, ◌++◌, length, vec_capacity, vec_len}
use Rattle.std.specs.Vec.Iter.{into_iter_items}
use Rattle.rbc_sweep.specs.Serving.{all_of}
use Rattle.rbc_sweep.proofs.order.put_together.Given as goal

abbrev pub invariant-loop-other : goal.invariant-loop-other
invariant-loop-other l = record {
  items : l.done.items ≡ l.initial.done.items ++ all_of l.yielded;
  capacity : vec_capacity l.done ≡ vec_capacity l.initial.done;
  rest : vec_len l.done + length (all_of (into_iter_items l.other-iterator)) ≡ vec_len l.initial.done + length (all_of (into_iter_items l.initial.other-iterator));
}
