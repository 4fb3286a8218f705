use Rattle.std.proofs.Common.{◌≡◌, [], All, vec_len}
use Rattle.rbc_sweep.proofs.room.lists_for.Given as goal

abbrev pub invariant-loop-seat : goal.invariant-loop-seat
invariant-loop-seat l = record {
  many : vec_len l.lists ≡ l._seat;
  empty : All (λ list. list.items ≡ []) l.lists.items;
}
