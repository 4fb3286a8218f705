use Rattle.std.proofs.Common.{◌≡◌, ◌+◌, ◌-◌, [], All, length, map, vec_capacity, vec_len}
use Rattle.std.specs.Vec.Iter.{into_iter_len}
use Rattle.crossbeam_queue.specs.Passes.{IsPassOf}
use Rattle.rbc_sweep.specs.declared.worker.Worker.{Worker}
use Rattle.rbc_sweep.specs.Jobs.{tally}
use Rattle.rbc_sweep.specs.Serving.{tally_of}
use Rattle.rbc_sweep.proofs.crew.hire.Given as goal

abbrev pub invariant-loop-seat : goal.invariant-loop-seat
invariant-loop-seat g l = record {
  pass : IsPassOf l.queue l.pass;
  left : tally_of l.pass ≡ tally ((tally_of l.fn.pass).parts - length l.yielded) (tally_of l.fn.pass).put (tally_of l.fn.pass).taken;
  seats : map (λ (w : Worker g.row.L.Denot). w.seat) l.workers.items ≡ l.yielded;
  ready : All (λ (w : Worker g.row.L.Denot). IsPassOf l.queue w.pass × (tally_of w.pass ≡ tally 1 [] []) × (w.done.items ≡ [])) l.workers.items;
  empty : All (λ list. list.items ≡ []) l.lists.items;
  lists : vec_len l.lists ≡ into_iter_len l.seat-iterator;
  room : vec_capacity l.workers ≡ vec_capacity l.initial.workers;
  count : vec_len l.workers + into_iter_len l.seat-iterator ≡ into_iter_len l.initial.seat-iterator;
  yielded : length l.yielded + into_iter_len l.seat-iterator ≡ into_iter_len l.initial.seat-iterator;
}
