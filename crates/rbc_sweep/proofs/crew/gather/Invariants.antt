use Rattle.std.proofs.Common.{◌≡◌, ◌+◌, All, fold, map, vec_capacity, vec_len}
use Rattle.std.specs.Vec.Iter.{into_iter_items, into_iter_len}
use Rattle.crossbeam_queue.specs.Passes.{IsPassOf}
use Rattle.rbc_sweep.specs.declared.worker.Worker.{Worker}
use Rattle.rbc_sweep.specs.Serving.{joined, tally_of}
use Rattle.rbc_sweep.proofs.crew.gather.Given as goal

abbrev pub invariant-loop-worker : goal.invariant-loop-worker
invariant-loop-worker g l = record {
  pass : IsPassOf l.queue l.pass;
  joined : tally_of l.pass ≡ fold joined (tally_of l.fn.pass) (map (λ (w : Worker g.row.L.Denot). tally_of w.pass) l.yielded);
  seats : l.seats.items ≡ map (λ (w : Worker g.row.L.Denot). w.seat) l.yielded;
  lists : l.lists.items ≡ map (λ (w : Worker g.row.L.Denot). w.done) l.yielded;
  passes : All (λ (w : Worker g.row.L.Denot). IsPassOf l.queue w.pass) (into_iter_items l.worker-iterator);
  room : vec_capacity l.seats ≡ vec_capacity l.initial.seats;
  room_for_lists : vec_capacity l.lists ≡ vec_capacity l.initial.lists;
  count : vec_len l.seats + into_iter_len l.worker-iterator ≡ into_iter_len l.initial.worker-iterator;
  list_count : vec_len l.lists + into_iter_len l.worker-iterator ≡ into_iter_len l.initial.worker-iterator;
}
