use Rattle.std.proofs.Common.{◌≤◌, vec_capacity}
use Rattle.crossbeam_queue.specs.Passes.{IsPassOf}
use Rattle.rbc_sweep.specs.Serving.{HasServed, tally_of}
use Rattle.rbc_sweep.proofs.post.Post.serve.Given as goal

abbrev pub invariant-loop : goal.invariant-loop
invariant-loop g l = record {
  pass : IsPassOf l.queue l.pass;
  served : HasServed (tally_of l.initial.pass) l.initial.seat (tally_of l.pass) l.seat l.done.items;
  room : vec_capacity l.initial.done ≤ vec_capacity l.done;
}
