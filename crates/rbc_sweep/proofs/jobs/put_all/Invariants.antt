use Rattle.std.proofs.Common.{◌≡◌, [], take}
use Rattle.crossbeam_queue.specs.Passes.{view, IsPassOf}
use Rattle.rbc_sweep.specs.Jobs.{all_parts, tally, numbered}
use Rattle.rbc_sweep.proofs.jobs.put_all.Given as goal

abbrev pub invariant-loop-place : goal.invariant-loop-place
invariant-loop-place g l = IsPassOf l.queue l.pass × (view l.pass ≡ tally all_parts (numbered 0 (take l.place l.trains)) [])
