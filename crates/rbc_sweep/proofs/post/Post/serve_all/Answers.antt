use Rattle.std.proofs.Common.{◌<◌, [], List, length, slice_index_or, subst, arith}
use Rattle.rbc_sweep.specs.declared.worker.Worker.{Worker}
use Rattle.rbc_sweep.specs.Jobs.{tally}
use Rattle.rbc_sweep.specs.Serving.{HasServed, tally_of}
use Rattle.rbc_sweep.proofs.CrewLemmas.{zip_written}
use Rattle.rbc_sweep.proofs.post.Post.serve_all.Goals as goal

pub returns-clause-served : goal.returns-clause-served
returns-clause-served g c =
    let new = c.serve_each.new.workers in
    zip_written (λ (w v : Worker g.row.L.Denot). HasServed (tally 1 [] []) w.seat (tally_of v.pass) v.seat v.done.items)
    c.args.workers.items new c.args.workers.len (omega (arith, c.args.workers.ok.0, c.as_mut_slice.ensures.len)) (omega (arith, c.args.workers.ok.0)) (λ i d inside.
    subst (λ (items : List (Worker g.row.L.Denot)). i < length items
    → HasServed (tally 1 [] []) (slice_index_or items i d).seat (tally_of (slice_index_or new i d).pass) (slice_index_or new i d).seat (slice_index_or new i d).done.items)
    c.as_mut_slice.ensures.value (λ within. (c.serve_each.ensures i d within).1) inside)
