use Rattle.std.proofs.Common.{ℕ, ◌++◌, ◌∷◌, [], length, length-take, take, ap, ◌∙◌, arith}
use Rattle.crossbeam_queue.specs.Passes.{view}
use Rattle.rbc_sweep.specs.Jobs.{all_parts, tally}
use Rattle.rbc_sweep.specs.declared.jobs.Job.{Job}
use Rattle.rbc_sweep.specs.declared.jobs.Tally.{Tally}
use Rattle.rbc_sweep.proofs.JobLemmas.{length-numbered, put_more}
use Rattle.rbc_sweep.proofs.jobs.put_all.Goals as goal

pub put-requires-clause-room : goal.put-requires-clause-room
put-requires-clause-room g c =
    let place = c.loop-place.place in
    let trains = c.args.trains.now in
    omega (arith, ap (λ (v : Tally). length v.put) c.loop-place.invariant.1, length-numbered 0 (take place trains), length-take place trains)

pub loop-place-preserved : goal.loop-place-preserved
loop-place-preserved g c =
    let job : ℕ → Job = λ train. record { place = c.loop-place.place; train = train } in
    let put = c.put.ensures.put ∙ ap (λ train. tally all_parts ((view c.loop-place.pass).put ++ job train ∷ []) []) c.index-trains-place.is in
    (c.put.ensures.pass, put_more c.args.trains.now c.loop-place.place c.index-trains-place.result _ _ (omega arith) c.loop-place.invariant.1 put)
