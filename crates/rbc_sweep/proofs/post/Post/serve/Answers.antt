use Rattle.std.proofs.Common.{◌≡◌, ◌+◌, ◌≤◌, ◌++◌, ◌∷◌, [], List, ap, subst, sym, vec_capacity, vec_len, ◌∙◌, arith}
use Rattle.rbc_sweep.specs.declared.order.Done.{Done}
use Rattle.rbc_sweep.specs.Serving.{HasServed, job_of, tally_of}
use Rattle.rbc_sweep.proofs.WorkLemmas.{reserved, served_more}
use Rattle.rbc_sweep.proofs.post.Post.serve.Goals as goal

pub push_reserved-requires : goal.push_reserved-requires
push_reserved-requires g c =
    let room : vec_len c.reserve.new.self + 1 ≤ vec_capacity c.reserve.new.self =
    reserved (vec_len c.reserve.new.self + 1 ≤ vec_capacity c.reserve.new.self) c.reserve.result (sym c.is_err.ensures.value ∙ c.if-is_err.false) c.reserve.ensures.ok in
    omega arith

pub loop-preserved : goal.loop-preserved
loop-preserved g c =
    let old = tally_of c.args.worker.now.pass in
    let had = c.args.worker.now.seat in
    let job = c.in-Some-take.job in
    let one : Done = record { place = job.place; outcome = c.outcome-outcome.result } in
    let items : c.push_reserved.new.self.items ≡ c.loop.done.items ++ one ∷ [] =
    c.push_reserved.ensures.items ∙ ap (λ (l : List Done). l ++ one ∷ []) c.reserve.ensures.items in
    let same : job_of one ≡ job = λ i. record { place = job.place; train = c.outcome-outcome.ensures.train i } in
    record {
      pass = c.take.ensures.pass;
      served = subst (λ (done : List Done). HasServed old had (tally_of c.take.new.pass) c.outcome-outcome.new.seat done) (sym items)
          (served_more old had (tally_of c.loop.pass) (tally_of c.take.new.pass) c.loop.seat c.outcome-outcome.new.seat c.loop.done.items one job
          c.loop.invariant.served c.in-Some-take.ensures.taken same c.outcome-outcome.ensures.receipts c.outcome-outcome.ensures.later c.outcome-outcome.ensures.told);
      room = omega arith;
    }
