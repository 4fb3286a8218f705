use Rattle.std.proofs.Common.{ℕ, ◌<◌, ◌≤◌, refl, arith}
use Rattle.rbc_steps.proofs.StretchLemmas.{holds_first, ahead, moved, value_there, loss-stretch, within_here, summed}
use Rattle.rbc_steps.proofs.rows.loss.Goals as goal

pub loop-from-init : goal.loop-from-init
loop-from-init g c = record {
  run = holds_first c.args.end c.args.runs.now c.requires.runs;
  step = holds_first c.args.end c.args.steps.now c.requires.steps;
  near = omega arith;
  sum = refl;
  small = omega arith;
}

pub overflow_sub-to : goal.overflow_sub-to
overflow_sub-to g c =
    let l = c.loop-from in
    let run = ahead c.args.end c.args.runs.now c.requires.runs l.run l.from c.stop-run_stop.result l.invariant.run c.loop-from-test.true c.stop-run_stop.ensures.next c.stop-run_stop.ensures.last in
    let step = ahead c.args.end c.args.steps.now c.requires.steps l.step l.from c.stop-step_stop.result l.invariant.step c.loop-from-test.true c.stop-step_stop.ensures.next c.stop-step_stop.ensures.last in
    omega (arith, run, step)

pub loss_over-sum-requires-clause-below : goal.loss_over-sum-requires-clause-below
loss_over-sum-requires-clause-below g c κs within =
    let l = c.loop-from in
    let runs = c.args.runs.now in
    let steps = c.args.steps.now in
    let run = ahead c.args.end runs c.requires.runs l.run l.from c.stop-run_stop.result l.invariant.run c.loop-from-test.true c.stop-run_stop.ensures.next c.stop-run_stop.ensures.last in
    let step = ahead c.args.end steps c.requires.steps l.step l.from c.stop-step_stop.result l.invariant.step c.loop-from-test.true c.stop-step_stop.ensures.next c.stop-step_stop.ensures.last in
    let track = value_there c.args.end runs c.requires.runs l.run l.from c.stop-run_stop.result l.invariant.run c.loop-from-test.true c.stop-run_stop.ensures.next c.stop-run_stop.ensures.last c.min-to.result l.from c.index-runs-run.result (omega arith) (omega arith) (omega (arith, run, step)) in
    let given = value_there c.args.end steps c.requires.steps l.step l.from c.stop-step_stop.result l.invariant.step c.loop-from-test.true c.stop-step_stop.ensures.next c.stop-step_stop.ensures.last c.min-to.result l.from c.index-steps-step.result (omega arith) (omega arith) (omega (arith, run, step)) in
    within_here g.V.Level.levels runs steps l.from _ _ track given (c.requires.below l.from c.loop-from-test.true)

pub loop-from-smaller : goal.loop-from-smaller
loop-from-smaller g c =
    let l = c.loop-from in
    let run = ahead c.args.end c.args.runs.now c.requires.runs l.run l.from c.stop-run_stop.result l.invariant.run c.loop-from-test.true c.stop-run_stop.ensures.next c.stop-run_stop.ensures.last in
    let step = ahead c.args.end c.args.steps.now c.requires.steps l.step l.from c.stop-step_stop.result l.invariant.step c.loop-from-test.true c.stop-step_stop.ensures.next c.stop-step_stop.ensures.last in
    omega (arith, run, step)

pub loop-from-preserved : goal.loop-from-preserved
loop-from-preserved g c =
    let l = c.loop-from in
    let runs = c.args.runs.now in
    let steps = c.args.steps.now in
    let to = c.min-to.result in
    let run = ahead c.args.end runs c.requires.runs l.run l.from c.stop-run_stop.result l.invariant.run c.loop-from-test.true c.stop-run_stop.ensures.next c.stop-run_stop.ensures.last in
    let step = ahead c.args.end steps c.requires.steps l.step l.from c.stop-step_stop.result l.invariant.step c.loop-from-test.true c.stop-step_stop.ensures.next c.stop-step_stop.ensures.last in
    let onward : l.from < to = omega (arith, run, step) in
    let track = λ (y : ℕ) (a : l.from ≤ y) (b : y < to). value_there c.args.end runs c.requires.runs l.run l.from c.stop-run_stop.result l.invariant.run c.loop-from-test.true c.stop-run_stop.ensures.next c.stop-run_stop.ensures.last to y c.index-runs-run.result (omega arith) a b in
    let given = λ (y : ℕ) (a : l.from ≤ y) (b : y < to). value_there c.args.end steps c.requires.steps l.step l.from c.stop-step_stop.result l.invariant.step c.loop-from-test.true c.stop-step_stop.ensures.next c.stop-step_stop.ensures.last to y c.index-steps-step.result (omega arith) a b in
    let stretch = loss-stretch g.V.Level.levels runs steps l.from to _ _ (omega arith) track given in
    record {
      run = moved c.args.end runs c.requires.runs l.run l.from c.stop-run_stop.result l.invariant.run c.loop-from-test.true c.stop-run_stop.ensures.next c.stop-run_stop.ensures.last to c.from-run.result onward (omega arith) c.from-run.ensures;
      step = moved c.args.end steps c.requires.steps l.step l.from c.stop-step_stop.result l.invariant.step c.loop-from-test.true c.stop-step_stop.ensures.next c.stop-step_stop.ensures.last to c.from-step.result onward (omega arith) c.from-step.ensures;
      near = omega arith;
      sum = summed l.invariant.sum c.loss_over-sum.ensures.loss stretch;
      small = omega (arith, onward);
    }
