use Rattle.std.proofs.Common.{ℕ, ◌∙◌, sym, ◌<◌, ◌≤◌, arith}
use Rattle.rbc_steps.proofs.StretchLemmas.{holds_first, ahead, moved, value_there}
use Rattle.rbc_price.proofs.MetreLemmas.{value_now, within_is, within_on}
use Rattle.rbc_price.proofs.above.first_above.Goals as goal

pub loop-from-init : goal.loop-from-init
loop-from-init g c = record {
  run = holds_first c.args.end c.args.runs.now c.requires.runs;
  step = holds_first c.args.end c.args.steps.now c.requires.steps;
  near = omega arith;
  within = λ x h. absurd (omega arith);
}

pub returns-then-not-is_at_most : goal.returns-then-not-is_at_most
returns-then-not-is_at_most g c =
    let l = c.loop-from in
    let track = value_now c.args.end c.args.runs.now l.run l.from c.index-runs-run.result l.invariant.run c.loop-from-test.true in
    let given = value_now c.args.end c.args.steps.now l.step l.from c.index-steps-step.result l.invariant.step c.loop-from-test.true in
    (c.loop-from-test.true, within_is g.V.Level.levels _ _ _ _ track given ∙ sym c.is_at_most.ensures ∙ c.if-not-is_at_most.true, l.invariant.within)

pub loop-from-smaller : goal.loop-from-smaller
loop-from-smaller g c =
    let l = c.loop-from in
    let run = ahead c.args.end c.args.runs.now c.requires.runs l.run l.from c.stop-run_stop.result l.invariant.run c.loop-from-test.true c.stop-run_stop.ensures.next c.stop-run_stop.ensures.last in
    let step = ahead c.args.end c.args.steps.now c.requires.steps l.step l.from c.stop-step_stop.result l.invariant.step c.loop-from-test.true c.stop-step_stop.ensures.next c.stop-step_stop.ensures.last in
    omega (arith, run, step)

pub loop-from-preserved : goal.loop-from-preserved
loop-from-preserved g c =
    let l = c.loop-from in
    let runs = c.args.runs.now in
    let steps = c.args.steps.now in
    let to = c.min-to.result in
    let run = ahead c.args.end c.args.runs.now c.requires.runs l.run l.from c.stop-run_stop.result l.invariant.run c.loop-from-test.true c.stop-run_stop.ensures.next c.stop-run_stop.ensures.last in
    let step = ahead c.args.end c.args.steps.now c.requires.steps l.step l.from c.stop-step_stop.result l.invariant.step c.loop-from-test.true c.stop-step_stop.ensures.next c.stop-step_stop.ensures.last in
    let onward : l.from < to = omega (arith, run, step) in
    let near : to ≤ c.args.end = omega arith in
    let track = λ (y : ℕ) (a : l.from ≤ y) (b : y < to). value_there c.args.end runs c.requires.runs l.run l.from c.stop-run_stop.result l.invariant.run c.loop-from-test.true c.stop-run_stop.ensures.next c.stop-run_stop.ensures.last to y c.index-runs-run.result (omega arith) a b in
    let given = λ (y : ℕ) (a : l.from ≤ y) (b : y < to). value_there c.args.end steps c.requires.steps l.step l.from c.stop-step_stop.result l.invariant.step c.loop-from-test.true c.stop-step_stop.ensures.next c.stop-step_stop.ensures.last to y c.index-steps-step.result (omega arith) a b in
    record {
      run = moved c.args.end runs c.requires.runs l.run l.from c.stop-run_stop.result l.invariant.run c.loop-from-test.true c.stop-run_stop.ensures.next c.stop-run_stop.ensures.last to c.from-run.result onward (omega arith) c.from-run.ensures;
      step = moved c.args.end steps c.requires.steps l.step l.from c.stop-step_stop.result l.invariant.step c.loop-from-test.true c.stop-step_stop.ensures.next c.stop-step_stop.ensures.last to c.from-step.result onward (omega arith) c.from-step.ensures;
      near = near;
      within = within_on g.V.Level.levels runs steps l.from to _ _ l.invariant.within track given (sym c.is_at_most.ensures ∙ c.if-not-is_at_most.false);
    }
