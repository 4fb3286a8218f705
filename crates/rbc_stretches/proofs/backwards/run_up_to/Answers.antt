use Rattle.std.proofs.Common.{arith}
use Rattle.rbc_stretches.proofs.BackwardLemmas.{run_before, edge_back}
use Rattle.rbc_stretches.proofs.backwards.run_up_to.Goals as goal

pub overflow_sub-run : goal.overflow_sub-run
overflow_sub-run g c =
    let level = g.met.V.Level g.world.𝓛 g.world.𝓜 g.world.𝓡 ((λ s x. x), (λ x. x), (λ x. x), λ x. x) in
    let at = c.edge.ensures.edge in
    let test = c.loop-run-test.true in
    run_before g.V.Level.levels level.lawful c.args.track.now c.known.ensures.track c.loop-run.run c.args.metre (omega arith)

pub loop-run-preserved : goal.loop-run-preserved
loop-run-preserved g c =
    let level = g.met.V.Level g.world.𝓛 g.world.𝓜 g.world.𝓡 ((λ s x. x), (λ x. x), (λ x. x), λ x. x) in
    let at = c.edge.ensures.edge in
    let test = c.loop-run-test.true in
    let some = run_before g.V.Level.levels level.lawful c.args.track.now c.known.ensures.track c.loop-run.run c.args.metre (omega arith) in
    let back = edge_back g.V.Level.levels level.lawful c.args.track.now c.known.ensures.track c.loop-run.run some in
    (omega (arith, c.loop-run.invariant.0), omega (arith, at, test, back))

pub loop-run-smaller : goal.loop-run-smaller
loop-run-smaller g c =
    let level = g.met.V.Level g.world.𝓛 g.world.𝓜 g.world.𝓡 ((λ s x. x), (λ x. x), (λ x. x), λ x. x) in
    let at = c.edge.ensures.edge in
    let test = c.loop-run-test.true in
    let some = run_before g.V.Level.levels level.lawful c.args.track.now c.known.ensures.track c.loop-run.run c.args.metre (omega arith) in
    omega arith
