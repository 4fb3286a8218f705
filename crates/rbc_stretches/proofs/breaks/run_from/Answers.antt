use Rattle.std.proofs.Common.{arith, ◌+◌}
use Rattle.rbc_stretches.proofs.StandingLemmas.{some_run, runs_to_end}
use Rattle.rbc_stretches.proofs.breaks.run_from.Goals as goal

pub loop-run-preserved : goal.loop-run-preserved
loop-run-preserved g c =
    let level = g.met.V.Level g.world.𝓛 g.world.𝓜 g.world.𝓡 ((λ s x. x), (λ x. x), (λ x. x), λ x. x) in
    let l = c.loop-run in
    let at = c.edge.ensures.edge in
    let test = c.loop-run-test.true in
    let run = some_run g.V.Level.levels level.lawful c.args.track.now c.known.ensures.track (l.run + 1) (omega (arith, l.invariant.0)) (omega (arith, at, test, c.requires.before_end)) in
    (run, omega (arith, at, test))

pub overflow_add-run : goal.overflow_add-run
overflow_add-run g c =
    let level = g.met.V.Level g.world.𝓛 g.world.𝓜 g.world.𝓡 ((λ s x. x), (λ x. x), (λ x. x), λ x. x) in
    let few = runs_to_end g.V.Level.levels level.lawful c.args.track.now c.known.ensures.track in
    omega (arith, few, c.loop-run.invariant.0, c.known.ensures.within_limit)

pub overflow_add-run-in-loop-run : goal.overflow_add-run-in-loop-run
overflow_add-run-in-loop-run g c =
    let level = g.met.V.Level g.world.𝓛 g.world.𝓜 g.world.𝓡 ((λ s x. x), (λ x. x), (λ x. x), λ x. x) in
    let few = runs_to_end g.V.Level.levels level.lawful c.args.track.now c.known.ensures.track in
    omega (arith, few, c.loop-run.invariant.0, c.known.ensures.within_limit)
