use Rattle.std.proofs.Common.{arith, ap, length, ◌≡◌, ◌+◌, ◌<◌, min, get_or, subst}
use Rattle.rbc_table_laws.specs.Breaks.{breaks_in, IsLowest}
use Rattle.rbc_table_laws.proofs.TrackBreakLemmas.{run_at}
use Rattle.rbc_table_laws.proofs.StretchLemmas.{lowest_on_part, lower_lowest, part_end}
use Rattle.rbc_stretches.proofs.StandingLemmas.{edges_are, edges_rise, some_run, part_of_run}
use Rattle.rbc_stretches.proofs.prices.least_on.Goals as goal

pub loop-runs-init : goal.loop-runs-init
loop-runs-init g c =
    let level = g.met.V.Level g.world.𝓛 g.world.𝓜 g.world.𝓡 ((λ s x. x), (λ x. x), (λ x. x), λ x. x) in
    let function = c.known.ensures.track in
    let there = run_at c.runs-runs.result.now c.args.track.now.steps c.args.stretch.first c.index-runs-run.result c.runs-runs.ensures c.requires.run in
    let edges = edges_are g.V.Level.levels level.lawful c.args.track.now function in
    let part = part_of_run g.V.Level.levels level.lawful c.args.track.now function c.args.stretch.first _ c.args.stretch.from c.args.stretch.to there c.requires.low c.requires.high c.requires.some in
    record {
      inside = c.requires.run;
      begun = omega (arith, c.requires.low, c.requires.some);
      lowest = lowest_on_part g.V.Level.levels level.lawful c.args.track.now function (breaks_in c.args.track.now) edges c.args.stretch.first _ c.args.stretch.from _ part;
    }

pub bounds-runs-run-in-loop-runs : goal.bounds-runs-run-in-loop-runs
bounds-runs-run-in-loop-runs g c =
    let level = g.met.V.Level g.world.𝓛 g.world.𝓜 g.world.𝓡 ((λ s x. x), (λ x. x), (λ x. x), λ x. x) in
    let run = some_run g.V.Level.levels level.lawful c.args.track.now c.known.ensures.track (c.loop-runs.run + 1) (omega (arith, c.loop-runs.invariant.inside))
    (omega (arith, c.edge.ensures.edge, c.loop-runs-test.true, c.requires.inside)) in
    omega (arith, run, ap length c.runs-runs.ensures)

pub bounds-runs-run-in-loop-runs-2 : goal.bounds-runs-run-in-loop-runs-2
bounds-runs-run-in-loop-runs-2 g c =
    let level = g.met.V.Level g.world.𝓛 g.world.𝓜 g.world.𝓡 ((λ s x. x), (λ x. x), (λ x. x), λ x. x) in
    let run = some_run g.V.Level.levels level.lawful c.args.track.now c.known.ensures.track (c.loop-runs.run + 1) (omega (arith, c.loop-runs.invariant.inside))
    (omega (arith, c.edge.ensures.edge, c.loop-runs-test.true, c.requires.inside)) in
    omega (arith, run, ap length c.runs-runs.ensures)

pub loop-runs-preserved : goal.loop-runs-preserved
loop-runs-preserved g c =
    let level = g.met.V.Level g.world.𝓛 g.world.𝓜 g.world.𝓡 ((λ s x. x), (λ x. x), (λ x. x), λ x. x) in
    let function = c.known.ensures.track in
    let l = c.loop-runs in
    let track = c.args.track.now in
    let to = c.args.stretch.to in
    let here = get_or (breaks_in track) (l.run + 1) 0 in
    let before : here < to = omega (arith, c.edge.ensures.edge, c.loop-runs-test.true) in
    let run = some_run g.V.Level.levels level.lawful track function (l.run + 1) (omega (arith, l.invariant.inside)) (omega (arith, before, c.requires.inside)) in
    let there = run_at c.runs-runs.result.now track.steps (l.run + 1) c.index-runs-run-in-loop-runs.result c.runs-runs.ensures run in
    let up = edges_rise g.V.Level.levels level.lawful track function (l.run + 1) run in
    let edges = edges_are g.V.Level.levels level.lawful track function in
    let part = part_of_run g.V.Level.levels level.lawful track function (l.run + 1) _ here to there (omega arith) up before in
    let second = lowest_on_part g.V.Level.levels level.lawful track function (breaks_in track) edges (l.run + 1) _ here _ part in
    let end = part_end g.V.Level.levels level.lawful track function (breaks_in track) edges (l.run + 1) _ here _ part in
    let least : min here to ≡ here = omega arith in
    let first : IsLowest g.V.Level.levels track c.args.stretch.from here l.least = subst (λ x. IsLowest g.V.Level.levels track c.args.stretch.from x l.least) least l.invariant.lowest in
    record {
      inside = run;
      begun = before;
      lowest = rw (c.lower-least.ensures) (lower_lowest g.V.Level.levels level.lawful track function c.args.stretch.from here _ l.least _ end first second);
    }

pub returns : goal.returns
returns g c =
    let l = c.loop-runs in
    let least : min (get_or (breaks_in c.args.track.now) (l.run + 1) 0) c.args.stretch.to ≡ c.args.stretch.to = omega (arith, c.edge.ensures.edge, c.loop-runs-test.false) in
    subst (λ x. IsLowest g.V.Level.levels c.args.track.now c.args.stretch.from x l.least) least l.invariant.lowest
