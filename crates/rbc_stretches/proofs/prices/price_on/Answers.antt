use Rattle.std.proofs.Common.{arith, ap, sym, length, ◌≡◌, ◌∙◌, ◌+◌, ◌-◌, ◌*◌, ◌<◌, ◌≤◌, min, get_or}
use Rattle.rbc_table_laws.specs.Breaks.{breaks_in, lost_below}
use Rattle.rbc_table_laws.proofs.TrackBreakLemmas.{run_at}
use Rattle.rbc_table_laws.proofs.StretchLemmas.{part_priced, below_part, value_there}
use Rattle.rbc_stretches.proofs.StandingLemmas.{edges_are, edges_rise, some_run, part_of_run}
use Rattle.rbc_stretches.proofs.prices.price_on.Given.{Over}
use Rattle.rbc_stretches.proofs.prices.price_on.Goals as goal
use Rattle.rbc_stretches.proofs.prices.price_on.Goals.{After-price}

-- what is lost on it
record IsPriced (g : Over) (c : After-price g) : Type 0 where
  to : c.min-to.result ≡ min (get_or (breaks_in c.args.track.now) (c.loop-from.run + 1) 0) c.args.stretch.to
  lost : lost_below g.V.Level.levels c.args.track.now c.args.given c.loop-from.from + c.from.result * c.price.result ≡ lost_below g.V.Level.levels c.args.track.now c.args.given c.min-to.result
  bound : c.loop-from.from * 1000000 + c.from.result * c.price.result ≤ c.min-to.result * 1000000

priced_here : (g : Over) (c : After-price g) → IsPriced g c
priced_here g c =
    let level = g.met.V.Level g.world.𝓛 g.world.𝓜 g.world.𝓡 ((λ s x. x), (λ x. x), (λ x. x), λ x. x) in
    let l = c.loop-from in
    let track = c.args.track.now in
    let function = c.known.ensures.track in
    let edges = edges_are g.V.Level.levels level.lawful track function in
    let run = get_or c.runs-runs.result.now l.run c.index-runs-run.result in
    let stop = min (get_or (breaks_in track) (l.run + 1) 0) c.args.stretch.to in
    let there = run_at c.runs-runs.result.now track.steps l.run c.index-runs-run.result c.runs-runs.ensures (l.invariant.run c.loop-from-test.true) in
    let part = part_of_run g.V.Level.levels level.lawful track function l.run run l.from c.args.stretch.to there (l.invariant.low c.loop-from-test.true) (l.invariant.high c.loop-from-test.true) c.loop-from-test.true in
    let to : c.min-to.result ≡ stop = c.min-to.ensures ∙ ap (λ x. min x c.args.stretch.to) c.edge.ensures.edge in
    let below = below_part g.V.Level.levels level.lawful track function c.args.stretch.from c.args.stretch.to l.from stop c.args.given l.invariant.begun (omega arith) c.requires.below in
    let priced = part_priced g.V.Level.levels level.lawful track function (breaks_in track) edges l.run run l.from stop part c.args.given c.requires.given_in_range below
    c.from.result c.price.result (c.from.ensures ∙ ap (λ x. x - l.from) to) c.price.ensures in
    record {
      to = to;
      lost = priced.0 ∙ ap (λ x. lost_below g.V.Level.levels track c.args.given x) (sym to);
      bound = omega (arith, to, priced.1);
    }

pub price-requires : goal.price-requires
price-requires g c =
    let level = g.met.V.Level g.world.𝓛 g.world.𝓜 g.world.𝓡 ((λ s x. x), (λ x. x), (λ x. x), λ x. x) in
    let l = c.loop-from in
    let track = c.args.track.now in
    let function = c.known.ensures.track in
    let there = run_at c.runs-runs.result.now track.steps l.run c.index-runs-run.result c.runs-runs.ensures (l.invariant.run c.loop-from-test.true) in
    let part = part_of_run g.V.Level.levels level.lawful track function l.run _ l.from c.args.stretch.to there (l.invariant.low c.loop-from-test.true) (l.invariant.high c.loop-from-test.true) c.loop-from-test.true in
    let some = part.some in
    c.requires.below l.from _ l.invariant.begun c.loop-from-test.true
    (value_there g.V.Level.levels level.lawful track function (breaks_in track) (edges_are g.V.Level.levels level.lawful track function) l.run _ l.from _ part l.from (omega arith) some)

pub overflow_mul-price : goal.overflow_mul-price
overflow_mul-price g c =
    let p = priced_here g (goal.at.overflow_mul-price g c).After-price in
    let limit = c.known.ensures.within_limit in
    omega (arith, p.bound, p.to, c.requires.stretch.inside)

pub overflow_add-price : goal.overflow_add-price
overflow_add-price g c =
    let p = priced_here g (goal.at.overflow_add-price g c).After-price in
    let limit = c.known.ensures.within_limit in
    omega (arith, p.bound, p.to, c.requires.stretch.inside, c.loop-from.invariant.bound)

pub overflow_add-run-in-loop-from : goal.overflow_add-run-in-loop-from
overflow_add-run-in-loop-from g c =
    let inside = c.loop-from.invariant.run c.loop-from-test.true in
    omega (arith, inside, ap length c.runs-runs.ensures, c.runs-runs.type_inv)

pub loop-from-preserved : goal.loop-from-preserved
loop-from-preserved g c =
    let level = g.met.V.Level g.world.𝓛 g.world.𝓜 g.world.𝓡 ((λ s x. x), (λ x. x), (λ x. x), λ x. x) in
    let l = c.loop-from in
    let track = c.args.track.now in
    let function = c.known.ensures.track in
    let more = c.loop-from-test.true in
    let p = priced_here g (goal.at.loop-from-preserved g c).After-price in
    let high = l.invariant.high more in
    let inside = l.invariant.run more in
    let to = p.to in
    let next : c.min-to.result < c.args.stretch.to → l.run + 1 < length track.steps =
    λ h. some_run g.V.Level.levels level.lawful track function (l.run + 1) (omega (arith, inside)) (omega (arith, h, to, c.requires.stretch.inside)) in
    record {
      begun = omega (arith, high, more, to, l.invariant.begun);
      up_to = omega (arith, to);
      run = next;
      low = λ h. omega (arith, h, to);
      high = λ h. let up = edges_rise g.V.Level.levels level.lawful track function (l.run + 1) (next h) in omega (arith, h, to, up);
      lost = omega (arith, p.lost, l.invariant.lost);
      bound = omega (arith, p.bound, l.invariant.bound);
    }
