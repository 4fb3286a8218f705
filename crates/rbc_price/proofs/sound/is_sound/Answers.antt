use Rattle.std.proofs.Common.{arith, ◌*◌, ◌<◌, ◌≤◌, ℕ, lit≤}
use Rattle.rbc_model.specs.Scales.{unit_of}
use Rattle.rbc_table_laws.specs.Stretches.{cost_of_step}
use Rattle.rbc_costs.specs.Prices.{ArePricesAtMost}
use Rattle.rbc_costs.proofs.CostLemmas.{costs_bounded}
use Rattle.rbc_price.specs.Columns.{stretches_of}
use Rattle.rbc_price.proofs.ColumnLemmas.{are_breaks}
use Rattle.rbc_price.proofs.sound.is_sound.Given.{Over}
use Rattle.rbc_price.proofs.sound.is_sound.Goals as goal
use Rattle.rbc_price.proofs.sound.is_sound.Goals.{After-is_low}

-- what a step costs, where no price is above so much
cheap_here : (g : Over) (c : After-is_low g) (most total : ℕ) → ArePricesAtMost g.V.Level.levels most → 100000 * most ≤ total → (i to : ℕ) → i < to → to ≤ stretches_of c.args.track.now
    → cost_of_step g.V.Level.levels (unit_of c.args.track.now.end) c.args.track.now i to ≤ total
cheap_here g c most total low room i to h inside =
    let level = g.met.V.Level g.world.𝓛 g.world.𝓜 g.world.𝓡 ((λ s x. x), (λ x. x), (λ x. x), λ x. x) in
    let breaks = are_breaks g.V.Level.levels level.lawful c.args.track.now c.known.ensures.track c.requires.whole in
    costs_bounded g.V.Level.levels level.lawful c.args.track.now c.known.ensures.track most low (unit_of c.args.track.now.end) breaks c.known.ensures.within_limit total room i to h (omega (arith, h))

pub is_sound_in-requires-clause-small : goal.is_sound_in-requires-clause-small
is_sound_in-requires-clause-small g c κs within =
    cheap_here g (goal.at.is_sound_in-requires-clause-small g c).After-is_low 20000 2000000000 (c.is_low.ensures c.if-is_low.true) (lit≤ tt)

pub is_sound_in-requires-2-clause-small : goal.is_sound_in-requires-2-clause-small
is_sound_in-requires-2-clause-small g c κs within =
    let level = g.met.V.Level g.world.𝓛 g.world.𝓜 g.world.𝓡 ((λ s x. x), (λ x. x), (λ x. x), λ x. x) in
    cheap_here g (goal.at.is_sound_in-requires-2-clause-small g c).After-is_low 1000000 100000000000 level.lawful.price_is_bounded (lit≤ tt)
