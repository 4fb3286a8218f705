use Rattle.std.proofs.Common.{◌≤◌, arith}
use Rattle.rbc_steps.proofs.StretchLemmas.{still_small}
use Rattle.rbc_steps.proofs.rows.loss_over.Goals as goal

pub overflow_mul-result : goal.overflow_mul-result
overflow_mul-result g c =
    let level = g.met.V.Level g.world.𝓛 g.world.𝓜 g.world.𝓡 ((λ s x. x), (λ x. x), (λ x. x), λ x. x) in
    let cheap : c.price.result ≤ 1000000 = omega (arith, c.price.ensures, level.lawful.price_is_bounded c.args.track c.args.given c.known.ensures c.known-2.ensures c.requires.below) in
    omega (arith, c.from.ensures, still_small c.from.result c.price.result cheap)

pub returns-clause-bound : goal.returns-clause-bound
returns-clause-bound g c =
    let level = g.met.V.Level g.world.𝓛 g.world.𝓜 g.world.𝓡 ((λ s x. x), (λ x. x), (λ x. x), λ x. x) in
    let cheap : c.price.result ≤ 1000000 = omega (arith, c.price.ensures, level.lawful.price_is_bounded c.args.track c.args.given c.known.ensures c.known-2.ensures c.requires.below) in
    omega (arith, c.from.ensures, still_small c.from.result c.price.result cheap)
