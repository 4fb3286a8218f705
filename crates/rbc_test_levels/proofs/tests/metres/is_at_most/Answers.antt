use Rattle.rbc_test_levels.proofs.tests.metres.is_at_most.Goals as goal

pub returns : goal.returns
returns g c =
    let order = g.met.V.Ord g.world.𝓛 g.world.𝓜 g.world.𝓡 ((λ s x. x), (λ x. x), (λ x. x), λ x. x) in
    let level = g.met.V.Level g.world.𝓛 g.world.𝓜 g.world.𝓡 ((λ s x. x), (λ x. x), (λ x. x), λ x. x) in
    let same = order.matches_partial_cmp c.args.a c.args.b in
    let there = level.in_order c.args.a c.args.b c.known.ensures c.known-2.ensures in
    rw (c.le.ensures, same) there
