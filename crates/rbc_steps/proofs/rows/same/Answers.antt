use Rattle.std.proofs.Common.{◌∙◌}
use Rattle.rbc_steps.proofs.OrderLemmas.{same_by_order}
use Rattle.rbc_steps.proofs.rows.same.Goals as goal

pub returns-clause-same : goal.returns-clause-same
returns-clause-same g c =
    let a = c.args.a in
    let b = c.args.b in
    let order = g.met.V.Ord g.world.𝓛 g.world.𝓜 g.world.𝓡 ((λ s x. x), (λ x. x), (λ x. x), λ x. x) in
    let level = g.met.V.Level g.world.𝓛 g.world.𝓜 g.world.𝓡 ((λ s x. x), (λ x. x), (λ x. x), λ x. x) in
    same_by_order (g.V.Ord.cmp a b) (g.V.Ord.cmp b a) c.eq.result _ _
    (c.eq.ensures ∙ order.matches_eq a b)
    (order.total.antisymm a b)
    (level.in_order a b c.known.ensures c.known-2.ensures)
    (level.in_order b a c.known-2.ensures c.known.ensures)
