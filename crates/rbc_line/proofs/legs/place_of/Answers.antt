use Rattle.std.proofs.Common.{◌∙◌, sym, eqb-true}
use Rattle.rbc_line.proofs.LegLemmas.{no_place, turned}
use Rattle.rbc_line.proofs.legs.place_of.Goals as goal

pub returns-else-eq-2-clause-place : goal.returns-else-eq-2-clause-place
returns-else-eq-2-clause-place c =
    let leg = c.leg-item.result in
    sym (no_place c.args.track.now c.args.legs.now c.loop-leg.leg-index c.loop-leg.begin leg c.args.group.now c.args.direction c.loop-leg-test.true c.leg-item.is c.loop-leg.invariant.differ
    (eqb-true leg.section c.args.group.now.section (sym c.eq.ensures ∙ c.if-eq.true)) (turned leg.direction c.args.direction c.eq-then-eq.result c.eq-then-eq.ensures c.if-eq-2.false))
    ∙ c.loop-leg.invariant.place
