use Rattle.std.proofs.Common.{arith}
use Rattle.rbc_line.proofs.SectionSetLemmas.{all_below}
use Rattle.rbc_line.proofs.section_set.SectionSet.of.Goals as goal

pub insert-requires : goal.insert-requires
insert-requires c =
    let low = all_below c.args.line.now.track c.args.line.now.legs c.legs-legs.result.now c.loop-leg.leg-index c.leg-item.result c.known.ensures.line c.legs-legs.ensures.legs c.loop-leg-test.true c.leg-item.is in
    omega (arith, low, c.loop-leg.invariant.size)
