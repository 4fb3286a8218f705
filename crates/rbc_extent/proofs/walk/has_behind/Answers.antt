use Rattle.std.proofs.Common.{sym, ◌∙◌}
use Rattle.rbc_extent.proofs.WalkLemmas.{behind-later}
use Rattle.rbc_extent.proofs.walk.has_behind.Goals as goal

pub loop-passed-preserved : goal.loop-passed-preserved
loop-passed-preserved c =
    behind-later c.args.locks.now c.args.section c.args.count c.loop-passed._passed c.loop-passed.first c.in-Some.prev c.loop-passed-test.true (sym c.in-Some.ensures) (sym c.eq.ensures ∙ c.if-eq.false) ∙ c.loop-passed.invariant
