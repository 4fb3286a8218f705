use Rattle.std.proofs.Common.{sym, ◌∙◌}
use Rattle.rbc_extent.proofs.WalkLemmas.{ahead-later}
use Rattle.rbc_extent.proofs.walk.has_ahead.Goals as goal

pub loop-passed-preserved : goal.loop-passed-preserved
loop-passed-preserved c =
    ahead-later c.args.locks.now c.args.section c.args.count c.loop-passed._passed c.loop-passed.last c.in-Some.next c.loop-passed-test.true (sym c.in-Some.ensures) (sym c.eq.ensures ∙ c.if-eq.false) ∙ c.loop-passed.invariant
