use Rattle.rbc_extent.proofs.JudgeLemmas.{IsGoingTo}
use Rattle.rbc_extent.proofs.judge.goes_to.Given as goal

abbrev pub invariant-loop-added : goal.invariant-loop-added
invariant-loop-added l = IsGoingTo l.fn.leg l.fn.walk l._added-end l._added l.walk
