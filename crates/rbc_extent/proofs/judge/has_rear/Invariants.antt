use Rattle.rbc_extent.proofs.JudgeLemmas.{IsBackFrom}
use Rattle.rbc_extent.proofs.judge.has_rear.Given as goal

abbrev pub invariant-loop-added : goal.invariant-loop-added
invariant-loop-added l = IsBackFrom l.fn.group l.fn.report l.fn.walk l.fn.beyond l._added-end l._added l.walk
