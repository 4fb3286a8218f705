use Rattle.rbc_extent.proofs.JudgeLemmas.{IsOnFrom}
use Rattle.rbc_extent.proofs.judge.has_front.Given as goal

abbrev pub invariant-loop-added : goal.invariant-loop-added
invariant-loop-added l = IsOnFrom l.fn.group l.fn.report l.fn.walk l.front l._added-end l._added l.walk
