use Rattle.rbc_extent.proofs.JudgeLemmas.{IsDropping}
use Rattle.rbc_extent.proofs.judge.drop_legs_behind.Given as goal

abbrev pub invariant-loop-dropped : goal.invariant-loop-dropped
invariant-loop-dropped l = IsDropping l.fn.told l.fn.walk l.fn.rear l._dropped-end l._dropped l.left l.walk
