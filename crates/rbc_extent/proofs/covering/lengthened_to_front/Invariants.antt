use Rattle.rbc_extent.proofs.CoveringLemmas.{IsGoingAhead}
use Rattle.rbc_extent.proofs.covering.lengthened_to_front.Given as goal

abbrev pub invariant-loop-added : goal.invariant-loop-added
invariant-loop-added l = IsGoingAhead l.locks l.group l.report l.fn.line l.sections l._added l.front l.course
