use Rattle.rbc_extent.proofs.CoveringLemmas.{IsGoingBack}
use Rattle.rbc_extent.proofs.covering.lengthened_to_rear.Given as goal

abbrev pub invariant-loop-added : goal.invariant-loop-added
invariant-loop-added l = IsGoingBack l.locks l.group l.report l.fn.line l.sections l._added l.origin l.course
