use Rattle.rbc_model.specs.Lines.{has_leg}
use Rattle.rbc_model.specs.Locks.{longer_ahead}
use Rattle.rbc_extent.proofs.CoveringLemmas.{IsLengthening}
use Rattle.rbc_extent.proofs.covering.continued_to.Given as goal

abbrev pub invariant-loop-added : goal.invariant-loop-added
invariant-loop-added l = IsLengthening (longer_ahead l.locks) (λ line. has_leg line l.leg) l.fn.line l.sections l._added l.course
