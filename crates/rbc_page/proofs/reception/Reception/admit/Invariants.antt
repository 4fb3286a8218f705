use Rattle.std.proofs.Common.{◌≡◌}
use Rattle.rbc_page.proofs.reception.Reception.admit.Given as goal

-- The lookout stays as it is.
abbrev pub invariant-loop : goal.invariant-loop
invariant-loop g l = l.self.lookout ≡ l.fn.self.lookout
