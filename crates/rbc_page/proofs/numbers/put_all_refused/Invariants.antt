use Rattle.std.proofs.Common.{◌≡◌, drop}
use Rattle.rbc_page.specs.Metrics.{with_all_refused}
use Rattle.rbc_page.proofs.numbers.put_all_refused.Given as goal

-- The reasons so far are written.
abbrev pub invariant-loop-reason : goal.invariant-loop-reason
invariant-loop-reason l = with_all_refused l.text.items (drop l.reason-index l.refused) ≡ with_all_refused l.initial.text.items l.refused
