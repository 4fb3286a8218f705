use Rattle.std.proofs.Common.{◌≡◌, ◌≤◌, replicate}
use Rattle.rbc_group_commit.proofs.group_commit.committers_with.Given as goal

abbrev pub invariant-loop-committer : goal.invariant-loop-committer
invariant-loop-committer g l = (l.committers.items ≡ replicate l._committer l.mark) × (l.count ≤ l.committers.cap)
