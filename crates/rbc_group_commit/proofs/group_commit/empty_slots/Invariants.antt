use Rattle.std.proofs.Common.{◌≡◌, ◌≤◌, None, replicate}
use Rattle.rbc_group_commit.proofs.group_commit.empty_slots.Given as goal

abbrev pub invariant-loop-slot : goal.invariant-loop-slot
invariant-loop-slot g l = (l.slots.items ≡ replicate l._slot None) × (l.count ≤ l.slots.cap)
