use Rattle.std.proofs.Common.{◌≡◌, ◌+◌, ◌*◌, ◌≤◌, false}
use Rattle.rbc_group_commit.specs.declared.page.TheConstants.{LONGEST_WITH_NOTE, ROOM}
use Rattle.rbc_group_commit.proofs.waiting_lines.WaitingLines.hand_over.Given as goal

abbrev pub invariant-loop-line : goal.invariant-loop-line
invariant-loop-line g l =
    (l.page.next ≡ l.initial.page.next + l._line)
    × (l.page.has_failed ≡ false → ROOM ≤ l.page.room + l._line * LONGEST_WITH_NOTE)
