use Rattle.std.proofs.Common.{◌≡◌, ◌-◌, ◌≤◌, [], length, take, drop, Some}
use Rattle.rbc_journal.specs.Gates.{lines_from, IsLine}
use Rattle.rbc_journal.proofs.lines.end_of_line.Given as goal

abbrev pub invariant-loop-at : goal.invariant-loop-at
invariant-loop-at l = record {
  read : lines_from (Some []) l.bytes ≡ lines_from (Some (take l.at l.bytes)) (drop l.at l.bytes);
  line : IsLine (take l.at l.bytes);
  within : l.at ≤ length l.bytes;
}

abbrev pub decreases-loop-at : goal.decreases-loop-at
decreases-loop-at l = length l.bytes - l.at
