use Rattle.std.proofs.Common.{◌≡◌, ◌+◌, ◌≤◌, length, drop}
use Rattle.rbc_journal.specs.Gates.{counted}
use Rattle.rbc_journal.specs.Journal.{told_of}
use Rattle.rbc_journal.proofs.told.next_told.Given as goal

abbrev pub invariant-loop-line : goal.invariant-loop-line
invariant-loop-line l = record {
  told : told_of (counted l.bytes) ≡ told_of (counted l.rest);
  rest : drop l.comments (counted l.bytes) ≡ counted l.rest;
  size : l.comments + length l.rest ≤ length l.bytes;
}

abbrev pub decreases-loop-line : goal.decreases-loop-line
decreases-loop-line l = length l.rest
