use Rattle.std.proofs.Common.{◌≤◌, length}
use Rattle.rbc_journal.specs.Gates.{counted}
use Rattle.rbc_journal.specs.Journal.{told_of}
use Rattle.rbc_commands.proofs.journal_close.count_told.Given as goal

abbrev pub invariant-loop-comments : goal.invariant-loop-comments
invariant-loop-comments l = record {
  fewer : length (told_of (counted l.rest)) ≤ length (told_of (counted l.text));
}

abbrev pub decreases-loop-comments : goal.decreases-loop-comments
decreases-loop-comments l = length (told_of (counted l.rest))
