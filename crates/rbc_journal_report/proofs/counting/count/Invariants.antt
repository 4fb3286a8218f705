use Rattle.std.proofs.Common.{◌≡◌, ◌+◌, length}
use Rattle.rbc_journal.specs.Gates.{counted}
use Rattle.rbc_journal.specs.Journal.{told_of}
use Rattle.rbc_journal_report.proofs.counting.count.Given as goal

abbrev pub invariant-loop-after : goal.invariant-loop-after
invariant-loop-after l = record {
  all : l.count + length (told_of (counted l.rest)) ≡ length (told_of (counted l.text));
}

abbrev pub decreases-loop-after : goal.decreases-loop-after
decreases-loop-after l = length (told_of (counted l.rest))
