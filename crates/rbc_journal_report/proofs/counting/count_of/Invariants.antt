use Rattle.std.proofs.Common.{◌≡◌, ◌+◌, length}
use Rattle.rbc_journal.specs.Gates.{counted}
use Rattle.rbc_journal.specs.Journal.{told_of}
use Rattle.rbc_journal_report.specs.Telling.{count_of}
use Rattle.rbc_journal_report.proofs.counting.count_of.Given as goal

abbrev pub invariant-loop-line : goal.invariant-loop-line
invariant-loop-line l = record {
  all : l.count + count_of l.kind (told_of (counted l.rest)) ≡ count_of l.kind (told_of (counted l.text));
}

abbrev pub decreases-loop-line : goal.decreases-loop-line
decreases-loop-line l = length (told_of (counted l.rest))
