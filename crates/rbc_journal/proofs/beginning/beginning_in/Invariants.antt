use Rattle.std.proofs.Common.{◌≡◌, ◌++◌, length}
use Rattle.rbc_journal.specs.Gates.{counted}
use Rattle.rbc_journal.specs.Marks.{marked_front}
use Rattle.rbc_journal.specs.Beginnings.{beginning_of, joined}
use Rattle.rbc_journal.proofs.beginning.beginning_in.Given as goal

abbrev pub invariant-loop-line : goal.invariant-loop-line
invariant-loop-line l = l.found.items ++ joined (marked_front (counted l.rest)) ≡ joined (beginning_of (counted l.text))

abbrev pub decreases-loop-line : goal.decreases-loop-line
decreases-loop-line l = length l.rest
