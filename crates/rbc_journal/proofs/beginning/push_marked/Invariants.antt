use Rattle.std.proofs.Common.{◌≡◌, ◌++◌, length, map}
use Rattle.rbc_journal.specs.Gates.{text}
use Rattle.rbc_journal.specs.Sessions.{lines_of}
use Rattle.rbc_journal.specs.Marks.{marked}
use Rattle.rbc_journal.proofs.beginning.push_marked.Given as goal

abbrev pub invariant-loop-line : goal.invariant-loop-line
invariant-loop-line l = l.file.items ++ text (map marked (lines_of l.rest)) ≡ l.fn.file.items ++ text (map marked (lines_of l.beginning))

abbrev pub decreases-loop-line : goal.decreases-loop-line
decreases-loop-line l = length l.rest
