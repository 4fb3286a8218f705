use Rattle.std.proofs.Common.{◌≡◌, ◌++◌}
use Rattle.rbc_book.proofs.book.copy_of.Given as goal

abbrev pub invariant-loop-number : goal.invariant-loop-number
invariant-loop-number l = l.copy.entries ++ l.number-iterator ≡ l.trains.entries
