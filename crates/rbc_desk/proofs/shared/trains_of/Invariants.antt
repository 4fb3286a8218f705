use Rattle.std.proofs.Common.{◌≡◌, ◌++◌, map}
use Rattle.rbc_snap.specs.BookEntries.{number_on}
use Rattle.rbc_desk.specs.Trains.{numbers_of}
use Rattle.rbc_desk.proofs.shared.trains_of.Given as goal

abbrev pub invariant-loop-train : goal.invariant-loop-train
invariant-loop-train l = l.numbers.items ++ map number_on l.train-iterator ≡ numbers_of l.log
