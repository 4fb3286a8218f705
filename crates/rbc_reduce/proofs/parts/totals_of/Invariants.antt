use Rattle.std.proofs.Common.{◌≡◌, map, take}
use Rattle.rbc_reduce.proofs.parts.totals_of.Given as goal

abbrev pub invariant-loop-number : goal.invariant-loop-number
invariant-loop-number g l = map g.N.Total.number l.totals.items ≡ take l.number-index l.numbers
