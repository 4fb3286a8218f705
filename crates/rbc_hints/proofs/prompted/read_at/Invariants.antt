use Rattle.std.specs.Prelude.{[]}
use Rattle.rbc_hints.specs.Help.{Passes}
use Rattle.rbc_hints.proofs.prompted.read_at.Given as goal

abbrev pub invariant-loop : goal.invariant-loop
invariant-loop g l = Passes (g.R.Read.remaining l.initial.reader) (g.R.Read.remaining l.reader) []
