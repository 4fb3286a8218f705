use Rattle.std.proofs.Common.{get_or}
use Rattle.rbc_model.specs.Scales.{unit_of}
use Rattle.rbc_costs.specs.Stretches.{AreLowFrom}
use Rattle.rbc_costs.proofs.next.low_from.Given as goal

abbrev pub invariant-loop-stretch : goal.invariant-loop-stretch
invariant-loop-stretch g l = AreLowFrom g.V.Level.levels (unit_of l.track.end) l.track l.stretches l.stretch (λ k. get_or l.firsts k 0)
