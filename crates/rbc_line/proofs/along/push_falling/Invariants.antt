use Rattle.std.proofs.Common.{ℕ, ◌+◌, ◌-◌, max, Option}
use Rattle.rbc_model.specs.declared.places.Direction.TheVariants.{Falling}
use Rattle.rbc_line.specs.Along.{Tells}
use Rattle.rbc_line.proofs.AlongLemmas.{AreMetFalling, AreMetFrom}
use Rattle.rbc_line.proofs.along.push_falling.Given as goal

abbrev pub invariant-loop-index : goal.invariant-loop-index
invariant-loop-index g l = record {
  met : AreMetFrom l.runs l.high l.index l.reached;
  tells : (level : ℕ → Option g.row.V.Denot) → Tells l.initial.rows.items l.told level → AreMetFalling l.runs l.low l.high l.told (g.V.TrackLevel.met Falling) level
      → Tells l.rows.items (l.told + (l.high - max l.reached l.low)) level;
}
