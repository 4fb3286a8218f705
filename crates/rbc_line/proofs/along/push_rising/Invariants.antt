use Rattle.std.proofs.Common.{ℕ, ◌+◌, ◌-◌, min, Option}
use Rattle.rbc_model.specs.declared.places.Direction.TheVariants.{Rising}
use Rattle.rbc_line.specs.Along.{Tells}
use Rattle.rbc_line.proofs.AlongLemmas.{AreMetRising, IsNextRising}
use Rattle.rbc_line.proofs.along.push_rising.Given as goal

abbrev pub invariant-loop-index : goal.invariant-loop-index
invariant-loop-index g l = record {
  next : IsNextRising l.runs l.low l.high l.index l.reached;
  tells : (level : ℕ → Option g.row.V.Denot) → Tells l.initial.rows.items l.told level → AreMetRising l.runs l.low l.high l.told (g.V.TrackLevel.met Rising) level
      → Tells l.rows.items (l.told + (min l.reached l.high - l.low)) level;
}
