use Rattle.std.proofs.Common.{◌≡◌, ℕ, ◌-◌, ◌<◌, ◌≤◌, Some, get_or, map}
use Rattle.std.specs.List.{slice_get}
use Rattle.rbc_model.specs.Scales.{unit_of}
use Rattle.rbc_table_laws.specs.Stretches.{breaks_for, cost_of_step}
use Rattle.rbc_stretches.specs.declared.stretch.Stretch.{Stretch}
use Rattle.rbc_costs.specs.Stretches.{IsLostByFloor}
use Rattle.rbc_costs.proofs.next.write_level.Given as goal

abbrev pub invariant-loop-i : goal.invariant-loop-i
invariant-loop-i g l =
    let levels = g.V.Level.levels in
    let unit = unit_of l.track.end in
    let breaks = breaks_for unit l.track in
    record {
      low : l.first ≤ l.i;
      lost : (last : Stretch × g.row.V.Denot) → slice_get l.stretches (l.to - 1) ≡ Some last → IsLostByFloor levels l.track (get_or breaks l.i 0) (get_or breaks l.to 0) last.1 l.price;
      written : (k : ℕ) → l.i ≤ k → k < l.to → get_or (map g.N.Total.number l.costs) k 0 ≡ cost_of_step levels unit l.track k l.to;
    }
