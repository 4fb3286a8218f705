use Rattle.std.proofs.Common.{◌≡◌, ℕ, ◌-◌, ◌<◌, ◌≤◌, Some, get_or, map}
use Rattle.std.specs.List.{slice_get}
use Rattle.rbc_model.specs.Scales.{unit_of}
use Rattle.rbc_table_laws.specs.Stretches.{cost_of_step}
use Rattle.rbc_stretches.specs.declared.stretch.Stretch.{Stretch}
use Rattle.rbc_costs.proofs.LowFromLemmas.{IsAhead}
use Rattle.rbc_costs.proofs.next.next_costs.Given as goal

abbrev pub invariant-loop-end : goal.invariant-loop-end
invariant-loop-end g l =
    let levels = g.V.Level.levels in
    let unit = unit_of l.track.end in
    record {
      inside : l.end ≤ l.to - 1;
      ahead : (last : Stretch × g.row.V.Denot) → slice_get l.stretches (l.to - 1) ≡ Some last → IsAhead levels unit l.track l.stretches l.end l.to last.1;
      written : (k : ℕ) → l.end ≤ k → k < l.to → get_or (map g.N.Total.number l.costs) k 0 ≡ cost_of_step levels unit l.track k l.to;
    }

abbrev pub decreases-loop-end : goal.decreases-loop-end
decreases-loop-end g l = l.end
