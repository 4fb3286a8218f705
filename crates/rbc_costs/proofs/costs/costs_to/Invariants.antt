use Rattle.std.proofs.Common.{◌≡◌, ℕ, ◌*◌, ◌<◌, ◌≤◌, get_or}
use Rattle.rbc_model.specs.Scales.{unit_of}
use Rattle.rbc_table_laws.specs.Breaks.{IsLowest}
use Rattle.rbc_table_laws.specs.Stretches.{breaks_for, cost_of_step}
use Rattle.rbc_costs.specs.Stretches.{IsLostByFloor}
use Rattle.rbc_costs.proofs.costs.costs_to.Given as goal

abbrev pub invariant-loop-i : goal.invariant-loop-i
invariant-loop-i g l =
    let levels = g.V.Level.levels in
    let unit = unit_of l.track.end in
    let breaks = breaks_for unit l.track in
    IsLowest levels l.track (get_or breaks l.i 0) (get_or breaks l.to 0) l.least
    × IsLostByFloor levels l.track (get_or breaks l.i 0) (get_or breaks l.to 0) l.least l.lost
    × ((k : ℕ) → l.i ≤ k → k < l.to → get_or l.costs k 0 ≡ cost_of_step levels unit l.track k l.to)
    × ((k : ℕ) → l.i ≤ k → k < l.to → get_or l.costs k 0 ≤ get_or breaks l.to 0 * 1000000)
