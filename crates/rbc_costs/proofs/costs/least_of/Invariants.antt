use Rattle.std.proofs.Common.{◌≤◌, get_or}
use Rattle.rbc_model.specs.Scales.{unit_of}
use Rattle.rbc_table_laws.specs.Breaks.{IsLowest}
use Rattle.rbc_table_laws.specs.Stretches.{breaks_for}
use Rattle.rbc_costs.proofs.costs.least_of.Given as goal

abbrev pub invariant-loop-i : goal.invariant-loop-i
invariant-loop-i g l =
    let breaks = breaks_for (unit_of l.track.end) l.track in
    (l.from ≤ l.i) × IsLowest g.V.Level.levels l.track (get_or breaks l.i 0) (get_or breaks l.to 0) l.least
