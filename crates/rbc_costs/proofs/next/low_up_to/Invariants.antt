use Rattle.std.proofs.Common.{◌+◌, ◌≤◌, get_or}
use Rattle.rbc_model.specs.Scales.{unit_of}
use Rattle.rbc_table_laws.specs.Breaks.{IsLowest}
use Rattle.rbc_table_laws.specs.Stretches.{breaks_for}
use Rattle.rbc_costs.proofs.next.low_up_to.Given as goal

abbrev pub invariant-loop-first : goal.invariant-loop-first
invariant-loop-first g l =
    let breaks = breaks_for (unit_of l.track.end) l.track in
    record {
      inside : l.first ≤ l.stretch;
      lowest : IsLowest g.V.Level.levels l.track (get_or breaks l.first 0) (get_or breaks (l.stretch + 1) 0) l.least;
    }

abbrev pub decreases-loop-first : goal.decreases-loop-first
decreases-loop-first g l = l.first
