use Rattle.std.proofs.Common.{◌+◌, ◌-◌, ◌<◌, min, length, get_or}
use Rattle.rbc_table_laws.specs.Breaks.{breaks_in, IsLowest}
use Rattle.rbc_stretches.proofs.prices.least_on.Given as goal

abbrev pub invariant-loop-runs : goal.invariant-loop-runs
invariant-loop-runs g l = record {
  inside : l.run < length l.track.steps;
  begun : get_or (breaks_in l.track) l.run 0 < l.stretch.to;
  lowest : IsLowest g.V.Level.levels l.track l.stretch.from (min (get_or (breaks_in l.track) (l.run + 1) 0) l.stretch.to) l.least;
}

abbrev pub decreases-loop-runs : goal.decreases-loop-runs
decreases-loop-runs g l = length l.track.steps - l.run
