use Rattle.std.proofs.Common.{◌≡◌, ◌≤◌, length}
use Rattle.rbc_model.specs.PriceTables.{stretch_count}
use Rattle.rbc_model.specs.Scales.{unit_of}
use Rattle.rbc_table_laws.specs.Tracebacks.{IsOnWay, IsTracedTo}
use Rattle.rbc_table_laws.specs.PriceRows.{prices_of}
use Rattle.rbc_reduce.proofs.traceback.read_off.Given as goal

abbrev pub invariant-loop-before : goal.invariant-loop-before
invariant-loop-before g l =
    let levels = g.V.Level.levels in
    let unit = unit_of l.track.end in
    (length l.stretches ≤ length l.costs)
    × (l.to ≤ length l.stretches)
    × IsTracedTo levels unit l.limit l.track.end l.track.steps (prices_of l.rows) l.count (stretch_count levels unit l.limit l.track.end l.track.steps) l.steps.items l.before l.to
    × IsOnWay levels unit l.limit l.track.end l.track.steps (prices_of l.rows) l.before l.to
