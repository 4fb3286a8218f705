use Rattle.std.proofs.Common.{◌≡◌, ◌-◌, ◌≤◌, length, map}
use Rattle.rbc_model.specs.Scales.{unit_of}
use Rattle.rbc_table_laws.specs.Stretches.{cost_of_step}
use Rattle.rbc_reduce.specs.Rows.{AreFilled, row_in}
use Rattle.rbc_costs.specs.Stretches.{AreCosts}
use Rattle.rbc_reduce.proofs.tiles.fill_by_fours.Given as goal

abbrev pub invariant-loop-alloc : goal.invariant-loop-alloc
invariant-loop-alloc g l =
    let cost = cost_of_step g.V.Level.levels (unit_of l.track.end) l.track in
    record {
      inside : length l.before.items ≤ length l.stretches;
      costs : AreCosts cost (map g.N.Total.number l.before.items);
      count : length l.rows.items ≡ length l.fn.rows.items;
      filled : AreFilled cost (length l.fn.rows.items) (row_in g.N.Total.number l.rows.items) (length l.before.items);
    }

abbrev pub decreases-loop-alloc : goal.decreases-loop-alloc
decreases-loop-alloc g l = length l.stretches - length l.before.items
