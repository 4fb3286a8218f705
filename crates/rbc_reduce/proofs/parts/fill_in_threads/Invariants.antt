use Rattle.std.proofs.Common.{◌≡◌, ◌-◌, ◌≤◌, length}
use Rattle.rbc_model.specs.Scales.{unit_of}
use Rattle.rbc_table_laws.specs.Stretches.{cost_of_step}
use Rattle.rbc_reduce.specs.Rows.{AreFilled, row_in}
use Rattle.rbc_reduce.proofs.parts.fill_in_threads.Given as goal

abbrev pub invariant-loop-known : goal.invariant-loop-known
invariant-loop-known g l =
    record {
      inside : l.known ≤ length l.stretches;
      count : length l.rows.items ≡ length l.fn.rows.items;
      filled : AreFilled (cost_of_step g.V.Level.levels (unit_of l.track.end) l.track) (length l.fn.rows.items) (row_in g.N.Total.number l.rows.items) l.known;
    }

abbrev pub decreases-loop-known : goal.decreases-loop-known
decreases-loop-known g l = length l.stretches - l.known
