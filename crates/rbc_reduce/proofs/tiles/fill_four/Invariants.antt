use Rattle.std.proofs.Common.{◌≡◌, ℕ, ◌+◌, ◌-◌, ◌<◌, ◌≤◌, length}
use Rattle.rbc_model.specs.Scales.{unit_of}
use Rattle.rbc_table_laws.specs.Stretches.{cost_of_step}
use Rattle.rbc_reduce.specs.Rows.{AreFilled, price_up_to, row_in}
use Rattle.rbc_reduce.proofs.tiles.fill_four.Given as goal

abbrev pub invariant-loop-column : goal.invariant-loop-column
invariant-loop-column g l =
    let number = g.N.Total.number in
    record {
      some : 1 ≤ l.column;
      count : length l.rows.items ≡ length l.fn.rows.items;
      filled : AreFilled (cost_of_step g.V.Level.levels (unit_of l.track.end) l.track) (length l.fn.rows.items) (row_in number l.rows.items) (l.known + (l.column - 1));
      kept : (j i : ℕ) → j < length l.fn.rows.items → i ≤ l.known → price_up_to (row_in number l.rows.items j) i ≡ price_up_to (row_in number l.fn.rows.items j) i;
    }
