use Rattle.std.proofs.Common.{◌≡◌, ℕ, suc, ◌+◌, ◌<◌, ◌≤◌, length}
use Rattle.rbc_model.specs.Scales.{unit_of}
use Rattle.rbc_table_laws.specs.Stretches.{cost_of_step}
use Rattle.rbc_reduce.specs.Rows.{IsPriceMore, row_in}
use Rattle.rbc_reduce.proofs.TileLemmas.{column_of}
use Rattle.rbc_reduce.proofs.tiles.add_begun.Given as goal

abbrev pub invariant-loop-row : goal.invariant-loop-row
invariant-loop-row g l =
    let number = g.N.Total.number in
    let old = row_in number l.fn.rows.items in
    let cost = cost_of_step g.V.Level.levels (unit_of l.track.end) l.track in
    record {
      size : length l.rows.items ≡ length l.fn.rows.items;
      some : 1 ≤ l.row;
      before : (j : ℕ) → j < l.row → row_in number l.rows.items j ≡ old j;
      later : (j : ℕ) → l.row ≤ suc j → suc j < length l.fn.rows.items → IsPriceMore (column_of cost (l.begun.cut + length l.costs)) old (row_in number l.rows.items) j;
    }
