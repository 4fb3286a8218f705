use Rattle.std.proofs.Common.{◌≡◌, ℕ, ◌<◌, length, get_or}
use Rattle.rbc_model.specs.Scales.{unit_of}
use Rattle.rbc_table_laws.specs.Stretches.{cost_of_step}
use Rattle.rbc_reduce.specs.Rows.{AreFilled, row_in}
use Rattle.rbc_reduce.proofs.fill.fill_rows.Given as goal

abbrev pub invariant-loop-last : goal.invariant-loop-last
invariant-loop-last g l =
    let cost = cost_of_step g.V.Level.levels (unit_of l.track.end) l.track in
    record {
      room : length l.costs ≡ 16;
      count : length l.rows.items ≡ length l.fn.rows.items;
      costs : (i : ℕ) → i < l.last → get_or l.costs i 0 ≡ cost i l.last;
      filled : AreFilled cost (length l.fn.rows.items) (row_in (λ n. n) l.rows.items) l.last;
    }
