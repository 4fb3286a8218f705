use Rattle.std.proofs.Common.{◌≡◌, ◌+◌, ◌-◌, ◌≤◌, ◌++◌, map, take, length, vec_len, vec_capacity}
use Rattle.rbc_steps.proofs.rows.extend_moved.Given as goal

abbrev pub invariant-loop-row : goal.invariant-loop-row
invariant-loop-row g l = record {
  items : l.rows.items ≡ l.initial.rows.items ++ map (λ row. (row.0 + l.by, row.1)) (take l.row-index l.later);
  room : vec_len l.rows + (length l.later - l.row-index) ≤ vec_capacity l.rows;
}
