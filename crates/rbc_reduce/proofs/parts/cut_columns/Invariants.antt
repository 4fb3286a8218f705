use Rattle.std.proofs.Common.{◌≡◌, ℕ, ◌+◌, Some, length, map}
use Rattle.std.specs.List.{slice_get}
use Rattle.std.specs.Global.{Vec}
use Rattle.rbc_costs.specs.Stretches.{AreCosts}
use Rattle.rbc_reduce.specs.Tiles.{AreCut}
use Rattle.rbc_reduce.proofs.parts.cut_columns.Given as goal

abbrev pub invariant-loop-column : goal.invariant-loop-column
invariant-loop-column g l =
    let number = g.N.Total.number in
    record {
      count : length l.kept.items + 1 ≡ l.column;
      each : (k : ℕ) (part : Vec g.row.N.Denot) → slice_get l.kept.items k ≡ Some part → (cost : ℕ → ℕ → ℕ) (column : Vec g.row.N.Denot) → slice_get l.columns (k + 1) ≡ Some column
          → AreCosts cost (map number column.items) → AreCut cost l.cut (length column.items) (map number part.items);
    }
