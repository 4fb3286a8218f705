use Rattle.std.proofs.Common.{◌≡◌, ℕ, ◌+◌, ◌<◌, Some, length}
use Rattle.std.specs.List.{slice_get}
use Rattle.std.specs.Global.{Vec}
use Rattle.rbc_reduce.specs.Tiles.{ArePricesOf}
use Rattle.rbc_reduce.proofs.tiles.begin_four.Given as goal

abbrev pub invariant-loop-row : goal.invariant-loop-row
invariant-loop-row g l =
    record {
      count : length l.group.items ≡ l.row;
      prices : (k : ℕ) (column : Vec g.row.N.Denot) → k < 4 → slice_get l.columns (1 + k) ≡ Some column → ArePricesOf g.N.Total.number l.rows column.items k l.group.items;
    }
