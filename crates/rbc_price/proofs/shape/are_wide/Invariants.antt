use Rattle.std.proofs.Common.{◌≡◌, drop, length, ◌==◌}
use Rattle.std.specs.List.{list_all}
use Rattle.rbc_table_laws.specs.PriceRows.{prices_of}
use Rattle.rbc_price.proofs.shape.are_wide.Given as goal

abbrev pub invariant-loop-row : goal.invariant-loop-row
invariant-loop-row l =
    list_all (λ row. length row == l.width) (prices_of (drop l.row-index l.rows)) ≡ list_all (λ row. length row == l.width) (prices_of l.rows)
