use Rattle.std.proofs.Common.{take}
use Rattle.rbc_table_laws.specs.PriceRows.{prices_of}
use Rattle.rbc_price.specs.Totals.{AreTotals}
use Rattle.rbc_price.proofs.sound.rows_of.Given as goal

abbrev pub invariant-loop-row : goal.invariant-loop-row
invariant-loop-row g l = AreTotals g.N.Total.number g.N.Total.most (prices_of (take l.row-index l.rows)) l.table.items
