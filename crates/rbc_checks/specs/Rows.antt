-- The rows of a block, as the definitions have them.
use Rattle.std.specs.Prelude.{ℕ, ◌+◌, ◌==◌, if◌then◌else◌, List, [], ◌∷◌, ◌++◌, Option, Some, None}
use Rattle.std.specs.Global.{Vec}
use Rattle.rbc_model.specs.CheckText.{CheckLine, PriceLine}
pub use Rattle.rbc_table_laws.specs.PriceRows.{prices_of}
use Rattle.rbc_checks.specs.Lines.{lines_view}
use Rattle.rbc_checks.specs.declared.lines.CheckLine.{CheckLine as ReadLine}

-- rows of prices as lines, told under the numbers from j on
abbrev pub numbered : ℕ → List (List ℕ) → List CheckLine
numbered j [] = []
numbered j (prices ∷ rows) = PriceLine j prices ∷ numbered (j + 1) rows

-- the rows of a table, and the lines behind them
abbrev pub row_lines : List (Vec ℕ) → List ReadLine → List CheckLine
row_lines table others = numbered 1 (prices_of table) ++ lines_view others

-- the rows that these lines are where none of them is the next row: there have to be none
abbrev pub no_rows : List ReadLine → Option (List (List ℕ))
no_rows [] = Some []
no_rows (line ∷ lines) = None

-- the prices of a line that is a row of this number
abbrev pub row_in : ℕ → CheckLine → Option (List ℕ)
row_in number (PriceLine k prices) = if k == number then Some prices else None
row_in number line = None
