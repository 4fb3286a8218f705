-- Tables of prices that are printed, as text.
use Rattle.std.specs.Prelude.{ℕ, List, ◌∷◌}
use Rattle.std.specs.List.{flat_map}
use Rattle.std.specs.Global.{Vec}
use Rattle.rbc_model.specs.StepsReply.{price_lines}
pub use Rattle.rbc_table_laws.specs.PriceRows.{prices_of}

-- words, each behind a space (32)
abbrev pub spaced : List (List ℕ) → List ℕ
spaced words = flat_map (λ word. 32 ∷ word) words

-- the lines of a table of prices, counted from 1
abbrev pub prices_text : List (Vec ℕ) → List ℕ
prices_text rows = price_lines 1 (prices_of rows)
