-- The block that is open, as the definitions have it.
use Rattle.std.specs.Prelude.{List, [], ◌∷◌}
use Rattle.rbc_model.specs.CheckText.{CheckLine}
use Rattle.rbc_checks.specs.Lines.{line_view}
use Rattle.rbc_checks.specs.declared.block.Block.{Block}
use Rattle.rbc_checks.specs.declared.block.Block.TheVariants.{None, Head, Profile}

-- the lines of a block
abbrev pub block_lines : Block → List CheckLine
block_lines None = []
block_lines (Head head) = line_view head ∷ []
block_lines (Profile head profile rows) = line_view head ∷ line_view profile ∷ rows
