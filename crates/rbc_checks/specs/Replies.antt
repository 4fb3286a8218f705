-- What is printed behind a line, and how a line is kept.
use Rattle.std.specs.Prelude.{Bool, true, false, List, [], ◌∷◌, ◌++◌, ℕ, Result}
use Rattle.rbc_model.specs.declared.prices.Part.{Part}
use Rattle.rbc_model.specs.CheckText.{CheckLine, Checking, LeavesOpen, memory_text}
use Rattle.rbc_checks.specs.Lines.{IsSaid}
use Rattle.rbc_checks.specs.Verdicts.{said_text}
use Rattle.rbc_checks.specs.declared.lines.CheckLine.{CheckLine as ReadLine}
use Rattle.rbc_checks.specs.declared.checking.Reply.{Reply}

-- what is told of a block for which memory was refused, if it was
abbrev pub lost_text : Bool → List ℕ
lost_text true = memory_text
lost_text false = []

-- what is said of the block that the line ends, and then of the one that it belongs to
abbrev pub reply_text : Reply → List ℕ
reply_text reply = said_text reply.said ++ lost_text reply.lost

-- The line stands behind the lines of the open block; or memory was refused for it, and no block is open.
abbrev pub Keeps : Checking → Result ReadLine Part → Bool → Checking → Type 0
Keeps before read lost after = (said : CheckLine) → IsSaid read said
    → LeavesOpen (before.block ++ said ∷ []) before.refused [] (lost_text lost) after
