-- The blocks of a text, judged line by line.
use Rattle.std.specs.Prelude.{ℕ, Bool, true, false, not, ◌||◌, List, [], ◌∷◌, ◌++◌, Option, Some}
use Rattle.rbc_model.specs.declared.places.Format.TheVariants.{Far}
use Rattle.rbc_model.specs.CheckText.{CheckLine, check_line, opened, ended, block_text}
use Rattle.rbc_checks.specs.CheckAnswers.{is_not_refused}
use Rattle.rbc_checks.specs.declared.verdict.Verdict.{Verdict}
use Rattle.rbc_checks.specs.declared.verdict.Verdict.TheVariants.{Memory}

-- what is kept from line to line: the lines of the open block, whether a block was refused so far, and what was said of those that ended
pub record Judged : Type 0 where
  pub block : List CheckLine
  pub refused : Bool
  pub verdicts : List ℕ

-- nothing is judged yet
abbrev pub unjudged : Judged
unjudged = record { block = []; refused = false; verdicts = [] }

-- one block is over and judged, and the next one is open
abbrev pub judged : Judged → List CheckLine → List CheckLine → Judged
judged before over next = record { block = next; refused = before.refused || not (is_not_refused over); verdicts = before.verdicts ++ block_text over }

-- behind what a line says
abbrev pub behind_line : Judged → CheckLine → Judged
behind_line before said = judged before (ended before.block said) (opened before.block said)

-- behind lines, in order
abbrev pub behind_lines : Judged → List (List ℕ) → Judged
behind_lines before [] = before
behind_lines before (line ∷ lines) = behind_lines (behind_line before (check_line Far line)) lines

-- behind the last line the block that is open is over too
abbrev pub at_end : Judged → Judged
at_end before = judged before before.block []

-- whether memory was refused for a block
abbrev pub is_memory : Option Verdict → Bool
is_memory (Some Memory) = true
is_memory _ = false
