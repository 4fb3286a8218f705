-- What a check wrote and told, as one function of what it read.
use Rattle.std.specs.Prelude.{◌≡◌, ℕ, Bool, List, Option}
use Rattle.rbc_model.specs.declared.places.Format.TheVariants.{Far}
use Rattle.rbc_session_laws.specs.CheckAnswers.{check_answers_of, are_all_certified}
use Rattle.rbc_session_laws.specs.AllRead.{OfAllRead}

-- this is told of an input, and this text is what was written in answer to it
abbrev pub AnswersBlocks : Bool → List ℕ → List ℕ → Type 0
AnswersBlocks all input text = (text ≡ check_answers_of Far input) × (all ≡ are_all_certified Far input)

-- Where what was left to read and what was written are known, and no line that was written says that memory was refused: just what is said of the blocks of
-- what was read was written, and it is told whether each of them is certified.
abbrev pub AnswersAllBlocks : Bool → Option (List ℕ) → Option (List ℕ) → Option (List ℕ) → Type 0
AnswersAllBlocks all left old new = OfAllRead (AnswersBlocks all) left old new
