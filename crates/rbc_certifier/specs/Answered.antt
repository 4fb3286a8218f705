-- What a session of `rbc steps` wrote, as one function of what it read.
use Rattle.std.specs.Prelude.{◌≡◌, ℕ, List, Option}
use Rattle.rbc_model.specs.declared.places.Format.TheVariants.{Far}
use Rattle.rbc_session_laws.specs.AllRead.{OfAllRead}
use Rattle.rbc_session_laws.specs.StepsAnswers.{steps_answers_of}

-- this text was written in answer to an input
abbrev pub AnswersSteps : List ℕ → List ℕ → Type 0
AnswersSteps input text = text ≡ steps_answers_of Far input

-- Where what was left to read and what was written are known, and no line that was written says that memory was refused: just the answers to what was
-- read were written.
abbrev pub AnswersAllSteps : Option (List ℕ) → Option (List ℕ) → Option (List ℕ) → Type 0
AnswersAllSteps left old new = OfAllRead AnswersSteps left old new
