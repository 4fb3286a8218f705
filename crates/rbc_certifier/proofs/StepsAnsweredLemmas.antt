-- What a session of `rbc steps` wrote at the end of its input is the answers to the input, where memory was never refused.
use Rattle.std.proofs.Common.{ℕ, List, Option, Result}
use Rattle.std.specs.Prelude.{OnOk}
use Rattle.std.specs.Io.KnownBytes.{Consumes, IsAtEnd}
use Rattle.rbc_model.specs.declared.limits.TheConstants.{LONGEST_LINE}
use Rattle.rbc_model.specs.declared.places.Format.TheVariants.{Far}
use Rattle.rbc_model.specs.declared.sessions.SessionFault.{SessionFault}
use Rattle.rbc_model.specs.StepsReply.{AnswersLine}
use Rattle.rbc_model.specs.Talks.{IsTalk, EachByItself}
use Rattle.rbc_session_laws.proofs.AllReadLemmas.{of_all_read}
use Rattle.rbc_session_laws.proofs.StepsLemmas.{steps_written_is_answered}
use Rattle.rbc_certifier.specs.Answered.{AnswersSteps, AnswersAllSteps}

abbrev Talks : List ℕ → Option (List ℕ) → Option (List ℕ) → Result (Unit {0}) SessionFault → Type 0
Talks input old new result = IsTalk LONGEST_LINE (EachByItself (AnswersLine Far)) tt tt input old new result

pub steps_answer_all : (left_before left_after old new : Option (List ℕ)) (result : Result (Unit {0}) SessionFault) (input : List ℕ)
    → OnOk result (IsAtEnd left_after) → Consumes left_before left_after input → Talks input old new result → OnOk result (AnswersAllSteps left_before old new)
steps_answer_all = of_all_read Talks (λ done. AnswersSteps) (λ done input held text. steps_written_is_answered Far LONGEST_LINE input held text)
