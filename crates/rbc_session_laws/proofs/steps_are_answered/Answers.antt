use Rattle.rbc_session_laws.proofs.StepsLemmas.{steps_lines_are_answered, steps_written_is_answered}
use Rattle.rbc_session_laws.proofs.steps_are_answered.Goals as goal

pub returns-clause-lines : goal.returns-clause-lines
returns-clause-lines c = steps_lines_are_answered

pub returns-clause-written : goal.returns-clause-written
returns-clause-written c = steps_written_is_answered
