use Rattle.rbc_session_laws.proofs.CheckLemmas.{checks_are_answered}
use Rattle.rbc_session_laws.proofs.checks_are_answered.Goals as goal

pub returns : goal.returns
returns c = record { written = checks_are_answered }
