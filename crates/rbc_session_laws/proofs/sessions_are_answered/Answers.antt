use Rattle.rbc_session_laws.proofs.AskedNextLemmas.{nexts_are_asked}
use Rattle.rbc_session_laws.proofs.GrantLemmas.{grants_are_one, grants_are_read_back}
use Rattle.rbc_session_laws.proofs.LineLemmas.{lines_are_answered}
use Rattle.rbc_session_laws.proofs.SessionLemmas.{sessions_are_answered, written_is_answered, sessions_are_one}
use Rattle.rbc_session_laws.proofs.sessions_are_answered.Goals as goal

pub returns-clause-grants : goal.returns-clause-grants
returns-clause-grants c = grants_are_one

pub returns-clause-read_back : goal.returns-clause-read_back
returns-clause-read_back c = grants_are_read_back

pub returns-clause-lines : goal.returns-clause-lines
returns-clause-lines c = lines_are_answered

pub returns-clause-sessions : goal.returns-clause-sessions
returns-clause-sessions c = sessions_are_answered

pub returns-clause-one : goal.returns-clause-one
returns-clause-one c = sessions_are_one

pub returns-clause-written : goal.returns-clause-written
returns-clause-written c = written_is_answered

pub returns-clause-nexts : goal.returns-clause-nexts
returns-clause-nexts c = nexts_are_asked
