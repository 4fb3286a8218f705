use Rattle.rbc_model.proofs.SaidLineLemmas.{said_line_read, read_is_sayable}
use Rattle.rbc_session_laws.proofs.RetellingLemmas.{entries_are_told_again, retold_histories_are_sessions, sessions_are_retold, histories_are_sessions}
use Rattle.rbc_session_laws.proofs.OfTrackLemmas.{retold_entries_are_of_track}
use Rattle.rbc_session_laws.proofs.LegalRetellingLemmas.{legal_histories_are_retold}
use Rattle.rbc_session_laws.proofs.histories_are_sessions.Goals as goal

pub returns-clause-read : goal.returns-clause-read
returns-clause-read c = said_line_read

pub returns-clause-sayable : goal.returns-clause-sayable
returns-clause-sayable c = read_is_sayable

pub returns-clause-lines : goal.returns-clause-lines
returns-clause-lines c = entries_are_told_again

pub returns-clause-of_track : goal.returns-clause-of_track
returns-clause-of_track c = retold_entries_are_of_track

pub returns-clause-retold : goal.returns-clause-retold
returns-clause-retold c = retold_histories_are_sessions

pub returns-clause-sessions : goal.returns-clause-sessions
returns-clause-sessions c = sessions_are_retold

pub returns-clause-histories : goal.returns-clause-histories
returns-clause-histories c = histories_are_sessions

pub returns-clause-legal : goal.returns-clause-legal
returns-clause-legal c = legal_histories_are_retold
