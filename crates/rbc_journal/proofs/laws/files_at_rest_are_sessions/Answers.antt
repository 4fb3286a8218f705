use Rattle.rbc_journal.proofs.SessionLemmas.{at_rest_lines}
use Rattle.rbc_journal.proofs.laws.files_at_rest_are_sessions.Goals as goal

pub returns : goal.returns
returns c = at_rest_lines
