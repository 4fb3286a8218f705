use Rattle.rbc_journal.proofs.ChangeLemmas.{change_is_told}
use Rattle.rbc_journal.proofs.laws.changes_are_told.Goals as goal

pub returns : goal.returns
returns c = change_is_told
