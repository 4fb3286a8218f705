use Rattle.rbc_journal.proofs.BeginningLemmas.{begins_with}
use Rattle.rbc_journal.proofs.laws.beginnings_stay.Goals as goal

pub returns : goal.returns
returns c = begins_with
