use Rattle.rbc_journal.proofs.ReadingLawLemmas.{cut_is_told}
use Rattle.rbc_journal.proofs.laws.cuts_are_told.Goals as goal

pub returns : goal.returns
returns c = cut_is_told
