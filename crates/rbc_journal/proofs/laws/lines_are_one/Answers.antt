use Rattle.rbc_journal.proofs.ReadingLawLemmas.{lines_are_one}
use Rattle.rbc_journal.proofs.laws.lines_are_one.Goals as goal

pub returns : goal.returns
returns c = lines_are_one
