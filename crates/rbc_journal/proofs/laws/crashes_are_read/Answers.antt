use Rattle.rbc_journal.proofs.ReadingLawLemmas.{crash_is_read}
use Rattle.rbc_journal.proofs.laws.crashes_are_read.Goals as goal

pub returns : goal.returns
returns c track lines seal put file is more left = crash_is_read track lines seal put is more file left
