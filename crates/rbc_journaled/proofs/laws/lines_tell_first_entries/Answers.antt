use Rattle.rbc_journaled.proofs.LaterLemmas.{tells_first}
use Rattle.rbc_journaled.proofs.laws.lines_tell_first_entries.Goals as goal

pub returns : goal.returns
returns c = tells_first
