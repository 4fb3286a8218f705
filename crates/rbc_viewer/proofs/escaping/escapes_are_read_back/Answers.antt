use Rattle.rbc_viewer.proofs.EscapeLemmas.{read_back}
use Rattle.rbc_viewer.proofs.escaping.escapes_are_read_back.Goals as goal

pub returns : goal.returns
returns c = read_back
