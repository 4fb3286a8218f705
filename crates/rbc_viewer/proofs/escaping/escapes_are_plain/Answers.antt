use Rattle.rbc_viewer.proofs.EscapeLemmas.{all_plain}
use Rattle.rbc_viewer.proofs.escaping.escapes_are_plain.Goals as goal

pub returns : goal.returns
returns c = all_plain
