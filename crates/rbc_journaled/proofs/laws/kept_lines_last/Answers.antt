use Rattle.rbc_journaled.proofs.LastingLemmas.{lines_last}
use Rattle.rbc_journaled.proofs.laws.kept_lines_last.Goals as goal

pub returns : goal.returns
returns g c = lines_last g.D.Device.moment g.D.Device.left_since
