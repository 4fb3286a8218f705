use Rattle.rbc_extent.proofs.GroupLemmas.{found_group-good}
use Rattle.rbc_extent.proofs.placing.group_of.Goals as goal

pub returns-clause-good : goal.returns-clause-good
returns-clause-good c = found_group-good c.args.track.now c.group.result c.group-2.result c.known.ensures.sound c.group-2.ensures.group
