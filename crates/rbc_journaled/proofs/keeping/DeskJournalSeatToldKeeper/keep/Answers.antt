use Rattle.rbc_journaled.proofs.LastingLemmas.{has_still}
use Rattle.rbc_journaled.proofs.keeping.DeskJournalSeatToldKeeper.keep.Goals as goal

pub returns-in-Ok-clause-stays : goal.returns-in-Ok-clause-stays
returns-in-Ok-clause-stays g c = λ place has. has_still c.args.committer.now c.keep.new.committer place c.in-Ok.ensures.stays has
