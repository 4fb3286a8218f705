use Rattle.rbc_desk.proofs.AskingLemmas.{tries}
use Rattle.rbc_desk.proofs.shared.enter.Goals as goal

pub returns-then-version : goal.returns-then-version
returns-then-version c = rw c.tried.ensures (tries _ _ _ _ c.requires.known c.requires.room c.grant.ensures.entered)

pub returns : goal.returns
returns c = rw c.tried-2.ensures (tries _ _ _ _ c.requires.known c.requires.room c.commit.ensures.entered)
