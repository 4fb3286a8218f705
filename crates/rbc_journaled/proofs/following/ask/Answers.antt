use Rattle.rbc_journaled.proofs.FollowingLemmas.{not_shown}
use Rattle.rbc_journaled.proofs.following.ask.Goals as goal

pub returns-in-Err-Refused-clause-followed : goal.returns-in-Err-Refused-clause-followed
returns-in-Err-Refused-clause-followed g c =
    not_shown c.args.history.now c.args.train c.in-Err-Refused.field-0-0 (rw c.in-Err-Refused.field-0-is at c.in-Err-Refused.ensures.view)
