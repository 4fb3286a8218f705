use Rattle.rbc_journaled.proofs.FollowingLemmas.{is_heard, not_heard}
use Rattle.rbc_journaled.proofs.following.hear.Goals as goal

pub returns-in-Ok-clause-followed : goal.returns-in-Ok-clause-followed
returns-in-Ok-clause-followed c =
    is_heard c.args.history.now c.apply.new.self c.args.told.now _ _ c.in-Ok._receipt.entry c.in-Ok.ensures.entered.0 c.in-Ok.ensures.entered.2

pub returns-in-Err-Refused-clause-followed : goal.returns-in-Err-Refused-clause-followed
returns-in-Err-Refused-clause-followed c =
    not_heard c.args.history.now c.apply.new.self c.args.told.now _ _ c.in-Err-Refused.field-0-0 (rw c.in-Err-Refused.field-0-is at c.in-Err-Refused.ensures.entered.0) c.in-Err-Refused.ensures.entered.1
