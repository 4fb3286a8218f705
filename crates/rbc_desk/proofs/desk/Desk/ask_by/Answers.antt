use Rattle.std.proofs.Common.{refl}
use Rattle.rbc_desk.proofs.AskingLemmas.{answered_since}
use Rattle.rbc_desk.proofs.desk.Desk.ask_by.Goals as goal

pub returns-in-Ok-None : goal.returns-in-Ok-None
returns-in-Ok-None g c =
    answered_since c.args.seat.now c.try_outside.new.seat c.grant.new.seat c.in-Ok-None.ensures.later (rw c.in-Ok-None.field-0-is at c.in-Ok-None.ensures.stale) c.args.train c.args.train c.grant.result refl c.grant.ensures
