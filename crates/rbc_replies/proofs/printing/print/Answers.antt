use Rattle.rbc_replies.proofs.printing.print.Goals as goal

pub returns : goal.returns
returns g c = c.outcome.ensures.printed _ _ c.requires.going c.emit_reply.ensures
