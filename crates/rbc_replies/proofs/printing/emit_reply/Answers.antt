use Rattle.rbc_replies.proofs.printing.emit_reply.Goals as goal

pub returns-in-Granted : goal.returns-in-Granted
returns-in-Granted g c = rw c.in-Granted.is c.emit_granted.ensures
