use Rattle.rbc_replies.proofs.printing.emit_session_refusal.Goals as goal

pub returns-in-UnknownName : goal.returns-in-UnknownName
returns-in-UnknownName g c = rw c.in-UnknownName.is c.emit_line.ensures

pub returns-in-Full : goal.returns-in-Full
returns-in-Full g c = rw c.in-Full.is c.emit_line-in-Full.ensures

pub returns-in-Memory : goal.returns-in-Memory
returns-in-Memory g c = rw c.in-Memory.is c.emit_refusal-in-Memory.ensures
