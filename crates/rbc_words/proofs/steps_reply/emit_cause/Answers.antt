use Rattle.rbc_words.proofs.steps_reply.emit_cause.Goals as goal

pub returns-in-OutOfRange : goal.returns-in-OutOfRange
returns-in-OutOfRange g c = rw c.in-OutOfRange.is c.emit-in-OutOfRange.ensures
