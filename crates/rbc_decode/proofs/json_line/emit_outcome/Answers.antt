use Rattle.rbc_decode.proofs.json_line.emit_outcome.Goals as goal

pub returns-in-None : goal.returns-in-None
returns-in-None g c = rw c.in-None.is c.emit_words.ensures

pub returns-in-Some : goal.returns-in-Some
returns-in-Some g c = rw c.in-Some.is c.emit_found.ensures
