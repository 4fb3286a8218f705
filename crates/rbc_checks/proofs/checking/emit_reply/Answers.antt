use Rattle.rbc_streams.proofs.EmittingLemmas.{emits_then}
use Rattle.rbc_checks.proofs.checking.emit_reply.Goals as goal

pub returns : goal.returns
returns g c = emits_then c.emit_said.ensures c.emit_lost.ensures
