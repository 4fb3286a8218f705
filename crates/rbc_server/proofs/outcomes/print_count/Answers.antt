use Rattle.rbc_streams.proofs.EmittingLemmas.{emits_then}
use Rattle.rbc_server.proofs.outcomes.print_count.Goals as goal

pub returns : goal.returns
returns g c =
    c.outcome.ensures.printed _ _ c.requires (emits_then c.emit.ensures (emits_then c.emit_number.ensures c.emit-2.ensures))
