use Rattle.rbc_streams.proofs.EmittingLemmas.{emits_then}
use Rattle.rbc_decode.proofs.json_line.emit_array.Goals as goal

pub returns : goal.returns
returns g c = emits_then c.emit.ensures (emits_then c.emit_parts.ensures c.emit-2.ensures)
