use Rattle.rbc_streams.proofs.EmittingLemmas.{emits_then}
use Rattle.rbc_decode.proofs.text.emit_told.Goals as goal

pub returns : goal.returns
returns g c = emits_then c.emit_place.ensures c.emit_reading.ensures
