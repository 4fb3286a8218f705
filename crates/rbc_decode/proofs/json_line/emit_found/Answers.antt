use Rattle.rbc_streams.proofs.EmittingLemmas.{emits_as}
use Rattle.rbc_decode.proofs.JsonLemmas.{found_by_parts}
use Rattle.rbc_decode.proofs.json_line.emit_found.Goals as goal

pub returns : goal.returns
returns g c =
    emits_as (found_by_parts c.args.found.now _ _ _ c.fault_text.ensures c.place_text.ensures c.measure_text.ensures) c.emit_pieces.ensures
