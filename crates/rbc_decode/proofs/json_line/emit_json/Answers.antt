use Rattle.std.proofs.Common.{sym}
use Rattle.rbc_streams.proofs.EmittingLemmas.{emits_then, emits_as}
use Rattle.rbc_decode.specs.Readings.{read_as}
use Rattle.rbc_decode.proofs.JsonLemmas.{json_whole}
use Rattle.rbc_decode.proofs.json_line.emit_json.Goals as goal

pub returns : goal.returns
returns g c =
    let heading = c.args.heading in
    emits_as (sym (json_whole heading.line heading.granted heading.is_packet (read_as c.args.items.now c.args.found)))
    (emits_then c.emit_start.ensures (emits_then c.emit_outcome.ensures (emits_then c.emit_array.ensures c.emit.ensures)))
