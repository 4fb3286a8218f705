use Rattle.std.proofs.Common.{◌++◌, ap}
use Rattle.rbc_streams.proofs.EmittingLemmas.{emits_then, emits_as}
use Rattle.rbc_decode.specs.Texts.{item_text, outcome_text}
use Rattle.rbc_decode.proofs.PartsLemmas.{parts_text-flat}
use Rattle.rbc_decode.proofs.text.emit_reading.Goals as goal

pub returns : goal.returns
returns g c =
    let items = c.args.items.now in
    emits_as (ap (λ l. l ++ outcome_text items c.args.found) (parts_text-flat item_text _ items)) (emits_then c.emit_parts.ensures c.emit_outcome.ensures)
