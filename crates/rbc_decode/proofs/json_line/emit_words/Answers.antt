use Rattle.std.proofs.Common.{sym}
use Rattle.rbc_streams.proofs.EmittingLemmas.{emits_then, emits_as}
use Rattle.rbc_decode.proofs.JsonLemmas.{others_parts, grades_array, speeds_array, words_whole}
use Rattle.rbc_decode.proofs.json_line.emit_words.Goals as goal

pub returns : goal.returns
returns g c =
    let items = c.args.items.now in
    emits_as (sym (words_whole items _ _ _ (others_parts items) (grades_array items) (speeds_array items)))
    (emits_then c.emit_parts.ensures (emits_then c.emit_array.ensures c.emit_array-2.ensures))
