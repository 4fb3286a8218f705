use Rattle.std.proofs.Common.{◌≡◌, ◌++◌, codes, decimal, ap, ◌∙◌, rules}
use Rattle.serde_json.specs.Written.{compact_text}
use Rattle.rbc_decode.specs.JsonText.{packet_data, packet_of}
use Rattle.rbc_decode.proofs.OutBufferLemmas.{behind, behind_3}
use Rattle.rbc_decode.proofs.json_line.gather_front.Goals as goal

pub returns-clause-text : goal.returns-clause-text
returns-clause-text c =
    let item = c.args.item.now in
    let same : c.from.result ≡ item.bit = search rules in
    let packet = c.gather_packet.ensures.text ∙ ap (λ n. c.text.new.self ++ compact_text (packet_data item.row n)) c.packet_of.ensures in
    let bit = c.number.ensures.text ∙ ap (λ n. c.text-2.new.self ++ decimal n) same in
    behind_3 c.args.buffer.now (codes "{\"packet\":") (compact_text (packet_data item.row (packet_of item.name item.row item.value))) (codes ",\"bit\":" ++ decimal item.bit)
    c.text.ensures.text packet
    (behind c.gather_packet.new.buffer (codes ",\"bit\":") (decimal item.bit) c.text-2.ensures.text bit)
