use Rattle.std.proofs.Common.{◌≡◌, ◌∷◌, [], ◌++◌, codes, decimal, ap, ◌∙◌, rules}
use Rattle.rbc_decode.specs.Meanings.{meaning_in}
use Rattle.rbc_decode.specs.Texts.{field_start, lead_text, is_inner}
use Rattle.rbc_decode.proofs.OutBufferLemmas.{behind_7}
use Rattle.rbc_decode.proofs.text.gather_field.Goals as goal

pub returns : goal.returns
returns c =
    let item = c.args.item.now in
    let same_bit : c.from.result ≡ item.bit = search rules in
    let same_value : c.from-2.result ≡ item.value = search rules in
    let lead = c.text.ensures.text ∙ ap (λ t. c.args.buffer.now ++ t) c.lead_text.ensures.text in
    let bit = c.number.ensures.text ∙ ap (λ n. c.text.new.self ++ decimal n) same_bit in
    let start = c.front.ensures.text ∙ ap (λ t. c.number.new.self ++ t) c.field_start-count.ensures.text in
    let value = c.number-2.ensures.text ∙ ap (λ n. c.front.new.self ++ decimal n) same_value in
    behind_7 c.args.buffer.now (lead_text item.is_late (is_inner item.name item.row item.walk.index)) (decimal item.bit) (field_start item.name) (decimal item.value)
    (codes "  ") (meaning_in item) (10 ∷ [])
    lead bit start value c.text-2.ensures.text c.gather_meaning.ensures.text c.byte.ensures.text
