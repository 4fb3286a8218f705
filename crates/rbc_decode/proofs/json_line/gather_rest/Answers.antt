use Rattle.std.proofs.Common.{◌≡◌, ◌++◌, codes, decimal, ap, ◌∙◌, rules}
use Rattle.rbc_decode.specs.Meanings.{meaning_in}
use Rattle.rbc_decode.specs.JsonParts.{name_members, field_end}
use Rattle.rbc_decode.proofs.OutBufferLemmas.{behind_5}
use Rattle.rbc_decode.proofs.json_line.gather_rest.Goals as goal

pub returns : goal.returns
returns c =
    let item = c.args.item.now in
    let same : c.from.result ≡ item.value = search rules in
    let name = c.text.ensures.text ∙ ap (λ t. c.args.buffer.now ++ t) c.name_members.ensures.text in
    let value = c.number.ensures.text ∙ ap (λ n. c.text.new.self ++ decimal n) same in
    let end = c.text-3.ensures.text ∙ ap (λ t. c.gather_meaning.new.buffer ++ t) c.field_end.ensures.text in
    behind_5 c.args.buffer.now (name_members item.name) (decimal item.value) (codes ",\"meaning\":\"") (meaning_in item) (field_end item.is_late)
    name value c.text-2.ensures.text c.gather_meaning.ensures.text end
