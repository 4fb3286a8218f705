use Rattle.std.proofs.Common.{◌++◌, ap, ◌∙◌}
use Rattle.serde_json.specs.Written.{comma_if}
use Rattle.rbc_decode.specs.JsonParts.{field_front, field_rest}
use Rattle.rbc_decode.proofs.ElementLemmas.{field_json}
use Rattle.rbc_decode.proofs.OutBufferLemmas.{behind_3}
use Rattle.rbc_decode.proofs.json_line.FieldElementsTextPart.gather.Goals as goal

pub returns : goal.returns
returns c =
    let item = c.args.item.now in
    behind_3 c.args.buffer.now (comma_if c.args.later) (field_front item) (field_rest item) c.gather_comma.ensures.text c.gather_front.ensures.text c.gather_rest.ensures
    ∙ ap (λ l. c.args.buffer.now ++ (comma_if c.args.later ++ l)) (field_json item)
