use Rattle.rbc_decode.specs.Texts.{head_text, field_line}
use Rattle.rbc_decode.proofs.OutBufferLemmas.{behind}
use Rattle.rbc_decode.proofs.text.FieldLinesTextPart.gather.Goals as goal

pub returns : goal.returns
returns c =
    let item = c.args.item.now in
    behind c.args.buffer.now (head_text item) (field_line item) c.gather_head.ensures.text c.gather_field.ensures
