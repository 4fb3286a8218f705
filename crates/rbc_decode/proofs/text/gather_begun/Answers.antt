use Rattle.std.proofs.Common.{◌++◌, ap, ◌∙◌}
use Rattle.rbc_decode.specs.Texts.{mark_text, row_text}
use Rattle.rbc_decode.proofs.OutBufferLemmas.{behind}
use Rattle.rbc_decode.proofs.text.gather_begun.Goals as goal

pub returns-clause-text : goal.returns-clause-text
returns-clause-text c =
    let item = c.args.item.now in
    behind c.args.buffer.now (mark_text item.is_late) (row_text item.row item.value)
    (c.text.ensures.text ∙ ap (λ t. c.args.buffer.now ++ t) c.mark_text.ensures.text) c.gather_row.ensures.text
