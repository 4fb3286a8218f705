use Rattle.std.proofs.Common.{◌∷◌, ◌++◌, ap, ◌∙◌}
use Rattle.std.specs.Prelude.{decimal}
use Rattle.rbc_streams.proofs.EmittingLemmas.{emits_then, emits_as}
use Rattle.rbc_words.proofs.steps_reply.emit_last.Goals as goal

pub returns-then-name-gt-LONGEST_NAME : goal.returns-then-name-gt-LONGEST_NAME
returns-then-name-gt-LONGEST_NAME g c =
    let text = c.bytes.ensures ∙ c.number.ensures.text
    ∙ ap (λ l. decimal c.args.number ++ l) (c.byte.ensures.text ∙ ap (λ l. 10 ∷ l) c.new-text.ensures) in
    emits_then c.emit.ensures (emits_as text c.emit-then-name-gt-LONGEST_NAME.ensures)
