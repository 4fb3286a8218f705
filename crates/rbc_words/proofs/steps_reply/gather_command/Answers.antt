use Rattle.std.proofs.Common.{◌++◌, ◌∷◌, ap, sym, ◌∙◌, append_assoc}
use Rattle.std.specs.Prelude.{decimal}
use Rattle.rbc_words.proofs.steps_reply.gather_command.Goals as goal

pub returns : goal.returns
returns g c =
    let command = g.V.Spelled.kind.command in
    c.text.ensures.text
    ∙ ap (λ l. l ++ c.byte.new.self) c.command.ensures.command
    ∙ ap (λ l. command ++ l) (c.byte.ensures.text ∙ ap (λ l. 32 ∷ l) c.number.ensures.text)
    ∙ sym (append_assoc command (32 ∷ decimal c.args.limit) c.args.text.now)
