use Rattle.std.proofs.Common.{◌++◌, ap, ◌∙◌}
use Rattle.std.specs.Prelude.{decimal}
use Rattle.rbc_words.specs.Replies.{runs_text}
use Rattle.rbc_words.proofs.steps_reply.gather_line_end.Goals as goal

pub returns-clause-text : goal.returns-clause-text
returns-clause-text g c =
    c.gather_runs.ensures.text
    ∙ ap (λ l. runs_text g.V.Spelled.kind c.args.runs.now ++ l) (c.text.ensures.text
    ∙ ap (λ l. c.args.name.now ++ l) (c.number.ensures.text
    ∙ ap (λ l. decimal c.args.number ++ l) c.byte.ensures.text))
