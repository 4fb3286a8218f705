use Rattle.std.proofs.Common.{◌++◌, ap, ◌∙◌}
use Rattle.std.specs.Prelude.{codes}
use Rattle.rbc_words.proofs.price_table.gather_head.Goals as goal

pub returns : goal.returns
returns c = c.text.ensures.text ∙ ap (λ l. codes "prices " ++ l) c.number.ensures.text
