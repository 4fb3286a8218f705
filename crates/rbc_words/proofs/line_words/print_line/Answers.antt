use Rattle.rbc_words.proofs.line_words.print_line.Goals as goal

pub returns : goal.returns
returns g c = c.outcome.ensures.printed _ _ c.requires c.emit_line.ensures
