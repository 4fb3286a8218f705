use Rattle.rbc_checks.proofs.verdict.print_said.Goals as goal

pub returns : goal.returns
returns g c = c.outcome.ensures.printed _ _ c.requires c.emit_said.ensures
