use Rattle.rbc_viewer.proofs.escaping.write_escaped.Goals as goal

pub returns : goal.returns
returns g c = c.outcome.ensures.printed _ _ c.requires c.emit_escaped.ensures
