use Rattle.rbc_lines.proofs.track.print_track.Goals as goal

pub returns : goal.returns
returns g c = c.outcome.ensures.printed _ _ c.requires c.emit_track.ensures
