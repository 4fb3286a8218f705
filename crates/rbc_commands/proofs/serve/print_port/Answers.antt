use Rattle.rbc_commands.proofs.serve.print_port.Goals as goal

pub returns : goal.returns
returns g c = rw c.from.ensures at c.print_line.ensures
