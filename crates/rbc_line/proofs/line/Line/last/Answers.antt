use Rattle.std.proofs.Common.{◌-◌, Some, arith, ap, sym, ◌∙◌}
use Rattle.rbc_line.proofs.LegLemmas.{last_leg-get_or}
use Rattle.rbc_line.proofs.line.Line.last.Goals as goal

pub returns : goal.returns
returns c =
    rw (← c.self.view_is)
    (record { leg = last_leg-get_or c.self.inside.legs.items (c.len.result - 1) c.index.result.now (omega (arith, c.len.ensures, c.self.inside.legs.ok.0, c.self.invariant.line.some_leg)) ∙ ap Some (sym c.index.ensures) })
