use Rattle.std.proofs.Common.{arith}
use Rattle.std.specs.Arc.{arc_value}
use Rattle.rbc_scene_laws.proofs.OnLineLemmas.{OnLine-IsLine}
use Rattle.rbc_line.proofs.ChangeLemmas.{length_at_most}
use Rattle.rbc_line.proofs.line.Line.place_of.Goals as goal

pub place_of-requires-clause-differ : goal.place_of-requires-clause-differ
place_of-requires-clause-differ c =
    let on = OnLine-IsLine (arc_value c.self.inside.track) c.self.inside.legs.items c.self.invariant.line in
    rw c.deref-2.ensures.value on.differ

pub place_of-requires-clause-fits : goal.place_of-requires-clause-fits
place_of-requires-clause-fits c =
    rw (c.deref.ensures, c.deref-2.ensures.value)
    (omega (arith, c.self.invariant.metres, length_at_most (arc_value c.self.inside.track) c.self.inside.legs.items c.self.inside.length c.self.invariant))
