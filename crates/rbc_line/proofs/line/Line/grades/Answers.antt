use Rattle.std.proofs.Common.{◌-◌, arith}
use Rattle.std.specs.Arc.{arc_value}
use Rattle.rbc_line.proofs.AlongLemmas.{made_of, grades_are}
use Rattle.rbc_line.proofs.ChangeLemmas.{length_at_most}
use Rattle.rbc_line.proofs.line.Line.grades.Goals as goal

pub levels-requires-clause-fits : goal.levels-requires-clause-fits
levels-requires-clause-fits c κs =
    rw (c.deref.ensures, c.deref-2.ensures.value)
    (omega (arith, c.self.invariant.metres, length_at_most (arc_value c.self.inside.track) c.self.inside.legs.items c.self.inside.length c.self.invariant))

pub returns : goal.returns
returns c =
    rw (← c.self.view_is)
    (made_of c.levels.result (c.args.to - c.args.from) _ _ (grades_are (arc_value c.self.inside.track) c.deref.result.now c.self.inside.legs.items c.deref-2.result.now c.args.from c.args.to c.deref.ensures c.deref-2.ensures.value)
    c.levels.ensures.end c.levels.ensures.steps)
