use Rattle.std.proofs.Common.{OnOk, ap, subst, ◌∙◌}
use Rattle.rbc_line.specs.Along.{Tells}
use Rattle.rbc_line.proofs.AlongLemmas.{met_backwards}
use Rattle.rbc_line.proofs.along.push_leg.Goals as goal

pub returns-in-Falling : goal.returns-in-Falling
returns-in-Falling g c = λ level told are.
    let there = met_backwards g.V.TrackLevel.steps_of g.V.TrackLevel.met c.args.track.now c.args.part.leg c.args.part.low c.args.part.high c.args.told c.length-metres.result c.section_at-section.result.now c.runs-runs.result.now level
    c.requires.some c.requires.on_leg c.in-Falling.is c.section_at-section.ensures c.length-metres.ensures (c.runs-runs.ensures ∙ ap (λ r. r.steps) c.runs_of-on_section.ensures) are in
    subst (λ n. OnOk c.push_falling.result (Tells c.push_falling.new.rows.items n level)) there.0 (c.push_falling.ensures level told there.1)
