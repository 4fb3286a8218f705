use Rattle.std.proofs.Common.{ap, ◌∙◌}
use Rattle.rbc_table_laws.specs.Stretches.{break_behind}
use Rattle.rbc_stretches.proofs.StandingLemmas.{first_there}
use Rattle.rbc_stretches.proofs.stretch.first_stretch.Goals as goal

pub returns : goal.returns
returns g c =
    let level = g.met.V.Level g.world.𝓛 g.world.𝓜 g.world.𝓡 ((λ s x. x), (λ x. x), (λ x. x), λ x. x) in
    first_there g.V.Level.levels level.lawful c.args.track.now c.known.ensures.track c.args.unit c.requires.some c.requires.whole c.break_behind.result
    (c.break_behind.ensures ∙ ap (break_behind c.args.unit 0) c.edge.ensures.edge)
