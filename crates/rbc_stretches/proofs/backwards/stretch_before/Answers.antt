use Rattle.std.proofs.Common.{arith, ap, ◌∙◌, subst}
use Rattle.rbc_table_laws.specs.Stretches.{break_before}
use Rattle.rbc_stretches.specs.OnTracks.{IsStretch}
use Rattle.rbc_stretches.proofs.BackwardLemmas.{first_of_zero, before_there}
use Rattle.rbc_stretches.proofs.backwards.stretch_before.Goals as goal
use Rattle.std.proofs.lemmas.Option.{same_Some}

pub returns-then-stretch-eq0-clause-first : goal.returns-then-stretch-eq0-clause-first
returns-then-stretch-eq0-clause-first g c =
    let level = g.met.V.Level g.world.𝓛 g.world.𝓜 g.world.𝓡 ((λ s x. x), (λ x. x), (λ x. x), λ x. x) in
    λ i there none. first_of_zero g.V.Level.levels level.lawful c.args.track.now c.known.ensures.track c.args.unit c.requires.some c.requires.whole i c.args.stretch there c.if-stretch-eq0.true

pub returns-clause-before : goal.returns-clause-before
returns-clause-before g c =
    let level = g.met.V.Level g.world.𝓛 g.world.𝓜 g.world.𝓡 ((λ s x. x), (λ x. x), (λ x. x), λ x. x) in
    λ i next there e.
    let run = c.run_up_to-run.ensures in
    let made = before_there g.V.Level.levels level.lawful c.args.track.now c.known.ensures.track c.args.unit c.requires.some c.requires.whole c.run_up_to-run.result c.args.stretch
    run.inside (omega (arith, run.low, c.if-stretch-eq0.false)) (omega (arith, run.high)) i c.run_up_to.result c.break_before-from.result there
    (c.break_before-from.ensures ∙ ap (break_before c.args.unit c.args.stretch.from) c.edge.ensures.edge) c.run_up_to.ensures.inside c.run_up_to.ensures.low c.run_up_to.ensures.high in
    subst (λ s. IsStretch c.args.unit c.args.track.now i s) (same_Some _ next e) made
