use Rattle.std.proofs.Common.{arith, ap, ◌∙◌, ◌+◌, subst}
use Rattle.rbc_table_laws.specs.Stretches.{break_behind}
use Rattle.rbc_stretches.specs.OnTracks.{IsStretch}
use Rattle.rbc_stretches.proofs.StandingLemmas.{ends, behind_there, runs_to_end}
use Rattle.rbc_stretches.proofs.stretch.stretch_behind.Goals as goal
use Rattle.std.proofs.lemmas.Option.{same_Some}

pub returns-then-stretch-end-clause-last : goal.returns-then-stretch-end-clause-last
returns-then-stretch-end-clause-last g c =
    let level = g.met.V.Level g.world.𝓛 g.world.𝓜 g.world.𝓡 ((λ s x. x), (λ x. x), (λ x. x), λ x. x) in
    λ i there none. ends g.V.Level.levels level.lawful c.args.track.now c.known.ensures.track c.args.unit c.requires.some c.requires.whole i c.args.stretch there (omega (arith, c.if-stretch-end.true, c.end.ensures))

pub overflow_add-first : goal.overflow_add-first
overflow_add-first g c =
    let level = g.met.V.Level g.world.𝓛 g.world.𝓜 g.world.𝓡 ((λ s x. x), (λ x. x), (λ x. x), λ x. x) in
    let few = runs_to_end g.V.Level.levels level.lawful c.args.track.now c.known.ensures.track in
    omega (arith, few, c.run_from-first.ensures.inside, c.known.ensures.within_limit)

pub returns-clause-behind : goal.returns-clause-behind
returns-clause-behind g c =
    let level = g.met.V.Level g.world.𝓛 g.world.𝓜 g.world.𝓡 ((λ s x. x), (λ x. x), (λ x. x), λ x. x) in
    λ i next there e.
    let made = behind_there g.V.Level.levels level.lawful c.args.track.now c.known.ensures.track c.args.unit c.requires.some c.requires.whole i c.run_from-first.result c.break_behind.result c.args.stretch there
    (omega (arith, c.if-stretch-end.false, c.end.ensures)) c.run_from-first.ensures.inside c.run_from-first.ensures.low c.run_from-first.ensures.high
    (c.break_behind.ensures ∙ ap (break_behind c.args.unit c.args.stretch.to) c.edge.ensures.edge) in
    subst (λ s. IsStretch c.args.unit c.args.track.now (i + 1) s) (same_Some _ next e) made
