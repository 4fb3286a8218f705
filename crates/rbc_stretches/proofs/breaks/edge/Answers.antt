use Rattle.std.proofs.Common.{arith, ap, ◌∙◌, length}
use Rattle.rbc_table_laws.proofs.TrackBreakLemmas.{at_run, at_last}
use Rattle.rbc_stretches.proofs.StandingLemmas.{edge_inside}
use Rattle.rbc_stretches.proofs.breaks.edge.Goals as goal

pub returns-in-Some-clause-edge : goal.returns-in-Some-clause-edge
returns-in-Some-clause-edge g c =
    let h = rw c.runs.ensures at c.in-Some.ensures.lookup in
    ap (λ run. run.0) h.1 ∙ at_run g.V.Level.levels c.args.track.now.end c.args.track.now.steps c.known.ensures.track c.args.index c.in-Some.run'.now h.3.0

pub returns-in-Some-clause-at_most : goal.returns-in-Some-clause-at_most
returns-in-Some-clause-at_most g c =
    let level = g.met.V.Level g.world.𝓛 g.world.𝓜 g.world.𝓡 ((λ s x. x), (λ x. x), (λ x. x), λ x. x) in
    let h = rw c.runs.ensures at c.in-Some.ensures.lookup in
    let at = ap (λ run. run.0) h.1 ∙ at_run g.V.Level.levels c.args.track.now.end c.args.track.now.steps c.known.ensures.track c.args.index c.in-Some.run'.now h.3.0 in
    let most = edge_inside g.V.Level.levels level.lawful c.args.track.now c.known.ensures.track c.args.index c.requires in
    omega arith

pub returns-in-None-clause-edge : goal.returns-in-None-clause-edge
returns-in-None-clause-edge g c =
    c.end.ensures ∙ at_last g.V.Level.levels c.args.track.now.end c.args.track.now.steps c.known.ensures.track c.args.index (omega (arith, c.in-None.ensures.lookup, ap length c.runs.ensures))
