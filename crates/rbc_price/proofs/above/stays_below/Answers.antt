use Rattle.std.proofs.Common.{ap, sym}
use Rattle.rbc_model.specs.PriceChecks.{unless_some}
use Rattle.rbc_price.proofs.MetreLemmas.{none_above, some_above}
use Rattle.rbc_price.proofs.above.stays_below.Goals as goal

pub returns-in-Some-clause-above : goal.returns-in-Some-clause-above
returns-in-Some-clause-above g c =
    let found = rw (c.runs.ensures, c.steps.ensures, c.end.ensures) at c.in-Some.ensures in
    ap unless_some (sym (some_above g.V.Level.levels c.args.track.now c.args.profile.now c.in-Some.metre found))

pub returns-in-None-clause-above : goal.returns-in-None-clause-above
returns-in-None-clause-above g c =
    let found = rw (c.runs.ensures, c.steps.ensures, c.end.ensures) at c.in-None.ensures in
    ap unless_some (sym (none_above g.V.Level.levels c.args.track.now c.args.profile.now found))
