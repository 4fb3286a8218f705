use Rattle.std.proofs.Common.{sym, subst}
use Rattle.rbc_sessions.specs.Keeping.{HasOutcome}
use Rattle.rbc_sessions.proofs.context.SessionContext.lay_ranked.Goals as goal

pub lay_outcome-requires : goal.lay_outcome-requires
lay_outcome-requires g c =
    let found = c.in-Some.ensures.lookup in
    let outcome = c.in-Some.outcome.now in
    record { told = subst (HasOutcome c.args.seat.now.told) (sym found.1) (c.requires.told _ outcome found.3.0) }
