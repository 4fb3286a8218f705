use Rattle.rbc_sessions.proofs.GrantLemmas.{kept_if_ok}
use Rattle.rbc_sessions.proofs.context.SessionContext.keep_numbered.Goals as goal

pub returns-in-Some-clause-kept : goal.returns-in-Some-clause-kept
returns-in-Some-clause-kept g c =
    let found = c.in-Some.ensures.lookup in
    let outcome = c.in-Some.outcome.now in
    kept_if_ok (g.K.Keeper.kept c.keep_outcome.new.committer) c.args.outcomes.now c.args.number outcome c.keep_outcome.result found.3.0 found.1 c.keep_outcome.ensures.kept
