use Rattle.rbc_sessions.proofs.GrantLemmas.{grant_told}
use Rattle.rbc_sessions.proofs.context.SessionContext.lay_outcome.Goals as goal

pub lay_grant-requires : goal.lay_grant-requires
lay_grant-requires g c = record { told = grant_told c.args.seat.now.told c.args.outcome.now c.in-Granted.granted c.in-Granted.is c.requires.told }
