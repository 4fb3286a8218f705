use Rattle.std.proofs.Common.{◌∙◌}
use Rattle.rbc_locks.proofs.RoomLemmas.{err-locked}
use Rattle.rbc_locks.proofs.locks.Locks.refusal.Goals as goal

pub returns : goal.returns
returns c = c.refusal_of.ensures ∙ err-locked c.args.track.now c.args.self.now c.args.route c.route_at.result.now c.route_at.ensures
