use Rattle.std.proofs.Common.{subst}
use Rattle.rbc_record.specs.Records.{IsRight}
use Rattle.rbc_snap.specs.Ends.{Watching}
use Rattle.rbc_snap.proofs.LaterLemmas.{later_itself}
use Rattle.rbc_snap.proofs.eye.Eye.learn.Goals as goal

pub returns-else-not-is_behind-clause-later : goal.returns-else-not-is_behind-clause-later
returns-else-not-is_behind-clause-later g c =
    later_itself c.args.self.now.told (subst (λ (e : Watching). IsRight e.told) c.self.view_is c.known.ensures)
