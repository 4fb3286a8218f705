use Rattle.std.proofs.Common.{subst}
use Rattle.rbc_record.specs.Records.{IsRight}
use Rattle.rbc_snap.specs.Ends.{Watching}
use Rattle.rbc_snap.proofs.eye.Eye.known.Goals as goal

pub returns : goal.returns
returns g c = subst (λ (e : Watching). IsRight e.told) c.self.view_is c.known.ensures
