use Rattle.std.proofs.Common.{subst}
use Rattle.rbc_record.specs.Records.{IsRight}
use Rattle.rbc_snap.specs.Sights.{SeenOf}
use Rattle.rbc_snap.proofs.MomentLemmas.{moments_right}
use Rattle.rbc_snap.proofs.sight.Sight.known.Goals as goal

pub returns : goal.returns
returns c =
    subst (λ (s : SeenOf). IsRight s.history) c.self.view_is (moments_right c.self.inside.seen.log c.self.invariant.2)
