use Rattle.std.proofs.Common.{subst, sym}
use Rattle.rbc_snap.specs.Later.{IsLater}
use Rattle.rbc_snap.specs.Sights.{SeenOf}
use Rattle.rbc_snap.proofs.LaterLemmas.{later_itself}
use Rattle.rbc_snap.proofs.eye.share.Goals as goal

pub returns-then-is_behind-clause-later : goal.returns-then-is_behind-clause-later
returns-then-is_behind-clause-later c =
    subst (λ (s : SeenOf). IsLater c.args.told.now.history s.history) (sym c.again.ensures) (later_itself c.args.told.now.history c.known.ensures)
