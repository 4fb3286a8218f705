use Rattle.std.proofs.Common.{subst, sym}
use Rattle.rbc_record.specs.Records.{IsRight}
use Rattle.rbc_snap.specs.Ends.{Watching}
use Rattle.rbc_snap.specs.Later.{IsLater}
use Rattle.rbc_snap.specs.Sights.{SeenOf}
use Rattle.rbc_snap.proofs.LaterLemmas.{later_itself}
use Rattle.rbc_snap.proofs.eye.Eye.hear.Goals as goal

pub returns-then-is_behind-clause-heard : goal.returns-then-is_behind-clause-heard
returns-then-is_behind-clause-heard g c =
    let told = c.other.inside.told.history in
    let itself = subst (λ (s : SeenOf). IsLater told s.history) (sym c.again.ensures) (later_itself told c.known-then-is_behind.ensures) in
    subst (λ (e : Watching). IsLater e.told c.again.result.history) c.other.view_is itself

pub returns-else-is_behind-clause-later : goal.returns-else-is_behind-clause-later
returns-else-is_behind-clause-later g c =
    later_itself c.args.self.now.told (subst (λ (e : Watching). IsRight e.told) c.self.view_is c.known.ensures)
