use Rattle.std.proofs.Common.{ap, subst, sym}
use Rattle.rbc_snap.proofs.LaterLemmas.{later_still}
use Rattle.rbc_snap.specs.Later.{IsLater}
use Rattle.rbc_desk.specs.Seats.{Seated}
use Rattle.rbc_desk.proofs.seat.Seat.published.Goals as goal

pub returns-clause-looked : goal.returns-clause-looked
returns-clause-looked g c =
    let inside = c.self.inside in
    record {
      receipts = ap (λ (s : Seated). s.receipts) c.self.view_is;
      later = λ earlier is. later_still earlier inside.eye.told c.scene.new.self.told
          (subst (λ (s : Seated). IsLater earlier s.told) (sym c.self.view_is) is) c.scene.ensures.later;
    }
