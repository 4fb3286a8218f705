use Rattle.std.proofs.Common.{subst, sym}
use Rattle.rbc_desk.specs.Seats.{Seated}
use Rattle.rbc_desk.specs.Telling.{IsToldAt}
use Rattle.rbc_desk.proofs.desk.Desk.event.Goals as goal

pub returns : goal.returns
returns g c = subst (λ (has : Seated). IsToldAt c.args.seat.now has c.args.told c.event-answer.result) (sym c.publish.ensures) c.event-answer.ensures
