use Rattle.std.proofs.Common.{rules, ◌∙◌, subst}
use Rattle.rbc_snap.specs.Later.{IsLater}
use Rattle.rbc_snap.proofs.LaterLemmas.{later_still}
use Rattle.rbc_desk.specs.Seats.{Seated}
use Rattle.rbc_desk.proofs.AskingLemmas.{later_twice}
use Rattle.rbc_desk.proofs.shared.Shared.event.Goals as goal

pub invariant_of-seat-2 : goal.invariant_of-seat-2
invariant_of-seat-2 g c =
    let told = later_twice c.seat.inside.eye.told _ c.bring.new.eye.told _ c.follow.new.eye.told c.bring.ensures.later c.bring.ensures.told c.follow.ensures.later c.follow.ensures.told in
    (c.add.ensures.parts ∙ c.seat.invariant.0, search rules, later_still g.L.DeskName.opened c.seat.inside.eye.told c.follow.new.eye.told c.seat.invariant.2 told)

pub returns-clause-later : goal.returns-clause-later
returns-clause-later g c =
    let told = later_twice c.seat.inside.eye.told _ c.bring.new.eye.told _ c.follow.new.eye.told c.bring.ensures.later c.bring.ensures.told c.follow.ensures.later c.follow.ensures.told in
    subst (λ (s : Seated). IsLater s.told c.follow.new.eye.told) c.seat.view_is told

pub returns-clause-receipt : goal.returns-clause-receipt
returns-clause-receipt g c = search rules
