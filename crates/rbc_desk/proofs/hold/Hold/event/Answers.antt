use Rattle.rbc_desk.proofs.AskingLemmas.{told_at}
use Rattle.rbc_desk.proofs.hold.Hold.event.Goals as goal

pub returns : goal.returns
returns g c =
    let shared = c.event.ensures in
    told_at c.args.seat.now c.event.new.seat c.args.told.now c.event.result shared.told shared.later shared.receipt shared.refused
