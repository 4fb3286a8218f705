use Rattle.std.proofs.Common.{IfErr, subst, Err}
use Rattle.rbc_desk.specs.Asking.{IsAnsweredThen}
use Rattle.rbc_desk.specs.Seats.{Seated}
use Rattle.rbc_desk.proofs.AskingLemmas.{look_denied, look_view}
use Rattle.rbc_desk.proofs.desk.look_by_eye.Goals as goal

pub returns-clause-seen : goal.returns-clause-seen
returns-clause-seen g c = look_view c.seat.inside.eye.told c.view.new.self.told c.args.train c.view.result c.seen_by.result c.seen_by.ensures c.view.ensures.seen

pub returns-clause-denied : goal.returns-clause-denied
returns-clause-denied g c =
    subst (λ (s : Seated). IfErr c.seen_by.result (λ fault. IsAnsweredThen s.told c.view.new.self.told c.args.train (Err fault))) c.seat.view_is
    (look_denied c.seat.inside.eye.told c.view.new.self.told c.args.train c.view.result c.seen_by.result c.seen_by.ensures c.view.ensures.later c.view.ensures.seen)
