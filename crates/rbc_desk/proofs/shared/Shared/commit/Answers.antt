use Rattle.std.proofs.lemmas.Result.{err_from_is_err_and}
use Rattle.rbc_desk.proofs.AskingLemmas.{tried_granted, tried_refused}
use Rattle.rbc_desk.proofs.shared.Shared.commit.Goals as goal

pub returns-in_err-receipt-clause-comes : goal.returns-in_err-receipt-clause-comes
returns-in_err-receipt-clause-comes g c =
    let made = c.commit_now.ensures in
    let failed = c.in_err-receipt.ensures in
    let denied =
    tried_refused c.args.seat.now c.commit_now.new.seat c.args.self.now.log c.commit_now.new.self.log c.args.candidate made.before made.told made.later c.in_err-receipt.field-0.0 failed.tries
    failed.refused in
    let p = err_from_is_err_and c.from_residual.result c.from_residual.ensures.1 in
    rw (p.1, p.2) (record { later = made.later; answered = tt; stale = tt; denied = denied })

pub returns-in-Some-clause-comes : goal.returns-in-Some-clause-comes
returns-in-Some-clause-comes g c =
    let made = c.commit_now.ensures in
    let entered = rw c.in-Some.is at c.in_ok-receipt.ensures.tries in
    let gains = rw c.in-Some.is at c.in_ok-receipt.ensures.receipt in
    let answered =
    tried_granted c.args.seat.now c.commit_now.new.seat c.args.self.now.log c.commit_now.new.self.log c.args.candidate made.before made.told made.later c.in-Some.receipt entered
    c.known.ensures.best c.known.ensures.chosen gains in
    record { later = made.later; answered = answered; stale = tt; denied = tt }
