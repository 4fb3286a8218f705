use Rattle.std.proofs.Common.{Ok, Err, ap, ◌∙◌}
use Rattle.rbc_model.specs.Views.{View}
use Rattle.rbc_snap.proofs.LaterLemmas.{later_still}
use Rattle.rbc_desk.proofs.AskingLemmas.{answered_since, made_of, train_of}
use Rattle.rbc_desk.proofs.desk.Desk.try_outside.Goals as goal

pub returns-in-Err : goal.returns-in-Err
returns-in-Err g c =
    let told = later_still c.args.seat.now.told c.loop-try.seat.told c.look.new.seat.told c.loop-try.invariant.1 c.look.ensures.later in
    let none = c.look.ensures.receipts ∙ c.loop-try.invariant.0 in
    let train = ap (λ (v : View). v.train) c.in_ok-candidate.ensures.view ∙ train_of c.look.new.seat.told c.args.train (c.in_ok-view.view, c.in_ok-view.version) c.in_ok-view.ensures.seen in
    let denied = answered_since c.args.seat.now c.look.new.seat c.commit.new.seat told none c.in_ok-candidate.candidate.view.train c.args.train (Err c.in-Err.fault) train c.in-Err.ensures.denied in
    record { later = denied.later; answered = tt; stale = tt; denied = denied }

pub returns-in-Ok-Some : goal.returns-in-Ok-Some
returns-in-Ok-Some g c =
    let told = later_still c.args.seat.now.told c.loop-try.seat.told c.look.new.seat.told c.loop-try.invariant.1 c.look.ensures.later in
    let none = c.look.ensures.receipts ∙ c.loop-try.invariant.0 in
    let train = ap (λ (v : View). v.train) c.in_ok-candidate.ensures.view ∙ train_of c.look.new.seat.told c.args.train (c.in_ok-view.view, c.in_ok-view.version) c.in_ok-view.ensures.seen in
    let answered =
    answered_since c.args.seat.now c.look.new.seat c.commit.new.seat told none c.in_ok-candidate.candidate.view.train c.args.train (Ok c.in-Ok-Some.granted) train
    (rw c.in-Ok-Some.field-0-is at c.in-Ok-Some.ensures.answered) in
    record { later = answered.later; answered = answered; stale = tt; denied = tt }

pub commit-requires : goal.commit-requires
commit-requires g c = made_of c.look.new.seat.told c.args.train (c.in_ok-view.view, c.in_ok-view.version) c.in_ok-candidate.candidate c.in_ok-view.ensures.seen c.in_ok-candidate.ensures.view c.in_ok-candidate.ensures.version
