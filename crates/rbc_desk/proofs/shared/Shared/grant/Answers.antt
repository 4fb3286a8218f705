use Rattle.std.proofs.Common.{Ok, Err, ap, sym, subst, ◌∙◌}
use Rattle.rbc_model.specs.Views.{View}
use Rattle.rbc_snap.specs.Records.{HistoryOnTrack}
use Rattle.rbc_desk.specs.Asking.{IsViewIn}
use Rattle.rbc_desk.proofs.AskingLemmas.{answered_since, made_of, shown_made, train_of}
use Rattle.rbc_desk.proofs.shared.Shared.grant.Goals as goal

pub returns-in-Err : goal.returns-in-Err
returns-in-Err g c =
    let train = ap (λ (v : View). v.train) c.in_ok-candidate.ensures.view ∙ train_of c.args.self.now.log c.args.train (c.in_ok-view.view, c.in_ok-view.version) c.in_ok-view.ensures.seen in
    answered_since c.args.seat.now c.look.new.seat c.commit.new.seat c.look.ensures.later c.look.ensures.receipts c.in_ok-candidate.candidate.view.train c.args.train (Err c.in-Err.fault) train c.in-Err.ensures.comes.denied

pub returns-in-Ok-Some : goal.returns-in-Ok-Some
returns-in-Ok-Some g c =
    let train = ap (λ (v : View). v.train) c.in_ok-candidate.ensures.view ∙ train_of c.args.self.now.log c.args.train (c.in_ok-view.view, c.in_ok-view.version) c.in_ok-view.ensures.seen in
    answered_since c.args.seat.now c.look.new.seat c.commit.new.seat c.look.ensures.later c.look.ensures.receipts c.in_ok-candidate.candidate.view.train c.args.train (Ok c.in-Ok-Some.granted) train (rw c.in-Ok-Some.field-0-is at c.in-Ok-Some.ensures.comes.answered)

pub commit-requires : goal.commit-requires
commit-requires g c =
    made_of c.look.new.seat.told c.args.train (c.in_ok-view.view, c.in_ok-view.version) c.in_ok-candidate.candidate
    (subst (λ (h : HistoryOnTrack). IsViewIn h c.args.train (c.in_ok-view.view, c.in_ok-view.version)) (sym c.look.ensures.told) c.in_ok-view.ensures.seen) c.in_ok-candidate.ensures.view c.in_ok-candidate.ensures.version

pub unreachable-requires : goal.unreachable-requires
unreachable-requires g c =
    let log = c.args.self.now.log in
    let candidate = c.in_ok-candidate.candidate in
    let made = made_of log c.args.train (c.in_ok-view.view, c.in_ok-view.version) candidate c.in_ok-view.ensures.seen c.in_ok-candidate.ensures.view c.in_ok-candidate.ensures.version in
    c.commit.ensures.current (shown_made log candidate made) (c.in-Ok-None.is ∙ ap Ok c.in-Ok-None.field-0-is)
