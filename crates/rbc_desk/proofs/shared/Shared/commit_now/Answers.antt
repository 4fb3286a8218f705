use Rattle.std.proofs.Common.{rules, ◌∙◌, ap, refl, sym, subst}
use Rattle.std.proofs.lemmas.Result.{err_from_is_err_and}
use Rattle.rbc_snap.specs.Later.{IsLater}
use Rattle.rbc_snap.proofs.LaterLemmas.{later_still}
use Rattle.rbc_snap.specs.Records.{HistoryOnTrack}
use Rattle.rbc_model.specs.Views.{View}
use Rattle.rbc_desk.specs.Asking.{IsMadeIn, IsRefused}
use Rattle.rbc_desk.specs.Seats.{Seated}
use Rattle.rbc_desk.proofs.AskingLemmas.{later_twice, made_still, missing_shown}
use Rattle.rbc_desk.proofs.shared.Shared.commit_now.Goals as goal

pub invariant_of-seat-2 : goal.invariant_of-seat-2
invariant_of-seat-2 g c =
    let told = later_twice c.seat.inside.eye.told _ c.bring.new.eye.told _ c.follow.new.eye.told c.bring.ensures.later c.bring.ensures.told c.follow.ensures.later c.follow.ensures.told in
    (c.add.ensures.parts ∙ c.seat.invariant.0, search rules, later_still g.L.DeskName.opened c.seat.inside.eye.told c.follow.new.eye.told c.seat.invariant.2 told)

pub returns-clause-later : goal.returns-clause-later
returns-clause-later g c =
    let told = later_twice c.seat.inside.eye.told _ c.bring.new.eye.told _ c.follow.new.eye.told c.bring.ensures.later c.bring.ensures.told c.follow.ensures.later c.follow.ensures.told in
    subst (λ (s : Seated). IsLater s.told c.follow.new.eye.told) c.seat.view_is told

pub returns-then-not-is_there-clause-tries : goal.returns-then-not-is_there-clause-tries
returns-then-not-is_there-clause-tries g c =
    let log = c.args.self.now.log in
    (missing_shown log c.args.candidate.now.view.train (sym c.if-not-is_there.ensures), refl)

pub returns-then-is_full-clause-tries : goal.returns-then-is_full-clause-tries
returns-then-is_full-clause-tries g c = (subst (λ train. IsRefused c.args.self.now.log train c.full_refusal.result) (c.train.ensures ∙ ap (λ (v : View). v.train) c.view.ensures.view) c.full_refusal.ensures, refl)

pub returns-in_err-reserve-clause-tries : goal.returns-in_err-reserve-clause-tries
returns-in_err-reserve-clause-tries g c =
    let p = err_from_is_err_and c.from_residual.result c.from_residual.ensures.1 in
    rw (p.1, p.2) (sym c.if-not-is_there.ensures, refl)

pub returns-in_err-reserve-2-clause-tries : goal.returns-in_err-reserve-2-clause-tries
returns-in_err-reserve-2-clause-tries g c =
    let p = err_from_is_err_and c.from_residual-in_err-reserve-2.result c.from_residual-in_err-reserve-2.ensures.1 in
    rw (p.1, p.2) (sym c.if-not-is_there.ensures, refl)

pub enter-requires-clause-known : goal.enter-requires-clause-known
enter-requires-clause-known g c = sym c.if-not-is_there.ensures

pub enter-requires-clause-shown : goal.enter-requires-clause-shown
enter-requires-clause-shown g c =
    let made = subst (λ (s : Seated). IsMadeIn s.told c.args.candidate.now) (sym c.seat.view_is) c.requires in
    made_still c.seat.inside.eye.told c.args.self.now.log c.args.candidate.now (subst (λ (h : HistoryOnTrack). IsLater c.seat.inside.eye.told h) c.args.self.now.published c.bring.ensures.later) made

pub enter-requires-clause-room : goal.enter-requires-clause-room
enter-requires-clause-room g c = sym c.if-is_full.ensures
