use Rattle.std.proofs.Common.{rules, ◌≡◌, ◌∙◌, Option, None, Some, ap, map, subst, sym}
use Rattle.std.proofs.lemmas.Bool.{both_ways}
use Rattle.std.specs.Prelude.{All, IfSome}
use Rattle.rbc_server.specs.Later.{IsLater}
use Rattle.rbc_server.specs.Looking.{LooksOn}
use Rattle.rbc_server.specs.Seats.{Seated}
use Rattle.rbc_server.specs.Serving.{IsClosed, IsCloseFault}
use Rattle.rbc_server.specs.declared.serving.ServeFault.{ServeFault}
use Rattle.rbc_duty.specs.Stays.{StandsRelieved}
use Rattle.rbc_duty.proofs.StayLemmas.{fault_stands, not_written, unclosed_stands}
use Rattle.rbc_duty.proofs.staying.stay.Goals as goal

pub returns-in-Some-clause-fault : goal.returns-in-Some-clause-fault
returns-in-Some-clause-fault g c =
    let posts = c.args.company.posts.items in
    let comings = map (λ p. g.P.Clients.coming p.port) posts in
    let sittings = map (λ p. p.sitting) posts in
    let committers = c.attend-parted.result.parted.committers.items in
    let written = g.W.Sink.written c.args.writer.now in
    fault_stands g.K.Keeper.kept g.L.DeskName.opened g.L.Ledger.parts comings sittings (g.B.Onlooker.seat c.args.company.onlooker) committers written written c.in-Some.fault
    (subst (λ (f : Option ServeFault). IfSome f (StandsRelieved g.K.Keeper.kept comings sittings committers)) c.in-Some.is c.attend-parted.ensures.stands)

pub returns-in-Some-clause-write : goal.returns-in-Some-clause-write
returns-in-Some-clause-write g c =
    let posts = c.args.company.posts.items in
    let comings = map (λ p. g.P.Clients.coming p.port) posts in
    let sittings = map (λ p. p.sitting) posts in
    let committers = c.attend-parted.result.parted.committers.items in (
      (λ is. absurd (not_written g.K.Keeper.kept comings sittings committers c.in-Some.fault
          (subst (λ (f : Option ServeFault). IfSome f (StandsRelieved g.K.Keeper.kept comings sittings committers)) c.in-Some.is c.attend-parted.ensures.stands) is)),
      (λ failed. absurd (both_ways _ c.requires.going failed)),
    )

pub returns-in-Some-clause-journal_failed : goal.returns-in-Some-clause-journal_failed
returns-in-Some-clause-journal_failed g c = λ is. c.attend-parted.ensures.journal (c.in-Some.is ∙ ap Some is)

pub returns-in-Ok-clause-stayed : goal.returns-in-Ok-clause-stayed
returns-in-Ok-clause-stayed g c =
    let none : c.attend-parted.result.fault ≡ None = search rules in
    record {
      seats = c.attend-parted.result.parted.seats.items;
      relieved = c.attend-parted.ensures.relieved none;
      looker = c.into_seat.result;
      looked = subst (LooksOn (g.B.Onlooker.seat c.args.company.onlooker)) (sym c.into_seat.ensures) (c.attend-parted.ensures.looks none);
      closing = subst (λ s. IsClosed g.L.DeskName.opened s c.in-Ok.record) c.with_looker-seats.ensures.seats c.in-Ok.ensures.closing;
      closed = c.in-Ok.ensures.text;
    }

pub returns-in-Ok-clause-told : goal.returns-in-Ok-clause-told
returns-in-Ok-clause-told g c =
    let closing = c.in-Ok.ensures.closing in
    let record_now = c.in-Ok.record in
    c.last_sight-told.ensures.earlier record_now (subst (All (λ (seat : Seated). IsLater seat.told record_now)) (sym c.as_slice.ensures.value) closing.goes_on)

pub returns-in-Err-clause-fault : goal.returns-in-Err-clause-fault
returns-in-Err-clause-fault g c =
    let none : c.attend-parted.result.fault ≡ None = search rules in
    let posts = c.args.company.posts.items in
    let old = g.W.Sink.written c.args.writer.now in
    let new = g.W.Sink.written c.close_desk.new.writer in
    unclosed_stands g.K.Keeper.kept g.L.DeskName.opened g.L.Ledger.parts (map (λ p. g.P.Clients.coming p.port) posts) (map (λ p. p.sitting) posts)
    (g.B.Onlooker.seat c.args.company.onlooker) c.attend-parted.result.parted.committers.items old new c.attend-parted.result.parted.seats.items c.into_seat.result c.in-Err.fault
    (c.attend-parted.ensures.relieved none)
    (subst (LooksOn (g.B.Onlooker.seat c.args.company.onlooker)) (sym c.into_seat.ensures) (c.attend-parted.ensures.looks none))
    (subst (λ s. IsCloseFault g.L.DeskName.opened g.L.Ledger.parts s old new c.in-Err.fault) c.with_looker-seats.ensures.seats c.in-Err.ensures.fault)
