use Rattle.std.proofs.Common.{◌≡◌, ◌<◌, Bool, true, false, List, length, refl, map, sym, subst, arith}
use Rattle.std.specs.Prelude.{All, vec_len}
use Rattle.rbc_port.specs.Clients.{FewerCome, at_close}
use Rattle.rbc_sessions.specs.Later.{IsLater}
use Rattle.rbc_sessions.specs.Seats.{Seated}
use Rattle.rbc_server.proofs.ServingLemmas.{fewer_told, first_is_there, unclosed_told}
use Rattle.rbc_server.proofs.serving.serve.Goals as goal

not_true : (b : Bool) → (b ≡ true → ⊥) → b ≡ false
not_true true f = absurd (f refl)
not_true false f = refl

pub close_desk-requires : goal.close_desk-requires
close_desk-requires g c = not_true (g.W.Sink.failed c.attend-attended.new.writer) (λ failed. c.in-Ok.ensures.write.1 failed)

pub first_sight-told-requires : goal.first_sight-told-requires
first_sight-told-requires g c =
    subst (λ (seats : List Seated). 0 < length seats) (sym c.as_slice.ensures.value)
    (first_is_there g.K.Keeper.kept _ _ _ c.args.staff _ _ _ _ c.requires.some c.in-Ok.ensures.attended)

pub returns-in-Ok-close_desk-clause-told : goal.returns-in-Ok-close_desk-clause-told
returns-in-Ok-close_desk-clause-told g c =
    let closing = c.in-Ok-close_desk.ensures.closing in
    let record_now = c.in-Ok-close_desk.record in
    c.first_sight-told.ensures.earlier record_now (subst (All (λ (seat : Seated). IsLater seat.told record_now)) (sym c.as_slice.ensures.value) closing.goes_on)

pub returns-in-Err-close_desk-clause-fault : goal.returns-in-Err-close_desk-clause-fault
returns-in-Err-close_desk-clause-fault g c =
    unclosed_told g.K.Keeper.kept g.L.DeskName.opened (g.P.Clients.coming c.args.port) _ g.L.Ledger.parts _
    c.args.staff _ (g.W.Sink.written c.close_desk.new.writer) _ _ _ c.in-Err-close_desk.fault c.in-Ok.ensures.attended c.in-Err-close_desk.ensures.fault

pub returns-in-Err-clause-no_client : goal.returns-in-Err-clause-no_client
returns-in-Err-clause-no_client g c = λ is.
    let sittings = c.args.staff.sittings in
    let coming = g.P.Clients.coming c.args.port in
    let unserved = c.in-Err.unserved in
    let as_many : length sittings.items ≡ vec_len sittings = omega (arith, sittings.ok.0) in
    subst (FewerCome coming) as_many
    (fewer_told g.K.Keeper.kept g.L.DeskName.opened coming (g.P.Clients.coming (at_close unserved.port)) g.L.Ledger.parts (map g.C.Client.parting unserved.clients.items) c.args.staff
    (g.W.Sink.written c.args.writer.now) (g.W.Sink.written c.attend-attended.new.writer) unserved.committers.items unserved.fault c.in-Err.ensures.fault is)
