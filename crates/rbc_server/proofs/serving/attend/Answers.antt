use Rattle.std.proofs.Common.{rules, ◌≡◌, Err, None, ap, map, refl, sym, ◌∙◌, subst}
use Rattle.rbc_port.specs.Clients.{at_close}
use Rattle.rbc_server.specs.Connections.{StandsConnected}
use Rattle.rbc_server.specs.Serving.{IsAttended, IsServeFault}
use Rattle.rbc_server.proofs.ServingLemmas.{connect_told, none_there, sweep_told, unswept_by}
use Rattle.rbc_server.proofs.serving.attend.Goals as goal

pub returns-in-Some-clause-fault : goal.returns-in-Some-clause-fault
returns-in-Some-clause-fault g c =
    let kept = g.K.Keeper.kept in
    let opened = g.L.DeskName.opened in
    let coming = g.P.Clients.coming c.args.port in
    let staff = c.args.staff in
    let old = g.W.Sink.written c.args.writer.now in
    let connected = c.connect-visited.result in
    let committers = connected.parted.committers.items in
    let partings = map g.C.Client.parting connected.parted.gone.items in
    let to_come = g.P.Clients.coming (at_close connected.port) in
    subst (λ u. IsServeFault kept opened coming (g.P.Clients.coming (at_close u.port)) g.L.Ledger.parts (map g.C.Client.parting u.clients.items) staff u.committers.items old old u.fault) (sym c.faulted.ensures)
    (connect_told kept opened coming to_come g.L.Ledger.parts partings staff old old committers c.in-Some.fault c.from.result c.from.ensures
    (subst (StandsConnected kept coming to_come staff.sittings.items committers partings) c.in-Some.is c.connect-visited.ensures.stands))

pub returns-then-is_empty-clause-attended : goal.returns-then-is_empty-clause-attended
returns-then-is_empty-clause-attended g c =
    let coming = g.P.Clients.coming c.args.port in
    let connected = c.connect-visited.result in
    let none : connected.fault ≡ None = search rules in
    unswept_by g.K.Keeper.kept g.L.DeskName.opened.track coming (map g.C.Client.parting connected.parted.gone.items) c.args.staff connected.parted.seats.items connected.parted.committers.items
    (g.W.Sink.written c.args.writer.now) (none_there c.args.staff.workers (sym c.is_empty.ensures ∙ c.if-is_empty.true)) (c.connect-visited.ensures.served none)

pub returns-in-Ok-clause-attended : goal.returns-in-Ok-clause-attended
returns-in-Ok-clause-attended g c =
    let coming = g.P.Clients.coming c.args.port in
    let connected = c.connect-visited.result in
    let none : connected.fault ≡ None = search rules in
    let new = c.sweep_behind.new in
    subst (λ partings. IsAttended g.K.Keeper.kept g.L.DeskName.opened.track coming partings c.args.staff new.visited.seats.items new.visited.committers.items (g.W.Sink.written c.args.writer.now) (g.W.Sink.written new.writer))
    (ap (map g.C.Client.parting) (sym c.sweep_behind.ensures.gone))
    (c.in-Ok.ensures.attended coming (map g.C.Client.parting connected.parted.gone.items) c.args.staff refl (c.connect-visited.ensures.served none))

pub returns-in-Err-clause-fault : goal.returns-in-Err-clause-fault
returns-in-Err-clause-fault g c =
    let kept = g.K.Keeper.kept in
    let opened = g.L.DeskName.opened in
    let coming = g.P.Clients.coming c.args.port in
    let staff = c.args.staff in
    let old = g.W.Sink.written c.args.writer.now in
    let new = g.W.Sink.written c.sweep_behind.new.writer in
    let connected = c.connect-visited.result in
    let none : connected.fault ≡ None = search rules in
    let had = connected.parted.committers.items in
    let committers = c.sweep_behind.new.visited.committers.items in
    let partings = map g.C.Client.parting connected.parted.gone.items in
    let to_come = g.P.Clients.coming (at_close connected.port) in
    subst (λ u. IsServeFault kept opened coming (g.P.Clients.coming (at_close u.port)) g.L.Ledger.parts (map g.C.Client.parting u.clients.items) staff u.committers.items old new u.fault) (sym c.faulted-in-Err.ensures)
    (subst (λ partings. IsServeFault kept opened coming to_come g.L.Ledger.parts partings staff committers old new c.in-Err.fault) (ap (map g.C.Client.parting) (sym c.sweep_behind.ensures.gone))
    (sweep_told kept opened coming to_come g.L.Ledger.parts partings staff old new had committers c.in-Err.fault
    (subst (StandsConnected kept coming to_come staff.sittings.items had partings) none c.connect-visited.ensures.stands) c.in-Err.ensures.committers c.in-Err.ensures.which
    (λ write. c.in-Err.ensures.cut_off (ap Err write) coming partings staff refl (c.connect-visited.ensures.served none))))
