use Rattle.std.proofs.Common.{◌≡◌, ◌∙◌, ap, length, sym, subst, arith}
use Rattle.std.proofs.lemmas.List.{length-map}
use Rattle.std.specs.List.{list_any}
use Rattle.rbc_server.specs.Connections.{AreServed, OneKnows, StandsConnected, fault_of}
use Rattle.rbc_server.proofs.ConnectionLemmas.{none_stand, none_stood, one_knows, parted, session_stood, stands}
use Rattle.rbc_server.proofs.connections.connect.Goals as goal

pub returns-in_default-clause-stands : goal.returns-in_default-clause-stands
returns-in_default-clause-stands g c =
    let none = c.none_connected.ensures in
    none_stand g.K.Keeper.kept g.C.Client.parting (g.P.Clients.coming c.args.port) _ c.args.sittings.items c.none_connected.result.parted.committers.items c.none_connected.result.parted.gone.items
    c.none_connected.result.fault none.committers none.gone none.fault (ap g.P.Clients.coming (sym none.port))

pub returns : goal.returns
returns g c =
    let visited = c.visit_all-visits in
    let visits = visited.result.visits.items in
    let parts = c.part_all.ensures in
    let coming = g.P.Clients.coming c.args.port in
    let sittings = c.args.sittings.items in
    let any = list_any (λ v. v.sitting.has_failed) visits in
    let is : c.fault_of-fault.result ≡ fault_of visited.result.fault any =
    c.fault_of-fault.ensures ∙ ap (λ vs. fault_of visited.result.fault (list_any (λ v. v.sitting.has_failed) vs)) c.as_slice.ensures.value in
    record {
      served = λ none.
          let stood = none_stood visited.result.fault any (sym is ∙ none) in
          let all = subst (AreServed g.K.Keeper.kept coming _ sittings _ _) stood.0 visited.ensures.served in
          parted g.K.Keeper.kept (λ v. v.sitting) (λ v. v.gone) g.C.Client.parting coming sittings visits c.part_all.result.seats.items c.part_all.result.committers.items c.part_all.result.gone.items
          all.0 stood.1 parts.seats parts.committers parts.gone;
      stands = subst (StandsConnected g.K.Keeper.kept coming _ sittings _ _) (sym is)
          (stands g.K.Keeper.kept (λ v. v.sitting) (λ v. v.gone) g.C.Client.parting coming _ sittings visits c.part_all.result.committers.items c.part_all.result.gone.items visited.result.fault any
          visited.ensures.served parts.committers parts.gone);
      room = λ none.
          let seats = c.in-Ok.ensures.seats in
          let many = ap length parts.seats in
          omega
          (arith, c.part_all.result.seats.ok.0, many, length-map visits (λ v. v.sitting.seat), visited.result.visits.ok.0, visited.ensures.count, parts.room, seats.1, c.len.ensures);
      journal = λ broken.
          subst (OneKnows g.K.Keeper.failed) (sym parts.committers)
          (one_knows g.K.Keeper.failed (λ v. v.sitting) visits visited.ensures.failed (session_stood visited.result.fault any (sym is ∙ broken) visited.ensures.not_kept));
    }
