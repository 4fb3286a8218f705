use Rattle.std.proofs.Common.{◌≡◌, ◌∙◌, ap, length, map, sym, subst, arith}
use Rattle.std.proofs.lemmas.List.{length-map}
use Rattle.std.specs.List.{list_any}
use Rattle.rbc_server.specs.Connections.{OneKnows}
use Rattle.rbc_server.proofs.ConnectionLemmas.{one_knows}
use Rattle.rbc_duty.specs.Stays.{duty_fault}
use Rattle.rbc_duty.proofs.StayLemmas.{none_faulted, none_stand, not_kept, relieved, stands_there}
use Rattle.rbc_duty.proofs.staying.attend.Goals as goal

pub returns-in_default-clause-stands : goal.returns-in_default-clause-stands
returns-in_default-clause-stands g c =
    none_stand g.K.Keeper.kept (map (λ p. g.P.Clients.coming p.port) c.args.posts.items) (map (λ p. p.sitting) c.args.posts.items) c.none_relieved.result.parted.committers.items c.none_relieved.result.fault
    c.none_relieved.ensures.committers c.none_relieved.ensures.fault

pub returns : goal.returns
returns g c =
    let stood = c.stand_all-duties in
    let duties = stood.result.duties.items in
    let parts = c.part_all.ensures in
    let posts = c.args.posts in
    let comings = map (λ p. g.P.Clients.coming p.port) posts.items in
    let sittings = map (λ p. p.sitting) posts.items in
    let failed = list_any (λ d. d.sitting.has_failed) duties in
    let lost = list_any (λ d. d.is_port_lost) duties in
    let is : c.fault_in-fault.result ≡ duty_fault stood.result.all_begun failed lost =
    c.fault_in-fault.ensures ∙ ap (λ ds. duty_fault stood.result.all_begun (list_any (λ d. d.sitting.has_failed) ds) (list_any (λ d. d.is_port_lost) ds)) c.as_slice.ensures.value in
    record {
      relieved = λ none.
          let well = none_faulted stood.result.all_begun failed lost (sym is ∙ none) in
          relieved g.K.Keeper.kept (λ d. d.sitting) (λ d. d.is_port_lost) comings sittings duties c.part_all.result.committers.items parts.committers _ c.part_all.result.seats.items
          stood.ensures.on_duty
          (omega (arith, stood.ensures.all well.0, length-map posts.items (λ p. g.P.Clients.coming p.port), posts.ok.0))
          (omega (arith, stood.ensures.all well.0, length-map posts.items (λ p. p.sitting), posts.ok.0)) well.1 parts.seats;
      count = λ none.
          let well = none_faulted stood.result.all_begun failed lost (sym is ∙ none) in
          omega (arith, stood.ensures.all well.0, c.part_all.result.seats.ok.0, ap length parts.seats, length-map duties (λ d. d.sitting.seat), stood.result.duties.ok.0);
      stands = stands_there g.K.Keeper.kept (λ d. d.sitting) (λ d. d.is_port_lost) comings sittings duties c.part_all.result.committers.items parts.committers stood.result.all_begun failed c.fault_in-fault.result _ is
          stood.ensures.on_duty (λ begun. omega (arith, stood.ensures.all begun, length-map posts.items (λ p. p.sitting), posts.ok.0));
      journal = λ broken.
          subst (OneKnows g.K.Keeper.failed) (sym parts.committers)
          (one_knows g.K.Keeper.failed (λ d. d.sitting) duties stood.ensures.failed (not_kept stood.result.all_begun failed lost (sym is ∙ broken)));
      looks = λ none. stood.ensures.looks;
      room = λ none.
          omega (arith, c.part_all.result.seats.ok.0, ap length parts.seats, length-map duties (λ d. d.sitting.seat), stood.result.duties.ok.0, stood.ensures.count, parts.room);
    }
