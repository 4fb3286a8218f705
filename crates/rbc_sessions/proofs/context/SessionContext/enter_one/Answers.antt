use Rattle.std.proofs.Common.{Ok, ◌∷◌, subst, sym}
use Rattle.rbc_sessions.specs.Due.{IsOwedSoFar}
use Rattle.rbc_sessions.specs.Dues.{AskedSo}
use Rattle.rbc_sessions.specs.Resting.{IsPrepared, command_of, commands_resting}
use Rattle.rbc_sessions.proofs.DueLemmas.{so_far_one}
use Rattle.rbc_sessions.proofs.context.SessionContext.enter_one.Goals as goal

pub hear_run-requires-clause-first : goal.hear_run-requires-clause-first
hear_run-requires-clause-first g c =
    let one = c.args.one in
    subst (λ rested. IsPrepared g.L.DeskName.opened.track g.K.Keeper.says (record { rested = rested; text = one.text })) c.in-Told.is c.requires.one

pub returns-in-Told-clause-owes : goal.returns-in-Told-clause-owes
returns-in-Told-clause-owes g c =
    subst (λ rested. IsOwedSoFar c.args.self.now.track.now c.args.seat.now (Ok (command_of rested) ∷ commands_resting c.args.resting.now.items) c.args.dues.now.dues c.hear_run.new.seat
    (commands_resting c.hear_run.new.resting.items) c.hear_run.new.dues.dues) (sym c.in-Told.is) c.hear_run.ensures.owes

pub ask_at_rest-requires-clause-prepared : goal.ask_at_rest-requires-clause-prepared
ask_at_rest-requires-clause-prepared g c κs within =
    let one = c.args.one in
    subst (λ rested. IsPrepared g.L.DeskName.opened.track g.K.Keeper.says (record { rested = rested; text = one.text })) c.in-Asked.is c.requires.one

pub returns-in-Asked-clause-owes : goal.returns-in-Asked-clause-owes
returns-in-Asked-clause-owes g c =
    subst (λ rested. IsOwedSoFar c.args.self.now.track.now c.args.seat.now (Ok (command_of rested) ∷ commands_resting c.args.resting.now.items) c.args.dues.now.dues c.ask_at_rest.new.seat
    (commands_resting c.args.resting.now.items) c.push_asked.new.self.dues) (sym c.in-Asked.is)
    (so_far_one c.args.self.now.track.now c.args.seat.now c.ask_at_rest.new.seat _ (commands_resting c.args.resting.now.items) (AskedSo c.ask_at_rest.result) c.args.dues.now.dues
    c.push_asked.new.self.dues c.ask_at_rest.ensures c.push_asked.ensures.dues)
