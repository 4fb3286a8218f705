use Rattle.std.proofs.Common.{Ok, ap, refl, subst, sym, ◌∙◌}
use Rattle.rbc_replies.specs.SessionLines.{request_view}
use Rattle.rbc_session_laws.specs.Commands.{IsCommandOfTrack}
use Rattle.rbc_sessions.specs.SaidLines.{asked_by, IsReadOn}
use Rattle.rbc_sessions.proofs.HearingLemmas.{rests_or_same}
use Rattle.rbc_sessions.proofs.hearing.Hearing.rest.Goals as goal

pub prepare-requires : goal.prepare-requires
prepare-requires g c = let read = subst (IsReadOn g.L.DeskName.opened.track) c.in-Ok.is c.requires.read in record { sayable = read.sayable }

pub returns-in-Ok-prepare : goal.returns-in-Ok-prepare
returns-in-Ok-prepare g c =
    let later = c.known.ensures in
    let track = g.L.DeskName.opened.track in
    let rested = c.in-Some.rested in
    let said = c.in-Ok.said in
    let read = subst (IsReadOn track) c.in-Ok.is c.requires.read in
    let asks = ap Ok (sym c.in-Some.ensures) in
    rests_or_same track g.K.Keeper.says c.args.self.now (record { sitting = c.args.self.now.sitting; batch = c.push.new.self }) (record { rested = rested; text = c.in-Ok-prepare.text })
    (asked_by c.args.read.now) (ap asked_by c.in-Ok.is ∙ asks) c.push.result later.track
    (record {
      request = request_view said.request;
      sayable = read.sayable;
      said = c.in-Ok-prepare.ensures.says;
      asks = read.asks ∙ asks;
      of_track = subst (IsCommandOfTrack track) (sym c.in-Some.ensures) read.of_track;
    }) refl c.push.ensures
