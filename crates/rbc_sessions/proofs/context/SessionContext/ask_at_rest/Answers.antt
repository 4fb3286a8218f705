use Rattle.std.proofs.Common.{sym, ◌∙◌}
use Rattle.rbc_replies.specs.Replies.{reply_text}
use Rattle.rbc_sessions.proofs.DueLemmas.{asked_owes}
use Rattle.rbc_sessions.proofs.SeatLemmas.{asked_below}
use Rattle.rbc_sessions.proofs.TreatingLemmas.{granted_adds}
use Rattle.rbc_sessions.proofs.context.SessionContext.ask_at_rest.Goals as goal

pub reply_to-requires : goal.reply_to-requires
reply_to-requires g c = asked_below c.args.seat.now.told c.ask_by-answer.new.seat.told c.args.train c.ask_by-answer.result c.ask_by-answer.ensures.since

pub lay-requires : goal.lay-requires
lay-requires g c =
    let later = c.known-2.ensures in
    let track = c.args.self.now.track.now in
    let prepared = c.requires.prepared in
    record {
      told = (
        prepared.request,
        prepared.said,
        granted_adds c.args.train (reply_text track c.reply_to.result) c.in-Ok.granted c.ask_by-answer.result c.args.seat.now c.ask_by-answer.new.seat prepared.request track
            g.L.DeskName.opened.track c.in-Ok.is c.ask_by-answer.ensures.since c.reply_to.ensures.comes later.track c.args.self.now.of_desk c.known.ensures.form prepared.sayable prepared.asks,
      );
    }

pub returns : goal.returns
returns g c =
    let later = c.known-2.ensures in
    let answered = c.ask_by-answer.ensures in
    asked_owes c.args.self.now.track.now c.args.seat.now c.ask_by-answer.new.seat c.args.train c.ask_by-answer.result c.reply_to.result (later.track ∙ sym c.args.self.now.of_desk) answered.since
    c.reply_to.ensures.comes answered.receipt answered.refused
