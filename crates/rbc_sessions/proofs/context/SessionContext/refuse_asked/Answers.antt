use Rattle.std.proofs.Common.{Err, ◌∙◌, sym}
use Rattle.rbc_replies.specs.Replies.{reply_text}
use Rattle.rbc_sessions.proofs.SeatLemmas.{asked_whole}
use Rattle.rbc_sessions.proofs.TreatingLemmas.{denied_replied}
use Rattle.rbc_sessions.proofs.context.SessionContext.refuse_asked.Goals as goal

pub print-requires-clause-of_track : goal.print-requires-clause-of_track
print-requires-clause-of_track g c =
    let track = c.args.self.now.track.now in
    let later = c.known-2.ensures in
    asked_whole c.args.train track (Err c.ask_in_vain.result) c.reply_to.result c.args.seat.now.told c.ask_in_vain.new.seat.told (later.track ∙ sym c.args.self.now.of_desk)
    c.ask_in_vain.ensures.since c.reply_to.ensures.whole

pub returns : goal.returns
returns g c =
    let track = c.args.self.now.track.now in
    let later = c.known-2.ensures in
    let reply = reply_text track c.reply_to.result in (
      reply,
      denied_replied c.args.train track reply c.ask_in_vain.result c.args.seat.now c.ask_in_vain.new.seat (later.track ∙ sym c.args.self.now.of_desk) c.ask_in_vain.ensures.since
          c.reply_to.ensures.comes c.ask_in_vain.ensures.refused,
      c.print.ensures,
    )
