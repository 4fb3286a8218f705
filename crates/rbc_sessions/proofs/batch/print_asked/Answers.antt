use Rattle.rbc_replies.specs.Replies.{reply_text}
use Rattle.rbc_sessions.proofs.SeatLemmas.{asked_below, asked_whole}
use Rattle.rbc_sessions.proofs.batch.print_asked.Goals as goal

pub reply_to-requires : goal.reply_to-requires
reply_to-requires g c =
    let due = c.requires.due in
    asked_below due.0 due.1 c.args.asked.now.train c.args.asked.now.answer due.3

pub print-requires-clause-of_track : goal.print-requires-clause-of_track
print-requires-clause-of_track g c =
    let due = c.requires.due in
    asked_whole c.args.asked.now.train c.args.track.now c.args.asked.now.answer c.reply_to.result due.0 due.1 due.2 due.3 c.reply_to.ensures.whole

pub returns : goal.returns
returns g c = (reply_text c.args.track.now c.reply_to.result, c.reply_to.ensures.comes, c.print.ensures)
