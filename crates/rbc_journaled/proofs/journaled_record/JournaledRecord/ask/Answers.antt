use Rattle.std.proofs.Common.{Ok}
use Rattle.rbc_sessions.specs.Replies.{reply_text}
use Rattle.rbc_session_laws.specs.declared.command.Command.TheVariants.{Authority}
use Rattle.rbc_words.specs.SessionLines.{request_view}
use Rattle.rbc_journaled.proofs.KeepingLemmas.{unchanged}
use Rattle.rbc_journaled.proofs.TreatingLemmas.{goes_by}
use Rattle.rbc_journaled.proofs.journaled_record.JournaledRecord.ask.Goals as goal

pub returns-in-Err-clause-text : goal.returns-in-Err-clause-text
returns-in-Err-clause-text g c =
    let now = c.args.self.now in
    let reply = reply_text now.history.track c.stopped-reply.result in
    let done = c.say.ensures.said in (
      done.0,
      λ line read.
          unchanged g.D.Device.seen g.D.Device.may_leave g.D.Device.moment g.D.Device.left_since g.D.Device.faults now c.say.new.self line reply done.0 c.requires.going
          (goes_by now.history now.history line reply (request_view c.args.request.now) (Ok (Authority c.args.train)) read c.requires.command c.stopped-reply.ensures.comes) done.1,
      done.2,
    )
