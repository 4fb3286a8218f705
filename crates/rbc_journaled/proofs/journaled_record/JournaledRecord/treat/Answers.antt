use Rattle.std.proofs.Common.{◌∙◌, Ok, refl}
use Rattle.rbc_sessions.specs.Replies.{reply_text, refusal_view}
use Rattle.rbc_sessions.specs.SessionReply.TheVariants.{Nothing as NoReply}
use Rattle.rbc_session_laws.specs.declared.command.Command.TheVariants.{Nothing, Show}
use Rattle.rbc_words.specs.SessionLines.{request_view}
use Rattle.rbc_journaled.proofs.KeepingLemmas.{unchanged}
use Rattle.rbc_journaled.proofs.TreatingLemmas.{asked, goes_by, nothing_comes, refused_said, shown_comes}
use Rattle.rbc_journaled.proofs.journaled_record.JournaledRecord.treat.Goals as goal

pub returns-in-Ok-Nothing-clause-text : goal.returns-in-Ok-Nothing-clause-text
returns-in-Ok-Nothing-clause-text g c =
    let now = c.args.self.now in
    let said = request_view c.args.request in
    let asks = asked c.deref.result.now now.history.track said c.in-Ok-Nothing.field-0 Nothing (c.deref.ensures ∙ c.track.ensures) c.in-Ok-Nothing.field-0-is c.in-Ok-Nothing.ensures.command in
    let done = c.say.ensures.said in (
      done.0,
      λ line read.
          unchanged g.D.Device.seen g.D.Device.may_leave g.D.Device.moment g.D.Device.left_since g.D.Device.faults now c.say.new.self line (reply_text now.history.track NoReply) done.0 c.requires.going
          (goes_by now.history now.history line (reply_text now.history.track NoReply) said (Ok Nothing) read asks (nothing_comes now.history)) done.1,
      done.2,
    )

pub returns-in-Ok-Show-clause-text : goal.returns-in-Ok-Show-clause-text
returns-in-Ok-Show-clause-text g c =
    let now = c.args.self.now in
    let said = request_view c.args.request in
    let inquiry = c.in-Ok-Show.inquiry in
    let asks = asked c.deref.result.now now.history.track said c.in-Ok-Show.field-0 (Show inquiry) (c.deref.ensures ∙ c.track.ensures) c.in-Ok-Show.field-0-is c.in-Ok-Show.ensures.command in
    let (reply, text, answers, done, printed) = c.show.ensures.shown in (
      text,
      λ line read.
          unchanged g.D.Device.seen g.D.Device.may_leave g.D.Device.moment g.D.Device.left_since g.D.Device.faults now c.show.new.self line reply text c.requires.going
          (goes_by now.history now.history line reply said (Ok (Show inquiry)) read asks (shown_comes now.history inquiry reply answers)) done,
      printed,
    )

pub returns-in-Err-clause-text : goal.returns-in-Err-clause-text
returns-in-Err-clause-text g c =
    let now = c.args.self.now in
    let done = c.say-in-Err.ensures.said in (
      done.0,
      λ line read.
          unchanged g.D.Device.seen g.D.Device.may_leave g.D.Device.moment g.D.Device.left_since g.D.Device.faults now c.say-in-Err.new.self line _ done.0 c.requires.going
          (refused_said now.history line (request_view c.args.request) (refusal_view c.in-Err.refusal) c.deref.result.now now.history.track (c.deref.ensures ∙ c.track.ensures)
          refl read c.in-Err.ensures.command) done.1,
      done.2,
    )
