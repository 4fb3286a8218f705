use Rattle.std.proofs.Common.{◌∙◌, None, Ok}
use Rattle.rbc_replies.specs.Replies.{reply_text, refusal_view}
use Rattle.rbc_model.specs.SessionReply.{refused_reply}
use Rattle.rbc_session_laws.specs.declared.command.Command.TheVariants.{Event, Authority, Show}
use Rattle.rbc_session_laws.specs.Turns.{AnswersCommand}
use Rattle.rbc_sessions.proofs.CentreLemmas.{printed_comes, line_comes, command_is, refused_comes}
use Rattle.rbc_sessions.proofs.TellingLemmas.{nothing_added}
use Rattle.rbc_sessions.proofs.centre.RecordLineHandlerCentre.answer.Goals as goal

pub returns-in-Ok-Event-clause-reply : goal.returns-in-Ok-Event-clause-reply
returns-in-Ok-Event-clause-reply g c =
    let before = c.args.self.now in
    let after = c.tell-reply.new.history in
    let track = c.deref-in-Ok-Event.result.now in
    let comes = printed_comes (λ t entries said added. AnswersCommand t entries said added (Ok (Event c.in-Ok-Event.told))) before after c.tell-reply.result track
    (c.deref-in-Ok-Event.ensures ∙ c.track-in-Ok-Event.ensures) c.tell-reply.ensures.comes in (
      reply_text track c.tell-reply.result,
      line_comes before after c.args.line.now (reply_text track c.tell-reply.result) (Ok (Event c.in-Ok-Event.told)) c.deref.result.now (c.deref.ensures ∙ c.track.ensures)
          (command_is c.deref.result.now c.args.line.now c.in-Ok-Event.field-0 (Event c.in-Ok-Event.told) c.in-Ok-Event.field-0-is c.in-Ok-Event.ensures.command) comes,
      record { text = c.print-in-Ok-Event.ensures.text; failed = c.print-in-Ok-Event.ensures.failed },
    )

pub returns-in-Ok-Authority-clause-reply : goal.returns-in-Ok-Authority-clause-reply
returns-in-Ok-Authority-clause-reply g c = (
  c.ask.ensures.0,
  line_comes c.args.self.now c.ask.new.history c.args.line.now c.ask.ensures.0 (Ok (Authority c.in-Ok-Authority.number)) c.deref.result.now (c.deref.ensures ∙ c.track.ensures)
      (command_is c.deref.result.now c.args.line.now c.in-Ok-Authority.field-0 (Authority c.in-Ok-Authority.number) c.in-Ok-Authority.field-0-is c.in-Ok-Authority.ensures.command) (rw c.new.ensures at c.ask.ensures.1),
  c.ask.ensures.2,
)

pub returns-in-Ok-Show-clause-reply : goal.returns-in-Ok-Show-clause-reply
returns-in-Ok-Show-clause-reply g c =
    let now = c.args.self.now in
    let (reply, answers, printed) = c.show.ensures in (
      reply,
      line_comes now now c.args.line.now reply (Ok (Show c.in-Ok-Show.inquiry)) c.deref.result.now (c.deref.ensures ∙ c.track.ensures)
          (command_is c.deref.result.now c.args.line.now c.in-Ok-Show.field-0 (Show c.in-Ok-Show.inquiry) c.in-Ok-Show.field-0-is c.in-Ok-Show.ensures.command) (None, answers, nothing_added now),
      printed,
    )

pub returns-in-Err-clause-reply : goal.returns-in-Err-clause-reply
returns-in-Err-clause-reply g c = (
  refused_reply c.deref-in-Err.result.now (refusal_view c.in-Err.refusal),
  refused_comes c.args.self.now c.args.line.now (refusal_view c.in-Err.refusal) c.deref.result.now c.deref-in-Err.result.now (c.deref.ensures ∙ c.track.ensures)
      (c.deref-in-Err.ensures ∙ c.track-in-Err.ensures) c.in-Err.ensures.command,
  record { text = c.print-in-Err.ensures.text; failed = c.print-in-Err.ensures.failed },
)
