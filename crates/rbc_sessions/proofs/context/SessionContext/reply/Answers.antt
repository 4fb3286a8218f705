use Rattle.std.proofs.Common.{Ok, [], ◌∙◌, ap, subst, sym}
use Rattle.rbc_model.specs.SessionReply.{refused_reply}
use Rattle.rbc_replies.specs.Replies.{refusal_view, RefusalIsOfTrack}
use Rattle.rbc_session_laws.specs.Commands.{IsCommandOfTrack}
use Rattle.rbc_session_laws.specs.declared.command.Command.TheVariants.{Authority}
use Rattle.rbc_sessions.specs.SaidLines.{asked_by, IsReadOn}
use Rattle.rbc_sessions.specs.SeatChanges.{SeatReplies}
use Rattle.rbc_sessions.proofs.TreatingLemmas.{nothing_replied, refused_replied}
use Rattle.rbc_sessions.proofs.context.SessionContext.reply.Goals as goal

pub returns-in-Nothing : goal.returns-in-Nothing
returns-in-Nothing g c =
    ([], nothing_replied c.args.seat.now (asked_by c.args.read.now) (sym (ap asked_by c.in-Ok.is ∙ ap Ok c.in-Nothing.is)), c.print.ensures)

pub refuse_told-requires-clause-of_track : goal.refuse_told-requires-clause-of_track
refuse_told-requires-clause-of_track g c =
    let said = subst (IsReadOn g.L.DeskName.opened.track) c.in-Ok.is c.requires.read in
    subst (IsCommandOfTrack g.L.DeskName.opened.track) c.in-Event.is said.of_track

pub returns-in-Event : goal.returns-in-Event
returns-in-Event g c =
    let (reply, replies, printed) = c.refuse_told.ensures in
    let asks = ap asked_by c.in-Ok.is ∙ ap Ok c.in-Event.is in
    (reply, subst (λ command. SeatReplies command c.args.seat.now reply c.refuse_told.new.seat) (sym asks) replies, printed)

pub returns-in-Authority : goal.returns-in-Authority
returns-in-Authority g c =
    let (reply, replies, printed) = c.refuse_asked.ensures in
    let asks = ap asked_by c.in-Ok.is ∙ ap Ok c.in-Authority.is ∙ ap (λ train. Ok (Authority train)) (sym c.new.ensures) in
    (reply, subst (λ command. SeatReplies command c.args.seat.now reply c.refuse_asked.new.seat) (sym asks) replies, printed)

pub returns-in-Show : goal.returns-in-Show
returns-in-Show g c =
    let (reply, replies, printed) = c.show.ensures in
    let asks = ap asked_by c.in-Ok.is ∙ ap Ok c.in-Show.is in
    (reply, subst (λ command. SeatReplies command c.args.seat.now reply c.show.new.seat) (sym asks) replies, printed)

pub print-requires-in-Err-clause-of_track : goal.print-requires-in-Err-clause-of_track
print-requires-in-Err-clause-of_track g c =
    subst (λ t. RefusalIsOfTrack t c.in-Err.refusal) (sym c.args.self.now.of_desk) (subst (IsReadOn g.L.DeskName.opened.track) c.in-Err.is c.requires.read)

pub returns-in-Err : goal.returns-in-Err
returns-in-Err g c =
    let later = c.known.ensures in
    let track = c.args.self.now.track.now in
    let refusal = refusal_view c.in-Err.refusal in (
      refused_reply track refusal,
      refused_replied c.args.seat.now (asked_by c.args.read.now) refusal track (c.args.self.now.of_desk ∙ sym later.track) (ap asked_by (sym c.in-Err.is)),
      c.print-in-Err.ensures,
    )
