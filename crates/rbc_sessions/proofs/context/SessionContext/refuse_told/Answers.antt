use Rattle.std.proofs.Common.{◌∙◌, subst, sym}
use Rattle.rbc_model.specs.HistoryText.{IsToldOfTrack}
use Rattle.rbc_model.specs.SessionReply.{refused_reply}
use Rattle.rbc_replies.specs.Replies.{refusal_view}
use Rattle.rbc_sessions.proofs.SeatLemmas.{not_told_named_at_desk}
use Rattle.rbc_sessions.proofs.TreatingLemmas.{not_told_replied}
use Rattle.rbc_sessions.proofs.context.SessionContext.refuse_told.Goals as goal

pub print-requires-clause-of_track : goal.print-requires-clause-of_track
print-requires-clause-of_track g c =
    let track = c.args.self.now.track.now in
    let of_desk = c.args.self.now.of_desk in
    let later = c.known-2.ensures in
    rw c.refusal_of.ensures (not_told_named_at_desk c.args.told c.event_in_vain-fault.result track c.args.seat.now.told c.event_in_vain-fault.new.seat.told c.known.ensures.sound
    (subst (λ t. IsToldOfTrack t c.args.told) (sym of_desk) c.requires.of_track) (later.track ∙ sym of_desk) c.event_in_vain-fault.ensures.since)

pub returns : goal.returns
returns g c =
    let track = c.args.self.now.track.now in
    let later = c.known-2.ensures in
    let told = c.event_in_vain-fault.ensures in (
      refused_reply track (refusal_view c.refusal_of.result),
      not_told_replied c.args.told c.event_in_vain-fault.result c.refusal_of.result track c.args.seat.now c.event_in_vain-fault.new.seat c.refusal_of.ensures
          (later.track ∙ sym c.args.self.now.of_desk) told.since told.refused,
      c.print.ensures,
    )
