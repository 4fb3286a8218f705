use Rattle.std.proofs.Common.{[], ◌++◌, cond, None, ap, length, refl, subst}
use Rattle.std.specs.Prelude.{is_err}
use Rattle.std.proofs.lemmas.Result.{err_from_is_err_and}
use Rattle.rbc_model.specs.Histories.{replay}
use Rattle.rbc_model.specs.Inquiries.{inquiry_reply}
use Rattle.rbc_sessions.specs.Records.{begin_of, HistoryOnTrack}
use Rattle.rbc_session_laws.specs.Turns.{AnswersInquiry}
use Rattle.rbc_journaled.proofs.SayingLemmas.{said_settled, prints_lost, prints_behind, shown_itself}
use Rattle.rbc_journaled.proofs.journaled_record.JournaledRecord.show.Goals as goal

pub returns-in_err-settle-clause-shown : goal.returns-in_err-settle-clause-shown
returns-in_err-settle-clause-shown g c =
    let now = c.args.self.now in
    let next = c.settle.new.self in
    let put = c.settle.ensures in
    let track = now.history.track in
    let entries = now.history.entries in
    let reply = inquiry_reply track (length entries) (replay (begin_of now.history) entries) c.args.inquiry in
    let told = err_from_is_err_and c.from_residual.result c.from_residual.ensures.1 in
    let text = cond next.has_failed [] (now.replies.bytes.items ++ reply) in (
      reply,
      text,
      shown_itself (begin_of now.history) entries c.args.inquiry,
      said_settled g.D.Device.seen g.D.Device.may_leave g.D.Device.moment g.D.Device.left_since g.D.Device.faults now now next reply text refl refl refl put.history put.acknowledged put.any_moment put.later put.failed put.holds put.none_rests refl,
      prints_lost (g.W.Sink.written c.args.writer.now) (g.W.Sink.written c.settle.new.writer) next.has_failed (g.W.Sink.failed c.settle.new.writer) now.replies.bytes.items reply
          c.in_err-settle.field-0.0 c.from_residual.result (ap (λ r. is_err r) told.1) c.in_err-settle.ensures.written (λ broken. let u = c.in_err-settle.ensures.unwritten broken in u.0),
    )

pub returns-clause-shown : goal.returns-clause-shown
returns-clause-shown g c =
    let now = c.args.self.now in
    let next = c.settle.new.self in
    let put = c.settle.ensures in
    let whole = c.in_ok-settle.ensures.going.0 in
    let (reply, answers, printed) = c.show.ensures in
    let text = cond next.has_failed [] (now.replies.bytes.items ++ reply) in (
      reply,
      text,
      subst (λ (h : HistoryOnTrack). AnswersInquiry (begin_of h) h.entries reply None c.args.inquiry) put.history answers,
      said_settled g.D.Device.seen g.D.Device.may_leave g.D.Device.moment g.D.Device.left_since g.D.Device.faults now now next reply text refl refl refl put.history put.acknowledged put.any_moment put.later put.failed put.holds put.none_rests refl,
      prints_behind (g.W.Sink.written c.args.writer.now) (g.W.Sink.written c.settle.new.writer) (g.W.Sink.written c.show.new.writer) next.has_failed (g.W.Sink.failed c.settle.new.writer)
          (g.W.Sink.failed c.show.new.writer) now.replies.bytes.items reply c.show.result whole (c.in_ok-settle.ensures.written whole) printed,
    )
