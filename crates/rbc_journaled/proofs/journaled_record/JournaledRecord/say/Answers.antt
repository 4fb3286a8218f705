use Rattle.std.proofs.Common.{[], ◌++◌, cond, ◌∙◌, ap, refl, subst}
use Rattle.std.specs.Prelude.{is_err}
use Rattle.std.proofs.lemmas.Result.{err_from_is_err_and}
use Rattle.rbc_model.specs.Sessions.{Prints}
use Rattle.rbc_sessions.specs.Replies.{reply_text}
use Rattle.rbc_sessions.specs.Records.{HistoryOnTrack}
use Rattle.rbc_journaled.proofs.SayingLemmas.{said_batched, said_settled, prints_nothing, prints_lost, prints_behind}
use Rattle.rbc_journaled.proofs.journaled_record.JournaledRecord.say.Goals as goal

pub returns-then-rest-clause-said : goal.returns-then-rest-clause-said
returns-then-rest-clause-said g c =
    let now = c.args.self.now in
    let next = c.rest.new.self in
    let did = c.rest.ensures in
    let held = rw c.if-rest.true at did.rests in (
      [],
      said_batched g.D.Device.seen g.D.Device.may_leave g.D.Device.moment g.D.Device.left_since g.D.Device.faults g.met.D.Device.only_now now next (reply_text now.history.track c.args.reply.now) c.requires.whole c.requires.settled did.history did.journal did.whole did.holds held did.few,
      prints_nothing (g.W.Sink.written c.args.writer.now) next.has_failed (g.W.Sink.failed c.args.writer.now) _ (did.whole ∙ c.requires.whole) c.requires.works refl,
    )

pub returns-in_err-settle-clause-said : goal.returns-in_err-settle-clause-said
returns-in_err-settle-clause-said g c =
    let now = c.args.self.now in
    let mid = c.rest.new.self in
    let next = c.settle.new.self in
    let did = c.rest.ensures in
    let put = c.settle.ensures in
    let same = rw c.if-rest.false at did.rests in
    let reply = reply_text now.history.track c.args.reply.now in
    let told = err_from_is_err_and c.from_residual.result c.from_residual.ensures.1 in (
      cond next.has_failed [] (mid.replies.bytes.items ++ reply),
      said_settled g.D.Device.seen g.D.Device.may_leave g.D.Device.moment g.D.Device.left_since g.D.Device.faults now mid next reply (cond next.has_failed [] (mid.replies.bytes.items ++ reply)) did.history did.journal same put.history put.acknowledged put.any_moment put.later put.failed put.holds put.none_rests refl,
      prints_lost (g.W.Sink.written c.args.writer.now) (g.W.Sink.written c.settle.new.writer) next.has_failed (g.W.Sink.failed c.settle.new.writer) mid.replies.bytes.items reply
          c.in_err-settle.field-0.0 c.from_residual.result (ap (λ r. is_err r) told.1) c.in_err-settle.ensures.written (λ broken. let u = c.in_err-settle.ensures.unwritten broken in u.0),
    )

pub returns-clause-said : goal.returns-clause-said
returns-clause-said g c =
    let now = c.args.self.now in
    let mid = c.rest.new.self in
    let next = c.settle.new.self in
    let did = c.rest.ensures in
    let put = c.settle.ensures in
    let same = rw c.if-rest.false at did.rests in
    let reply = reply_text now.history.track c.args.reply.now in
    let whole = c.in_ok-settle.ensures.going.0 in
    let track = c.deref.ensures ∙ c.track.ensures ∙ ap (λ (h : HistoryOnTrack). h.track) (put.history ∙ did.history) in
    let printed = subst (λ t. Prints (g.W.Sink.written c.settle.new.writer) (g.W.Sink.written c.print.new.writer) (g.W.Sink.failed c.print.new.writer) (reply_text t c.args.reply.now) c.print.result) track c.print.ensures in (
      cond next.has_failed [] (mid.replies.bytes.items ++ reply),
      said_settled g.D.Device.seen g.D.Device.may_leave g.D.Device.moment g.D.Device.left_since g.D.Device.faults now mid next reply (cond next.has_failed [] (mid.replies.bytes.items ++ reply)) did.history did.journal same put.history put.acknowledged put.any_moment put.later put.failed put.holds put.none_rests refl,
      prints_behind (g.W.Sink.written c.args.writer.now) (g.W.Sink.written c.settle.new.writer) (g.W.Sink.written c.print.new.writer) next.has_failed (g.W.Sink.failed c.settle.new.writer)
          (g.W.Sink.failed c.print.new.writer) mid.replies.bytes.items reply c.print.result whole (c.in_ok-settle.ensures.written whole) printed,
    )
