use Rattle.std.proofs.Common.{◌∙◌, Ok, ap, subst, sym}
use Rattle.rbc_model.specs.SessionText.{parse_session}
use Rattle.rbc_sessions.specs.Replies.{reply_text, ReplyIsWhole}
use Rattle.rbc_session_laws.specs.declared.command.Command.TheVariants.{Event}
use Rattle.rbc_sessions.specs.Records.{HistoryOnTrack}
use Rattle.rbc_words.specs.SessionLines.{request_view}
use Rattle.rbc_streams.specs.declared.text.Text.{Text}
use Rattle.rbc_journaled.proofs.KeepingLemmas.{advances, told_still, told_after}
use Rattle.rbc_journaled.proofs.TreatingLemmas.{goes_from, said_goes, treated_by}
use Rattle.rbc_journaled.proofs.journaled_record.JournaledRecord.hear.Goals as goal

pub returns-in_default-clause-text : goal.returns-in_default-clause-text
returns-in_default-clause-text g c =
    let first = c.args.self.now in
    let now = c.make_room.new.self in
    let room = c.make_room.ensures in
    let reply = reply_text now.history.track c.in_vain-reply.result in
    let comes = c.in_vain-reply.ensures.comes in
    let done = c.say.ensures.said in (
      done.0,
      λ line read.
          advances g.D.Device.seen g.D.Device.may_leave g.D.Device.moment g.D.Device.left_since g.D.Device.faults first now c.say.new.self line reply done.0 c.requires.going
          (goes_from first.history now.history now.history line reply (request_view c.args.request.now) (Ok (Event c.args.told.now)) room.history read c.requires.command comes)
          (told_still g.D.Device.seen first now c.requires.going.told room.history room.device room.staged) room.device (ap (λ (t : Text). t.bytes.items) room.replies) room.batch done.1,
      done.2,
    )

pub say-requires-2-clause-reply : goal.say-requires-2-clause-reply
say-requires-2-clause-reply g c =
    subst (λ (h : HistoryOnTrack). ReplyIsWhole h.track c.tell-reply.result) (sym c.stage.ensures.history)
    (subst (λ t. ReplyIsWhole t c.tell-reply.result) (sym (ap (λ (h : HistoryOnTrack). h.track) c.tell-reply.ensures.comes.2)) c.tell-reply.ensures.whole)

pub returns-clause-text : goal.returns-clause-text
returns-clause-text g c =
    let first = c.args.self.now in
    let made = c.make_room.new.self in
    let room = c.make_room.ensures in
    let after = c.tell-reply.new.history in
    let now = c.stage.new.self in
    let kept = c.stage.ensures in
    let device = kept.device ∙ room.device in
    let reply = reply_text now.history.track c.tell-reply.result in
    let comes = c.tell-reply.ensures.comes in
    let done = c.say-2.ensures.said in (
      done.0,
      λ line read.
          let treated =
          treated_by first.history made.history after line c.as_slice.result.now (request_view c.args.request.now) (Ok (Event c.args.told.now)) c.tell-reply.result room.history read
          (ap parse_session c.as_slice.ensures.value ∙ c.in-Ok.ensures.says) c.requires.command comes in
          let told =
          told_after g.D.Device.seen first made now line c.as_slice.result.now (reply_text after.track c.tell-reply.result) c.version-before.result after c.known.ensures.form c.version-before.ensures.count
          treated c.requires.going.told kept.history device room.staged kept.staged in
          advances g.D.Device.seen g.D.Device.may_leave g.D.Device.moment g.D.Device.left_since g.D.Device.faults first now c.say-2.new.self line reply done.0 c.requires.going
          (said_goes first.history after now.history line c.tell-reply.result kept.history treated.goes) told device
          (ap (λ (t : Text). t.bytes.items) (kept.replies ∙ room.replies)) (kept.batch ∙ room.batch) done.1,
      done.2,
    )
