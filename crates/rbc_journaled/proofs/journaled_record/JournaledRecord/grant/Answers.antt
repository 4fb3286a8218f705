use Rattle.std.proofs.Common.{◌∙◌, Ok, ap, subst, sym}
use Rattle.rbc_model.specs.SessionText.{parse_session}
use Rattle.rbc_model.specs.Views.{View}
use Rattle.rbc_sessions.specs.Replies.{reply_text, ReplyIsWhole}
use Rattle.rbc_sessions.specs.SessionRefusal.TheVariants.{Memory as NoMemory}
use Rattle.rbc_sessions.specs.SessionReply.TheVariants.{Refused as RefusedReply}
use Rattle.rbc_session_laws.specs.declared.command.Command.TheVariants.{Authority}
use Rattle.rbc_sessions.specs.Records.{HistoryOnTrack}
use Rattle.rbc_words.specs.SessionLines.{request_view}
use Rattle.rbc_streams.specs.declared.text.Text.{Text}
use Rattle.rbc_journaled.proofs.KeepingLemmas.{advances, told_still, told_after}
use Rattle.rbc_journaled.proofs.TreatingLemmas.{ComesTo, given_up, goes_from, said_goes, treated_by}
use Rattle.rbc_journaled.proofs.journaled_record.JournaledRecord.grant.Goals as goal

pub returns-in_default-clause-text : goal.returns-in_default-clause-text
returns-in_default-clause-text g c =
    let first = c.args.self.now in
    let now = c.make_room.new.self in
    let room = c.make_room.ensures in
    let reply = reply_text now.history.track (RefusedReply NoMemory) in
    let comes = given_up first.history now.history c.args.shown.train c.args.shown room.history c.requires.shown in
    let done = c.say.ensures.said in (
      done.0,
      λ line read.
          advances g.D.Device.seen g.D.Device.may_leave g.D.Device.moment g.D.Device.left_since g.D.Device.faults first now c.say.new.self line reply done.0 c.requires.going
          (goes_from first.history now.history now.history line reply (request_view c.args.request.now) (Ok (Authority c.args.shown.train)) room.history read c.requires.command comes)
          (told_still g.D.Device.seen first now c.requires.going.told room.history room.device room.staged) room.device (ap (λ (t : Text). t.bytes.items) room.replies) room.batch done.1,
      done.2,
    )

pub returns-in_default-candidate-clause-text : goal.returns-in_default-candidate-clause-text
returns-in_default-candidate-clause-text g c =
    let first = c.args.self.now in
    let now = c.make_room.new.self in
    let room = c.make_room.ensures in
    let reply = reply_text now.history.track (RefusedReply NoMemory) in
    let comes = given_up first.history now.history c.args.shown.train c.args.shown room.history c.requires.shown in
    let done = c.say-in_default-candidate.ensures.said in (
      done.0,
      λ line read.
          advances g.D.Device.seen g.D.Device.may_leave g.D.Device.moment g.D.Device.left_since g.D.Device.faults first now c.say-in_default-candidate.new.self line reply done.0 c.requires.going
          (goes_from first.history now.history now.history line reply (request_view c.args.request.now) (Ok (Authority c.args.shown.train)) room.history read c.requires.command comes)
          (told_still g.D.Device.seen first now c.requires.going.told room.history room.device room.staged) room.device (ap (λ (t : Text). t.bytes.items) room.replies) room.batch done.1,
      done.2,
    )

pub say-requires-2-clause-reply : goal.say-requires-2-clause-reply
say-requires-2-clause-reply g c =
    subst (λ (h : HistoryOnTrack). ReplyIsWhole h.track c.commit-reply.result) (sym c.stage.ensures.history)
    (subst (λ t. ReplyIsWhole t c.commit-reply.result) (sym (ap (λ (h : HistoryOnTrack). h.track) c.commit-reply.ensures.comes.2)) c.commit-reply.ensures.whole)

pub returns-clause-text : goal.returns-clause-text
returns-clause-text g c =
    let first = c.args.self.now in
    let made = c.make_room.new.self in
    let room = c.make_room.ensures in
    let after = c.commit-reply.new.history in
    let now = c.stage.new.self in
    let kept = c.stage.ensures in
    let device = kept.device ∙ room.device in
    let reply = reply_text now.history.track c.commit-reply.result in
    let comes = subst (λ (v : View). ComesTo (Ok (Authority v.train)) made.history (reply_text made.history.track c.commit-reply.result) after) c.in-Ok-candidate.ensures.view c.commit-reply.ensures.comes in
    let done = c.say-2.ensures.said in (
      done.0,
      λ line read.
          let treated =
          treated_by first.history made.history after line c.as_slice.result.now (request_view c.args.request.now) (Ok (Authority c.args.shown.train)) c.commit-reply.result room.history read
          (ap parse_session c.as_slice.ensures.value ∙ c.in-Ok.ensures.says) c.requires.command comes in
          let told =
          told_after g.D.Device.seen first made now line c.as_slice.result.now (reply_text after.track c.commit-reply.result) c.version-before.result after c.known.ensures.form c.version-before.ensures.count
          treated c.requires.going.told kept.history device room.staged kept.staged in
          advances g.D.Device.seen g.D.Device.may_leave g.D.Device.moment g.D.Device.left_since g.D.Device.faults first now c.say-2.new.self line reply done.0 c.requires.going
          (said_goes first.history after now.history line c.commit-reply.result kept.history treated.goes) told device
          (ap (λ (t : Text). t.bytes.items) (kept.replies ∙ room.replies)) (kept.batch ∙ room.batch) done.1,
      done.2,
    )
