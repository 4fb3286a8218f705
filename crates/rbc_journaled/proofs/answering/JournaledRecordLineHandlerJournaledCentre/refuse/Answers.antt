use Rattle.std.proofs.Common.{refl}
use Rattle.rbc_model.specs.declared.refusals.LineFault.TheVariants.{Overlong}
use Rattle.rbc_model.specs.SessionReply.{BadLine, refused_reply}
use Rattle.rbc_journaled.proofs.KeepingLemmas.{unchanged}
use Rattle.rbc_journaled.proofs.TreatingLemmas.{overlong_goes}
use Rattle.rbc_journaled.proofs.answering.JournaledRecordLineHandlerJournaledCentre.refuse.Goals as goal

pub returns-clause-reply : goal.returns-clause-reply
returns-clause-reply g c =
    let now = c.args.self.now in
    let track = now.history.track in
    let done = c.say.ensures.said in (
      done.0,
      λ line long. unchanged g.D.Device.seen g.D.Device.may_leave g.D.Device.moment g.D.Device.left_since g.D.Device.faults now c.say.new.self line (refused_reply track (BadLine Overlong)) done.0 c.requires.ready (overlong_goes now.history line track refl long) done.1,
      done.2,
    )
