use Rattle.std.proofs.Common.{sym, refl}
use Rattle.rbc_model.proofs.SaidLineLemmas.{read_is_sayable}
use Rattle.rbc_model.specs.SessionReply.{BadLine, refused_reply}
use Rattle.rbc_words.specs.SessionLines.{request_view}
use Rattle.rbc_journaled.proofs.KeepingLemmas.{unchanged}
use Rattle.rbc_journaled.proofs.TreatingLemmas.{refused_goes}
use Rattle.rbc_journaled.proofs.answering.JournaledRecordLineHandlerJournaledCentre.answer.Goals as goal

pub treat-requires-clause-sayable : goal.treat-requires-clause-sayable
treat-requires-clause-sayable g c κs within = read_is_sayable c.args.line.now (request_view c.in-Ok.request) (sym c.in-Ok.ensures)

pub returns-in-Err-clause-reply : goal.returns-in-Err-clause-reply
returns-in-Err-clause-reply g c =
    let now = c.args.self.now in
    let track = now.history.track in
    let done = c.say.ensures.said in (
      done.0,
      unchanged g.D.Device.seen g.D.Device.may_leave g.D.Device.moment g.D.Device.left_since g.D.Device.faults now c.say.new.self c.args.line.now (refused_reply track (BadLine c.in-Err.fault)) done.0 c.requires.ready
          (refused_goes now.history c.args.line.now c.in-Err.fault track refl (sym c.in-Err.ensures)) done.1,
      done.2,
    )
