use Rattle.std.proofs.Common.{[], ◌++◌, ◌∙◌, ap, cond}
use Rattle.rbc_session_laws.specs.Commands.{command_in}
use Rattle.rbc_sessions.specs.SaidLines.{asked_by}
use Rattle.rbc_sessions.proofs.HearingLemmas.{caught_up, cut_early, printed_behind}
use Rattle.rbc_sessions.proofs.hearing.Hearing.reply.Goals as goal

pub returns-in-Ok-clause-entered : goal.returns-in-Ok-clause-entered
returns-in-Ok-clause-entered g c =
    let (early, enters, printed) = c.in-Ok.ensures.entered in
    let (late, replies, last) = c.reply.ensures in
    let middle = c.enter-said.new.sitting in
    let later = c.known.ensures in (
      cond middle.has_failed [] (early ++ late),
      (λ line asks. caught_up g.K.Keeper.kept c.args.self.now middle c.reply.new.seat c.enter-said.new.self early late (asked_by c.args.read.now) enters c.enter-said.ensures.none_rests replies line
          (ap (λ t. command_in t line) later.track ∙ asks)),
      printed_behind _ _ _ middle.has_failed _ _ early late _ printed last,
    )

pub returns-in-Err-clause-entered : goal.returns-in-Err-clause-entered
returns-in-Err-clause-entered g c =
    let (early, enters, printed) = c.in-Err.ensures.entered in
    let (late, replies, last) = c.reply-in-Err.ensures in
    let middle = c.enter-said.new.sitting in
    let later = c.known.ensures in (
      cond middle.has_failed [] (early ++ late),
      (λ line asks. caught_up g.K.Keeper.kept c.args.self.now middle c.reply-in-Err.new.seat c.enter-said.new.self early late (asked_by c.args.read.now) enters c.enter-said.ensures.none_rests replies line
          (ap (λ t. command_in t line) later.track ∙ asks)),
      cut_early _ _ middle.has_failed _ early late c.in-Err.failed enters.unsaid printed,
    )
