use Rattle.std.proofs.Common.{◌≡◌, Err, rules, subst, sym}
use Rattle.rbc_model.specs.declared.memory.OrMemory.TheVariants.{Refused}
use Rattle.rbc_sweep.specs.Records.{begin_on, history_on}
use Rattle.rbc_sweep.specs.AskFault.TheVariants.{Blocked}
use Rattle.rbc_sweep.specs.Asking.{IsAnswered}
use Rattle.rbc_replies.specs.Replies.{grant_text}
use Rattle.rbc_session_laws.specs.Turns.{AnswersAuthority}
use Rattle.rbc_sessions.specs.Shown.{entry_granted_in}
use Rattle.rbc_sessions.proofs.SeatLemmas.{asked_granted, asked_granted_whole, asked_blocked_named}
use Rattle.rbc_sessions.proofs.context.reply_to.Goals as goal

pub returns-in-Ok-clause-comes : goal.returns-in-Ok-clause-comes
returns-in-Ok-clause-comes c =
    let track = c.args.track.now in
    let train = c.args.train in
    λ scene most entries answered.
    let begin = begin_on track scene most in
    let is = subst (λ a. IsAnswered (history_on begin entries) train a) c.in-Ok.is answered in
    subst (λ a. AnswersAuthority begin entries (grant_text track c.told_of.result) (entry_granted_in a) train) (sym c.in-Ok.is)
    (asked_granted begin entries train c.in-Ok.granted is c.place-version.result c.told_of.result c.told_of.ensures.told c.told_of.ensures.best c.told_of.ensures.chosen
    c.place-version.ensures c.known.ensures.form)

pub returns-in-Ok-clause-whole : goal.returns-in-Ok-clause-whole
returns-in-Ok-clause-whole c =
    let track = c.args.track.now in
    λ scene most entries right answered.
    let begin = begin_on track scene most in
    let is = subst (λ a. IsAnswered (history_on begin entries) c.args.train a) c.in-Ok.is answered in
    asked_granted_whole begin entries c.args.train c.in-Ok.granted is c.place-version.result c.told_of.result c.told_of.ensures.told c.told_of.ensures.best c.told_of.ensures.chosen
    right c.known.ensures.sound

pub returns-in-Err-Refused-Blocked-clause-whole : goal.returns-in-Err-Refused-Blocked-clause-whole
returns-in-Err-Refused-Blocked-clause-whole c =
    let track = c.args.track.now in
    let blocked = c.in-Err-Refused-Blocked in
    let told : c.args.answer.now ≡ Err (Refused (Blocked blocked.obstacle blocked.at blocked.version)) = search rules in
    λ scene most entries right answered.
    let begin = begin_on track scene most in
    asked_blocked_named begin entries c.args.train blocked.obstacle blocked.at blocked.version right c.known.ensures.sound
    (subst (λ a. IsAnswered (history_on begin entries) c.args.train a) told answered)
