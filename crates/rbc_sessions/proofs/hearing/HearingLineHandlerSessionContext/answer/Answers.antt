use Rattle.std.proofs.Common.{[], refl, rules, subst}
use Rattle.rbc_replies.proofs.PrintingLemmas.{prints_nothing}
use Rattle.rbc_sessions.specs.SaidLines.{IsReadOn}
use Rattle.rbc_sessions.proofs.HearingLemmas.{advances_batch, advances_entered, advances_replied, read_asks, rests_each, rests_whole}
use Rattle.rbc_sessions.proofs.KeepingLemmas.{prints_whole}
use Rattle.rbc_sessions.proofs.hearing.HearingLineHandlerSessionContext.answer.Goals as goal

pub rest-requires : goal.rest-requires
rest-requires g c = record { read = subst (λ t. IsReadOn t c.said_in-read.result) c.args.context.now.of_desk c.said_in-read.ensures.read }

pub returns-then-len-lt-MOST_RESTING-clause-reply : goal.returns-then-len-lt-MOST_RESTING-clause-reply
returns-then-len-lt-MOST_RESTING-clause-reply g c =
    let track = g.L.DeskName.opened.track in
    let says = g.K.Keeper.says in
    let line = c.args.line.now in
    let going = c.requires.ready in
    let rests = c.if-rest.ensures line (read_asks _ _ line _ c.args.context.now.of_desk c.said_in-read.ensures.command) in (
      [],
      advances_batch track says g.K.Keeper.kept g.K.Keeper.failed c.args.self.now c.rest.new.self line going rests (search rules),
      prints_whole _ _ _ _ _ c.rest.new.self.sitting.has_failed (rests_whole track says c.args.self.now c.rest.new.self line going rests)
          (prints_nothing _ _ [] refl c.requires.going),
    )

pub enter-said-requires-clause-whole : goal.enter-said-requires-clause-whole
enter-said-requires-clause-whole g c κs within =
    let line = c.args.line.now in
    rests_whole g.L.DeskName.opened.track g.K.Keeper.says c.args.self.now c.rest.new.self line c.requires.ready
    (c.if-rest.ensures line (read_asks _ _ line _ c.args.context.now.of_desk c.said_in-read.ensures.command))

pub enter-said-requires-clause-each : goal.enter-said-requires-clause-each
enter-said-requires-clause-each g c κs within =
    let line = c.args.line.now in
    rests_each g.L.DeskName.opened.track g.K.Keeper.says c.args.self.now c.rest.new.self line c.requires.ready
    (c.if-rest.ensures line (read_asks _ _ line _ c.args.context.now.of_desk c.said_in-read.ensures.command))

pub returns-then-rest-clause-reply : goal.returns-then-rest-clause-reply
returns-then-rest-clause-reply g c =
    let line = c.args.line.now in
    let rests = c.if-rest.ensures line (read_asks _ _ line _ c.args.context.now.of_desk c.said_in-read.ensures.command) in
    let entered = c.enter-said.ensures.entered in
    rw c.publish.ensures (
      entered.0,
      advances_entered g.L.DeskName.opened.track g.K.Keeper.says g.K.Keeper.kept g.K.Keeper.failed c.args.self.now c.rest.new.self (record { sitting = c.enter-said.new.sitting; batch = c.enter-said.new.self }) line entered.0
          c.requires.ready
          rests entered.1 c.enter-said.ensures.none_rests c.enter-said.ensures.why,
      entered.2,
    )

pub reply-said-requires-clause-read : goal.reply-said-requires-clause-read
reply-said-requires-clause-read g c κs within = subst (λ t. IsReadOn t c.said_in-read.result) c.args.context.now.of_desk c.said_in-read.ensures.read

pub returns-clause-reply : goal.returns-clause-reply
returns-clause-reply g c =
    let line = c.args.line.now in
    let asks = read_asks _ _ line _ c.args.context.now.of_desk c.said_in-read.ensures.command in
    let replied = rw c.if-rest.ensures at c.reply-said.ensures.entered in
    rw c.publish-2.ensures (
      replied.0,
      advances_replied g.L.DeskName.opened.track g.K.Keeper.says g.K.Keeper.kept g.K.Keeper.failed c.args.self.now c.reply-said.new.self line replied.0 c.requires.ready (replied.1 line asks)
          c.reply-said.ensures.why,
      replied.2,
    )
