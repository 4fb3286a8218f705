use Rattle.std.proofs.Common.{[], ◌∙◌, cond, refl, subst, sym}
use Rattle.std.proofs.lemmas.Bool.{both_ways}
use Rattle.std.proofs.lemmas.List.{nil_from_length}
use Rattle.rbc_model.specs.SessionReply.{BadLine, refused_reply}
use Rattle.rbc_model.specs.declared.refusals.LineFault.TheVariants.{Overlong}
use Rattle.rbc_sessions.specs.Hearings.{CatchesUp}
use Rattle.rbc_sessions.proofs.HearingLemmas.{advances_replied, caught_up, nothing_rests}
use Rattle.rbc_sessions.proofs.KeepingLemmas.{line_is_bad, prints_whole}
use Rattle.rbc_sessions.proofs.TreatingLemmas.{overlong_read, refused_replied}
use Rattle.rbc_sessions.proofs.hearing.HearingLineHandlerSessionContext.refuse.Goals as goal

pub returns-clause-reply : goal.returns-clause-reply
returns-clause-reply g c =
    let later = c.known.ensures in
    let now = c.args.self.now in
    let going = c.requires.ready in
    let track = c.args.context.now.track.now in
    let reply = refused_reply track (BadLine Overlong) in
    let none = nil_from_length now.batch c.requires.none_rests in (
      reply,
      (λ line long.
          let bad = line_is_bad now.sitting.seat.told.track line Overlong (overlong_read line long) in
          let replied = refused_replied now.sitting.seat _ (BadLine Overlong) track (c.args.context.now.of_desk ∙ sym later.track) bad in
          let answered = caught_up g.K.Keeper.kept now now.sitting now.sitting.seat now.batch [] reply _ (nothing_rests g.K.Keeper.kept now going.whole none) none replied line refl in
          advances_replied g.L.DeskName.opened.track g.K.Keeper.says g.K.Keeper.kept g.K.Keeper.failed now now line reply going
          (subst (λ b. CatchesUp g.K.Keeper.kept now line (cond b [] reply) now) going.whole answered) (λ broken. absurd (both_ways _ going.whole broken))),
      prints_whole _ _ _ _ _ now.sitting.has_failed going.whole c.print.ensures,
    )
