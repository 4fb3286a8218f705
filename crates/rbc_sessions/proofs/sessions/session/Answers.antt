use Rattle.std.proofs.Common.{sym, ap, ◌∙◌, subst}
use Rattle.std.proofs.lemmas.List.{nil_from_length}
use Rattle.rbc_model.specs.SoundTracks.{IsInForm}
use Rattle.rbc_sessions.proofs.HearingLemmas.{none_left}
use Rattle.rbc_sessions.proofs.SeatAnswerLemmas.{turns_are_answers}
use Rattle.rbc_sessions.proofs.SittingLemmas.{cut_off, sitting_failed, sitting_grown, sitting_session, sitting_stays}
use Rattle.rbc_sessions.proofs.sessions.session.Goals as goal

pub serve_lines_with-ended-requires-clause-ready : goal.serve_lines_with-ended-requires-clause-ready
serve_lines_with-ended-requires-clause-ready g c κs within =
    none_left g.L.DeskName.opened.track g.K.Keeper.says c.new-hearing.result (ap (λ s. s.has_failed) c.new-hearing.ensures.sitting ∙ c.requires.whole) c.new-hearing.ensures.none_rests

pub returns-clause-grown : goal.returns-clause-grown
returns-clause-grown g c =
    let ended = c.serve_lines_with-ended.ensures in
    rw c.new-hearing.ensures.sitting at (sitting_grown g.K.Keeper.kept g.L.DeskName.opened.track g.K.Keeper.says g.K.Keeper.failed _ _ _ _ _ _ ended.talk.2 c.new-hearing.ensures.none_rests (nil_from_length _ ended.none_rests))

pub returns-clause-session : goal.returns-clause-session
returns-clause-session g c =
    let ended = c.serve_lines_with-ended.ensures in
    let talk = ended.talk in
    let session = sitting_session g.K.Keeper.kept g.L.DeskName.opened.track g.K.Keeper.says g.K.Keeper.failed _ _ _ _ _ _ talk.2 c.new-hearing.ensures.none_rests (nil_from_length _ ended.none_rests) (cut_off _ _ _ ended.write.1) in
    let there = rw c.new-hearing.ensures.sitting at session in (talk.0, talk.1, there.0, there.1)

pub returns-clause-failed : goal.returns-clause-failed
returns-clause-failed g c =
    let ended = c.serve_lines_with-ended.ensures in
    sitting_failed g.K.Keeper.kept g.L.DeskName.opened.track g.K.Keeper.says g.K.Keeper.failed _ _ _ _ _ _ ended.talk.2 (ap (λ s. s.has_failed) c.new-hearing.ensures.sitting ∙ c.requires.whole)

pub returns-clause-stays : goal.returns-clause-stays
returns-clause-stays g c =
    let ended = c.serve_lines_with-ended.ensures in
    rw c.new-hearing.ensures.sitting at (sitting_stays g.K.Keeper.kept g.L.DeskName.opened.track g.K.Keeper.says g.K.Keeper.failed _ _ _ _ _ _ ended.talk.2 c.new-hearing.ensures.none_rests (nil_from_length _ ended.none_rests))

pub returns-clause-answers : goal.returns-clause-answers
returns-clause-answers g c = λ input session.
    let later = c.known-2.ensures in
    turns_are_answers c.args.sitting.seat.told _ session.turns
    (subst IsInForm (c.args.context.now.of_desk ∙ sym later.track) c.known.ensures.form) session.each
