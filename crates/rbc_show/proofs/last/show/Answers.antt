use Rattle.std.proofs.Common.{false, ◌∙◌, subst}
use Rattle.std.specs.Io.KnownBytes.{Appends}
use Rattle.rbc_model.specs.TrackLines.{track_lines}
use Rattle.rbc_show.proofs.EndLemmas.{on_ok}
use Rattle.rbc_show.proofs.FollowingLemmas.{is_shown}
use Rattle.rbc_show.proofs.last.show.Goals as goal

pub returns-clause-shown : goal.returns-clause-shown
returns-clause-shown g c =
    let talk = c.in_ok-follow_lines.ensures.talk in
    let opens = subst (λ t. Appends (g.W.Sink.written c.args.writer.now) (g.W.Sink.written c.print_track.new.writer) (track_lines t)) (c.deref.ensures ∙ c.track.ensures) c.in_ok-print_track.ensures.text in
    on_ok c.finish.result _ _
    (is_shown _ _ _ _ _ _ (record { history = c.args.history; lost = false }) c.follow_lines.new.following c.in_ok-follow_lines.ensures.whole talk.0 c.in_ok-follow_lines.ensures.end talk.1 opens talk.2)
    c.finish.ensures.text
