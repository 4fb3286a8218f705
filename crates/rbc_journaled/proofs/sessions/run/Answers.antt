use Rattle.std.proofs.Common.{◌≡◌, ◌∙◌, ap, true, sym}
use Rattle.std.specs.Io.KnownBytes.{IsAtEnd}
use Rattle.rbc_model.specs.Histories.{Beginning}
use Rattle.rbc_sessions.specs.Answered.{AnswersAll}
use Rattle.rbc_journaled.proofs.EndLemmas.{read_told, write_told, journal_told, broken_told, memory_told, ok_told, handed_told}
use Rattle.rbc_journaled.proofs.KeepingLemmas.{ready_goes}
use Rattle.rbc_journaled.proofs.TalkLemmas.{leaves_in, begin_in, ready_after, fails_in, kept_session, kept_answers}
use Rattle.rbc_journaled.proofs.sessions.run.Goals as goal

pub serve_lines-ended-requires-clause-ready : goal.serve_lines-ended-requires-clause-ready
serve_lines-ended-requires-clause-ready g c κs within = ready_goes g.D.Device.seen g.D.Device.may_leave c.args.journaled.now c.requires.ready

pub returns-clause-read : goal.returns-clause-read
returns-clause-read g c = rw c.run_end.ensures (read_told c.serve_lines-ended.result c.serve_lines-ended.new.handler.has_failed _ _ c.serve_lines-ended.ensures.read c.serve_lines-ended.ensures.write)

pub returns-clause-write : goal.returns-clause-write
returns-clause-write g c told =
    write_told c.serve_lines-ended.result c.serve_lines-ended.new.handler.has_failed (g.W.Sink.failed c.serve_lines-ended.new.writer) c.serve_lines-ended.ensures.write (sym c.run_end.ensures ∙ told)

pub returns-clause-journal : goal.returns-clause-journal
returns-clause-journal g c = rw c.run_end.ensures (journal_told c.serve_lines-ended.result c.serve_lines-ended.new.handler.has_failed)

pub returns-clause-failed : goal.returns-clause-failed
returns-clause-failed g c told =
    fails_in g.D.Device.seen g.D.Device.may_leave g.D.Device.moment g.D.Device.left_since g.D.Device.faults g.met.D.Device.only_now g.met.D.Device.counts_now
    c.args.journaled.now c.serve_lines-ended.new.handler c.serve_lines-ended.ensures.talk.0 _ _ c.serve_lines-ended.result c.requires.ready c.serve_lines-ended.ensures.talk.2
    (broken_told c.serve_lines-ended.result c.serve_lines-ended.new.handler.has_failed (sym c.run_end.ensures ∙ told))

pub returns-clause-memory : goal.returns-clause-memory
returns-clause-memory g c told = c.serve_lines-ended.ensures.memory (memory_told c.serve_lines-ended.result c.serve_lines-ended.new.handler.has_failed (sym c.run_end.ensures ∙ told))

pub returns-clause-end : goal.returns-clause-end
returns-clause-end g c =
    rw c.run_end.ensures (ok_told c.serve_lines-ended.result c.serve_lines-ended.new.handler.has_failed (IsAtEnd (g.R.Source.left c.serve_lines-ended.new.reader)) (λ whole. c.serve_lines-ended.ensures.end))

pub returns-clause-ended : goal.returns-clause-ended
returns-clause-ended g c =
    rw c.run_end.ensures (ok_told c.serve_lines-ended.result c.serve_lines-ended.new.handler.has_failed (g.R.Source.ended c.serve_lines-ended.new.reader ≡ true) (λ whole. c.serve_lines-ended.ensures.ended))

pub returns-clause-ready : goal.returns-clause-ready
returns-clause-ready g c whole =
    ready_after g.D.Device.seen g.D.Device.may_leave g.D.Device.moment g.D.Device.left_since g.D.Device.faults g.met.D.Device.only_now g.met.D.Device.counts_now
    c.args.journaled.now c.serve_lines-ended.new.handler c.serve_lines-ended.ensures.talk.0 _ _ c.serve_lines-ended.result c.requires.ready c.serve_lines-ended.ensures.talk.2 c.serve_lines-ended.ensures.none_rests whole

pub returns-clause-any_moment : goal.returns-clause-any_moment
returns-clause-any_moment g c =
    leaves_in g.D.Device.seen g.D.Device.may_leave g.D.Device.moment g.D.Device.left_since g.D.Device.faults g.met.D.Device.only_now g.met.D.Device.counts_now
    c.args.journaled.now c.serve_lines-ended.new.handler c.serve_lines-ended.ensures.talk.0 _ _ c.serve_lines-ended.result c.requires.ready c.serve_lines-ended.ensures.talk.2

pub returns-clause-begin : goal.returns-clause-begin
returns-clause-begin g c =
    begin_in g.D.Device.seen g.D.Device.may_leave g.D.Device.moment g.D.Device.left_since g.D.Device.faults g.met.D.Device.only_now g.met.D.Device.counts_now
    c.args.journaled.now c.serve_lines-ended.new.handler c.serve_lines-ended.ensures.talk.0 _ _ c.serve_lines-ended.result c.requires.ready c.serve_lines-ended.ensures.talk.2

pub returns-clause-track : goal.returns-clause-track
returns-clause-track g c =
    ap (λ (b : Beginning). b.track)
    (begin_in g.D.Device.seen g.D.Device.may_leave g.D.Device.moment g.D.Device.left_since g.D.Device.faults g.met.D.Device.only_now g.met.D.Device.counts_now
    c.args.journaled.now c.serve_lines-ended.new.handler c.serve_lines-ended.ensures.talk.0 _ _ c.serve_lines-ended.result c.requires.ready c.serve_lines-ended.ensures.talk.2)

pub returns-clause-session : goal.returns-clause-session
returns-clause-session g c = (
  c.serve_lines-ended.ensures.talk.0,
  c.serve_lines-ended.ensures.talk.1,
  rw c.run_end.ensures
      (kept_session g.D.Device.seen g.D.Device.may_leave g.D.Device.moment g.D.Device.left_since g.D.Device.faults g.met.D.Device.only_now g.met.D.Device.counts_now
      c.args.journaled.now c.serve_lines-ended.new.handler c.serve_lines-ended.ensures.talk.0 _ _ c.serve_lines-ended.result (g.W.Sink.failed c.serve_lines-ended.new.writer) c.serve_lines-ended.ensures.none_rests c.requires.ready c.serve_lines-ended.ensures.talk.2 c.serve_lines-ended.ensures.write),
)

pub returns-clause-answers : goal.returns-clause-answers
returns-clause-answers g c =
    rw c.run_end.ensures
    (ok_told c.serve_lines-ended.result c.serve_lines-ended.new.handler.has_failed
    (AnswersAll c.args.journaled.now.history c.serve_lines-ended.new.handler.history (g.R.Source.left c.args.reader.now) (g.W.Sink.written c.args.writer.now) (g.W.Sink.written c.serve_lines-ended.new.writer))
    (λ whole.
    kept_answers g.D.Device.seen g.D.Device.may_leave g.D.Device.moment g.D.Device.left_since g.D.Device.faults g.met.D.Device.only_now g.met.D.Device.counts_now
    c.args.journaled.now c.serve_lines-ended.new.handler c.serve_lines-ended.ensures.talk.0 _ _ _ _ c.serve_lines-ended.result c.known.ensures.form c.requires.ready c.serve_lines-ended.ensures.none_rests c.serve_lines-ended.ensures.end c.serve_lines-ended.ensures.talk.1 c.serve_lines-ended.ensures.talk.2 whole))

pub returns-clause-handed_on : goal.returns-clause-handed_on
returns-clause-handed_on g c =
    rw c.run_end.ensures (handed_told c.serve_lines-ended.result c.serve_lines-ended.new.handler.has_failed (g.W.Sink.failed c.serve_lines-ended.new.writer) _ c.serve_lines-ended.ensures.write c.serve_lines-ended.ensures.handed_on)
