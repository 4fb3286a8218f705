use Rattle.std.proofs.Common.{ap}
use Rattle.rbc_model.specs.Histories.{Beginning}
use Rattle.rbc_sessions.proofs.AnsweredLemmas.{session_answers, session_retells}
use Rattle.rbc_sessions.proofs.SessionLemmas.{session_begin, session_turns}
use Rattle.rbc_sessions.proofs.sessions.run.Goals as goal

pub returns-clause-begin : goal.returns-clause-begin
returns-clause-begin g c = session_begin _ _ _ _ _ _ c.serve_lines.ensures.talk.2

pub returns-clause-track : goal.returns-clause-track
returns-clause-track g c = ap (λ (b : Beginning). b.track) (session_begin _ _ _ _ _ _ c.serve_lines.ensures.talk.2)

pub returns-clause-session : goal.returns-clause-session
returns-clause-session g c = (c.serve_lines.ensures.talk.0, c.serve_lines.ensures.talk.1, session_turns _ _ _ _ _ _ c.serve_lines.ensures.talk.2)

pub returns-clause-answers : goal.returns-clause-answers
returns-clause-answers g c =
    session_answers _ c.serve_lines.new.handler _ _ _ _ _ c.serve_lines.ensures.talk.0 c.known.ensures.form c.serve_lines.ensures.end c.serve_lines.ensures.talk.1 (session_turns _ _ _ _ _ _ c.serve_lines.ensures.talk.2)

pub returns-clause-retold : goal.returns-clause-retold
returns-clause-retold g c =
    session_retells _ c.serve_lines.new.handler _ _ _ c.serve_lines.ensures.talk.0 (session_begin _ _ _ _ _ _ c.serve_lines.ensures.talk.2) c.known.ensures.form (session_turns _ _ _ _ _ _ c.serve_lines.ensures.talk.2)
