use Rattle.rbc_certifier.proofs.StepsAnsweredLemmas.{steps_answer_all}
use Rattle.rbc_certifier.proofs.session.steps.Goals as goal

pub returns-clause-answers : goal.returns-clause-answers
returns-clause-answers g c = steps_answer_all _ _ _ _ _ c.serve_lines.ensures.talk.0 c.serve_lines.ensures.end c.serve_lines.ensures.talk.1 c.serve_lines.ensures.talk.2
