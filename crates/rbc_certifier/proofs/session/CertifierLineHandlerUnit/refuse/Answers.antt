use Rattle.rbc_model.specs.declared.refusals.LineFault.TheVariants.{Overlong}
use Rattle.rbc_model.specs.declared.refusals.StepsRefusal.TheVariants.{BadLine}
use Rattle.rbc_model.specs.StepsReply.{refusal_reply}
use Rattle.rbc_certifier.proofs.OverlongLemmas.{overlong_refused}
use Rattle.rbc_certifier.proofs.session.CertifierLineHandlerUnit.refuse.Goals as goal

pub returns-clause-reply : goal.returns-clause-reply
returns-clause-reply g c = (
  refusal_reply (BadLine Overlong),
  overlong_refused,
  c.outcome.ensures.printed _ _ c.requires.going c.emit_refusal.ensures,
)
