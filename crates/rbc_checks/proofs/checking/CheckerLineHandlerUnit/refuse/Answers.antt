use Rattle.std.proofs.Common.{◌++◌}
use Rattle.rbc_model.specs.CheckText.{overlong_text}
use Rattle.rbc_checks.specs.Verdicts.{said_text, is_bad}
use Rattle.rbc_streams.proofs.EmittingLemmas.{emits_then}
use Rattle.rbc_checks.proofs.CheckingLemmas.{too_long}
use Rattle.rbc_checks.proofs.checking.CheckerLineHandlerUnit.refuse.Goals as goal

pub returns-clause-reply : goal.returns-clause-reply
returns-clause-reply g c = (
  said_text c.close.result ++ overlong_text,
  too_long c.args.self.now c.close.new.self (said_text c.close.result) (is_bad c.close.result) c.close.ensures.said c.close.ensures.closed,
  c.outcome.ensures.printed _ _ c.requires.going (emits_then c.emit_said.ensures c.emit.ensures),
)
