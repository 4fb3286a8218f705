use Rattle.rbc_streams.proofs.EmittingLemmas.{emits_then, emits_as}
use Rattle.rbc_journal_report.proofs.printing.emit_head.Goals as goal

pub returns : goal.returns
returns g c = emits_then c.emit.ensures (emits_then c.emit_digest.ensures (emits_as c.given_text.ensures c.emit-2.ensures))
