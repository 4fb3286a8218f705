use Rattle.rbc_streams.proofs.EmittingLemmas.{emits_then}
use Rattle.rbc_journal_report.proofs.printing.emit_one.Goals as goal

pub returns : goal.returns
returns g c = emits_then c.emit.ensures c.emit-2.ensures
