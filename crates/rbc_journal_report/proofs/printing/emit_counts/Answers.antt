use Rattle.rbc_streams.proofs.EmittingLemmas.{emits_then}
use Rattle.rbc_journal_report.proofs.printing.emit_counts.Goals as goal

pub returns : goal.returns
returns g c =
    emits_then c.emit_total.ensures (emits_then c.emit_kind.ensures (emits_then c.emit_kind-2.ensures (emits_then c.emit_kind-3.ensures
    (emits_then c.emit_kind-4.ensures (emits_then c.emit_kind-5.ensures c.emit_kind-6.ensures)))))
