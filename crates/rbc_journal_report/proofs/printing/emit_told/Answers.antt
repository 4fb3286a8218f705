use Rattle.std.proofs.Common.{sym}
use Rattle.rbc_journal.specs.Gates.{counted}
use Rattle.rbc_streams.proofs.EmittingLemmas.{emits_then, emits_as}
use Rattle.rbc_journal_report.proofs.ReportLemmas.{told_text-is}
use Rattle.rbc_journal_report.proofs.printing.emit_told.Goals as goal

pub returns : goal.returns
returns g c =
    let whole = told_text-is c.args.given c.named.result (counted c.args.told.now.text.now) c.args.told.now.state c.named.ensures in
    emits_as (sym whole)
    (emits_then c.emit_head.ensures (emits_then c.emit_begins.ensures (emits_then c.emit_counts.ensures (emits_then c.emit_state.ensures c.emit.ensures))))
