use Rattle.rbc_streams.proofs.EmittingLemmas.{emits_then}
use Rattle.rbc_track_report.specs.Report.{report}
use Rattle.rbc_track_report.proofs.printing.emit_report.Goals as goal

pub returns : goal.returns
unfolding report
returns g c =
    emits_then c.emit_counts.ensures (emits_then c.emit_all_unused.ensures (emits_then c.emit_all_unpassed.ensures
    (emits_then c.emit_all_ends.ensures (emits_then c.emit_all_entries.ensures c.emit_all_both.ensures))))
