use Rattle.std.proofs.Common.{drop}
use Rattle.rbc_streams.specs.Emitting.{Emits}
use Rattle.rbc_track_report.specs.Report.{each_text, unused_text}
use Rattle.rbc_track_report.proofs.printing.emit_all_unused.Given as goal

-- to tell of those that are left is to tell of all
abbrev pub invariant-loop-number : goal.invariant-loop-number
invariant-loop-number g l =
    let emits = Emits g.W.Sink.written g.W.Sink.failed in
    (end : _) → emits l.writer end (each_text (unused_text l.track) l.number (drop l.number l.sections))
    → emits l.fn.writer end (each_text (unused_text l.track) 0 l.track.sections)
