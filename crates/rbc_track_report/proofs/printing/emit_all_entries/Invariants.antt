use Rattle.std.proofs.Common.{drop}
use Rattle.std.specs.List.{flat_map}
use Rattle.rbc_streams.specs.Emitting.{Emits}
use Rattle.rbc_track_report.specs.Report.{entry_text}
use Rattle.rbc_track_report.proofs.printing.emit_all_entries.Given as goal

-- to tell of those that are left is to tell of all
abbrev pub invariant-loop-route : goal.invariant-loop-route
invariant-loop-route g l =
    let emits = Emits g.W.Sink.written g.W.Sink.failed in
    (end : _) → emits l.writer end (flat_map (entry_text l.track) (drop l.route-index l.routes))
    → emits l.fn.writer end (flat_map (entry_text l.track) l.track.routes)
