use Rattle.std.proofs.Common.{drop, map}
use Rattle.rbc_model.specs.HistoryText.{history_text}
use Rattle.rbc_streams.specs.Emitting.{Emits}
use Rattle.rbc_sweep.specs.Entries.{entry_of}
use Rattle.rbc_sessions.proofs.histories.emit_entries.Given as goal

-- to write the entries that are left is to write them all
abbrev pub invariant-loop-entry : goal.invariant-loop-entry
invariant-loop-entry g l =
    let emits = Emits g.W.Sink.written g.W.Sink.failed in
    (end : _) → emits l.writer end (history_text l.track (map entry_of (drop l.entry-index l.entries)))
    → emits l.fn.writer end (history_text l.track (map entry_of l.entries))
