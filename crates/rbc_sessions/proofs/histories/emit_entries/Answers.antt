use Rattle.std.proofs.Common.{sym}
use Rattle.rbc_streams.proofs.EmittingLemmas.{emits_then, emits_as, emits_nothing}
use Rattle.rbc_sweep.specs.Entries.{entry_of}
use Rattle.rbc_sessions.proofs.HistoryLemmas.{lines-next, lines-end, entry-of_track}
use Rattle.rbc_sessions.proofs.histories.emit_entries.Goals as goal

pub emit_entry-requires : goal.emit_entry-requires
emit_entry-requires g c =
    let item = c.entry-item in
    record { of_track = entry-of_track entry_of c.args.track.now c.args.entries.now c.loop-entry.entry-index item.result c.loop-entry-test.true item.is c.requires.of_track }

pub loop-entry-preserved : goal.loop-entry-preserved
loop-entry-preserved g c =
    let item = c.entry-item in
    let next = lines-next entry_of c.args.track.now c.args.entries.now c.loop-entry.entry-index item.result c.loop-entry-test.true item.is in
    λ end rest. c.loop-entry.invariant end (emits_as (sym next) (emits_then c.emit_entry.ensures rest))

pub returns : goal.returns
returns g c =
    let none_left = lines-end entry_of c.args.track.now c.args.entries.now c.loop-entry.entry-index c.loop-entry-test.false in
    c.loop-entry.invariant _ (emits_as (sym none_left) (emits_nothing _))
