use Rattle.std.proofs.Common.{◌<◌, ◌≤◌, length, sym, rules}
use Rattle.rbc_streams.proofs.EmittingLemmas.{emits_then, emits_as, emits_nothing}
use Rattle.rbc_lines.proofs.LineTextLemmas.{rows-next, rows-end}
use Rattle.rbc_lines.proofs.StopOfTrackLemmas.{before_of_track}
use Rattle.rbc_lines.proofs.scene.emit_locks.Goals as goal

pub emit_row-requires-clause-before : goal.emit_row-requires-clause-before
emit_row-requires-clause-before g c =
    before_of_track c.args.track.now c.args.locks.now c.new-section.result c.row.result c.known.ensures.sound c.requires.good c.row.ensures

pub loop-index-preserved : goal.loop-index-preserved
loop-index-preserved g c =
    let loop = c.loop-index in
    let inside : loop.index < length c.args.locks.now = search rules in
    let next = rows-next c.args.track.now c.args.locks.now loop.index c.new-section.result c.row.result inside c.new-section.ensures c.row.ensures in
    λ end rest. loop.invariant end (emits_as (sym next) (emits_then c.emit_row.ensures rest))

pub returns : goal.returns
returns g c =
    let loop = c.loop-index in
    let past : length c.args.locks.now ≤ loop.index = search rules in
    loop.invariant _ (emits_as (sym (rows-end c.args.track.now c.args.locks.now loop.index past)) (emits_nothing _))
