use Rattle.std.proofs.Common.{sym}
use Rattle.rbc_streams.proofs.EmittingLemmas.{emits_then, emits_as}
use Rattle.rbc_lines.proofs.LineTextLemmas.{scene_lines-is}
use Rattle.rbc_lines.proofs.scene.emit_all.Goals as goal

pub returns : goal.returns
returns g c =
    emits_as (sym (scene_lines-is c.args.track.now c.args.version c.args.scene.now.scene _ c.locks.ensures.locks))
    (emits_then c.emit_line.ensures (emits_then c.emit_locks.ensures (emits_then c.emit_trains.ensures c.emit.ensures)))
