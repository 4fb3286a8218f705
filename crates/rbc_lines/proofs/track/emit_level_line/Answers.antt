use Rattle.std.proofs.Common.{sym}
use Rattle.rbc_streams.proofs.EmittingLemmas.{emits_then, emits_as}
use Rattle.rbc_lines.proofs.TrackTextLemmas.{level_line-is}
use Rattle.rbc_lines.proofs.track.emit_level_line.Goals as goal

pub returns : goal.returns
returns g c =
    emits_as (sym (level_line-is g.V.Spelled.kind c.args.first.now c.args.name c.args.runs.now))
    (emits_then c.emit.ensures (emits_then c.emit_words.ensures (emits_then c.emit_runs.ensures c.emit-2.ensures)))
