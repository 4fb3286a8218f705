use Rattle.std.proofs.Common.{sym}
use Rattle.rbc_streams.proofs.EmittingLemmas.{emits_then, emits_as}
use Rattle.rbc_lines.proofs.TrackTextLemmas.{track_lines-is}
use Rattle.rbc_lines.proofs.track.emit_track.Goals as goal

pub returns : goal.returns
returns g c =
    emits_as (sym (track_lines-is c.args.track.now c.sections-sections.result.now c.sections-sections.ensures))
    (emits_then c.emit_head.ensures (emits_then c.emit_sections.ensures (emits_then c.emit_links.ensures
    (emits_then c.emit_groups.ensures (emits_then c.emit_routes.ensures c.emit.ensures)))))
