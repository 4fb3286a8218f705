use Rattle.std.proofs.Common.{sym, ap, ◌∙◌}
use Rattle.rbc_streams.proofs.EmittingLemmas.{emits_then, emits_as}
use Rattle.rbc_lines.proofs.TrackTextLemmas.{section_text-is}
use Rattle.rbc_lines.proofs.track.emit_section.Goals as goal

pub returns : goal.returns
returns g c =
    let whole = section_text-is c.args.section.now c.name-name.result c.length.result c.runs-speeds.result.now c.runs-grades.result.now c.name-name.ensures c.length.ensures
    (c.runs-speeds.ensures ∙ ap (λ those. those.steps) c.speeds.ensures) (c.runs-grades.ensures ∙ ap (λ those. those.steps) c.grades.ensures) in
    emits_as (sym whole) (emits_then c.emit_line.ensures (emits_then c.emit_level_line.ensures c.emit_level_line-2.ensures))
