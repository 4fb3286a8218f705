use Rattle.std.proofs.Common.{sym}
use Rattle.rbc_streams.proofs.EmittingLemmas.{emits_then, emits_as, emits_nothing}
use Rattle.rbc_lines.specs.TrackText.{section_text}
use Rattle.rbc_lines.proofs.TrackTextLemmas.{texts-next, texts-end}
use Rattle.rbc_lines.proofs.track.emit_sections.Goals as goal

pub loop-section-preserved : goal.loop-section-preserved
loop-section-preserved g c =
    let loop = c.loop-section in
    let next = texts-next section_text c.args.sections.now loop.section-index c.section-item.result c.loop-section-test.true c.section-item.is in
    λ end rest. loop.invariant end (emits_as (sym next) (emits_then c.emit_section.ensures rest))

pub returns : goal.returns
returns g c =
    let loop = c.loop-section in
    let none_left = texts-end section_text c.args.sections.now loop.section-index c.loop-section-test.false in
    loop.invariant _ (emits_as (sym none_left) (emits_nothing _))
