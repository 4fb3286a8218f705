use Rattle.std.proofs.Common.{drop}
use Rattle.std.specs.List.{flat_map}
use Rattle.rbc_lines.specs.TrackText.{section_text}
use Rattle.rbc_streams.specs.Emitting.{Emits}
use Rattle.rbc_lines.proofs.track.emit_sections.Given as goal

-- to write the sections that are left is to write them all
abbrev pub invariant-loop-section : goal.invariant-loop-section
invariant-loop-section g l =
    let emits = Emits g.W.Sink.written g.W.Sink.failed in
    (end : _) → emits l.writer end (flat_map section_text (drop l.section-index l.sections)) → emits l.fn.writer end (flat_map section_text l.sections)
