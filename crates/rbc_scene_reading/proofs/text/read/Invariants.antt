use Rattle.std.proofs.Common.{◌≡◌, ◌+◌, ◌≤◌, length}
use Rattle.std.specs.Arc.{arc_value}
use Rattle.rbc_model.specs.Sessions.{lines_of}
use Rattle.rbc_scene_reading.specs.Reading.{read_from, read_scene}
use Rattle.rbc_scene_reading.proofs.text.read.Given as goal

abbrev pub invariant-loop-first : goal.invariant-loop-first
invariant-loop-first l = record {
  lines : read_from l.line l.reading (lines_of l.rest) ≡ read_scene (arc_value l.fn.track) (lines_of l.text);
  count : l.line + length l.rest ≤ 1 + length l.text;
  track : l.reading.track ≡ arc_value l.fn.track;
}

abbrev pub decreases-loop-first : goal.decreases-loop-first
decreases-loop-first l = length l.rest
