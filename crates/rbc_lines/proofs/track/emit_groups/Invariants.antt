use Rattle.std.proofs.Common.{drop}
use Rattle.std.specs.List.{flat_map}
use Rattle.rbc_lines.specs.TrackText.{group_text}
use Rattle.rbc_streams.specs.Emitting.{Emits}
use Rattle.rbc_lines.proofs.track.emit_groups.Given as goal

-- to write the groups that are left is to write them all
abbrev pub invariant-loop-group : goal.invariant-loop-group
invariant-loop-group g l =
    let emits = Emits g.W.Sink.written g.W.Sink.failed in
    (end : _) → emits l.writer end (flat_map (group_text l.track) (drop l.group-index l.groups)) → emits l.fn.writer end (flat_map (group_text l.track) l.groups)
