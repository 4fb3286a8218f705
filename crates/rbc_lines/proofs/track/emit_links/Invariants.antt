use Rattle.std.proofs.Common.{drop}
use Rattle.std.specs.List.{flat_map}
use Rattle.rbc_lines.specs.TrackText.{link_text}
use Rattle.rbc_streams.specs.Emitting.{Emits}
use Rattle.rbc_lines.proofs.track.emit_links.Given as goal

-- to write the links that are left is to write them all
abbrev pub invariant-loop-link : goal.invariant-loop-link
invariant-loop-link g l =
    let emits = Emits g.W.Sink.written g.W.Sink.failed in
    (end : _) → emits l.writer end (flat_map (link_text l.track) (drop l.link-index l.links)) → emits l.fn.writer end (flat_map (link_text l.track) l.links)
