use Rattle.std.proofs.Common.{drop}
use Rattle.std.specs.List.{flat_map}
use Rattle.rbc_lines.specs.TrackText.{route_text}
use Rattle.rbc_streams.specs.Emitting.{Emits}
use Rattle.rbc_lines.proofs.track.emit_routes.Given as goal

-- to write the routes that are left is to write them all
abbrev pub invariant-loop-route : goal.invariant-loop-route
invariant-loop-route g l =
    let emits = Emits g.W.Sink.written g.W.Sink.failed in
    (end : _) → emits l.writer end (flat_map (route_text l.track) (drop l.route-index l.routes)) → emits l.fn.writer end (flat_map (route_text l.track) l.routes)
