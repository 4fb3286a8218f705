use Rattle.std.proofs.Common.{sym, ap, subst}
use Rattle.std.specs.Prelude.{All, flat_map}
use Rattle.rbc_streams.proofs.EmittingLemmas.{emits_then, emits_as, emits_nothing}
use Rattle.rbc_lines.specs.TrackText.{RouteIsOfTrack, route_text}
use Rattle.rbc_lines.proofs.OfTrackLemmas.{each_route}
use Rattle.rbc_lines.proofs.TrackTextLemmas.{texts-next, texts-end}
use Rattle.rbc_lines.proofs.track.emit_routes.Goals as goal

pub emit_route-requires : goal.emit_route-requires
emit_route-requires g c =
    let loop = c.loop-route in
    let item = c.route-item in
    record { of_track = subst (RouteIsOfTrack c.args.track.now) (sym item.is) (subst (All (RouteIsOfTrack c.args.track.now)) (sym c.routes-routes.ensures) (each_route c.args.track.now c.known.ensures.sound) loop.route-index item.result c.loop-route-test.true) }

pub loop-route-preserved : goal.loop-route-preserved
loop-route-preserved g c =
    let loop = c.loop-route in
    let next = texts-next (route_text c.args.track.now) c.routes-routes.result.now loop.route-index c.route-item.result c.loop-route-test.true c.route-item.is in
    λ end rest. loop.invariant end (emits_as (sym next) (emits_then c.emit_route.ensures rest))

pub returns : goal.returns
returns g c =
    let loop = c.loop-route in
    let none_left = texts-end (route_text c.args.track.now) c.routes-routes.result.now loop.route-index c.loop-route-test.false in
    emits_as (ap (flat_map (route_text c.args.track.now)) c.routes-routes.ensures) (loop.invariant _ (emits_as (sym none_left) (emits_nothing _)))
