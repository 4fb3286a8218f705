use Rattle.std.proofs.Common.{sym, ap, subst}
use Rattle.std.specs.Prelude.{All, flat_map}
use Rattle.rbc_streams.proofs.EmittingLemmas.{emits_then, emits_as, emits_nothing}
use Rattle.rbc_lines.specs.TrackText.{LinkIsOfTrack, link_text}
use Rattle.rbc_lines.proofs.OfTrackLemmas.{each_link}
use Rattle.rbc_lines.proofs.TrackTextLemmas.{texts-next, texts-end}
use Rattle.rbc_lines.proofs.track.emit_links.Goals as goal

pub emit_link-requires : goal.emit_link-requires
emit_link-requires g c =
    let loop = c.loop-link in
    let item = c.link-item in
    record { of_track = subst (LinkIsOfTrack c.args.track.now) (sym item.is) (subst (All (LinkIsOfTrack c.args.track.now)) (sym c.links-links.ensures) (each_link c.args.track.now c.known.ensures.sound) loop.link-index item.result c.loop-link-test.true) }

pub loop-link-preserved : goal.loop-link-preserved
loop-link-preserved g c =
    let loop = c.loop-link in
    let next = texts-next (link_text c.args.track.now) c.links-links.result.now loop.link-index c.link-item.result c.loop-link-test.true c.link-item.is in
    λ end rest. loop.invariant end (emits_as (sym next) (emits_then c.emit_link.ensures rest))

pub returns : goal.returns
returns g c =
    let loop = c.loop-link in
    let none_left = texts-end (link_text c.args.track.now) c.links-links.result.now loop.link-index c.loop-link-test.false in
    emits_as (ap (flat_map (link_text c.args.track.now)) c.links-links.ensures) (loop.invariant _ (emits_as (sym none_left) (emits_nothing _)))
