use Rattle.std.proofs.Common.{sym, ap, subst, ◌<◌, length}
use Rattle.std.specs.Prelude.{All, flat_map}
use Rattle.rbc_streams.proofs.EmittingLemmas.{emits_then, emits_as, emits_nothing}
use Rattle.rbc_model.specs.declared.tracks.BaliseGroup.{BaliseGroup}
use Rattle.rbc_lines.specs.TrackText.{group_text}
use Rattle.rbc_lines.proofs.OfTrackLemmas.{each_group}
use Rattle.rbc_lines.proofs.TrackTextLemmas.{texts-next, texts-end}
use Rattle.rbc_lines.proofs.track.emit_groups.Goals as goal

pub emit_group-requires : goal.emit_group-requires
emit_group-requires g c =
    let loop = c.loop-group in
    let item = c.group-item in
    record { of_track = subst (λ (group : BaliseGroup). group.section < length c.args.track.now.sections) (sym item.is) (subst (All (λ group. group.section < length c.args.track.now.sections)) (sym c.groups-groups.ensures) (each_group c.args.track.now c.known.ensures.sound) loop.group-index item.result c.loop-group-test.true) }

pub loop-group-preserved : goal.loop-group-preserved
loop-group-preserved g c =
    let loop = c.loop-group in
    let next = texts-next (group_text c.args.track.now) c.groups-groups.result.now loop.group-index c.group-item.result c.loop-group-test.true c.group-item.is in
    λ end rest. loop.invariant end (emits_as (sym next) (emits_then c.emit_group.ensures rest))

pub returns : goal.returns
returns g c =
    let loop = c.loop-group in
    let none_left = texts-end (group_text c.args.track.now) c.groups-groups.result.now loop.group-index c.loop-group-test.false in
    emits_as (ap (flat_map (group_text c.args.track.now)) c.groups-groups.ensures) (loop.invariant _ (emits_as (sym none_left) (emits_nothing _)))
