use Rattle.std.proofs.Common.{List, Option, refl, sym, ap, ◌∙◌}
use Rattle.rbc_model.specs.declared.places.Leg.{Leg}
use Rattle.rbc_model.specs.SoundTracks.{is_good_route}
use Rattle.rbc_track.specs.Tables.{with_links}
use Rattle.rbc_track.proofs.route_table.is_good.Goals as goal

pub returns : goal.returns
returns c =
    let track = with_links c.args.sections.now c.args.links.now in
    let route = c.args.route.now in
    c.is_good_route.ensures track route.name refl (sym c.len.ensures)
    ∙ ap (λ (after : Option Leg). is_good_route track (record { name = route.name; after = after; legs = c.legs.result.now })) c.after.ensures
    ∙ ap (λ (legs : List Leg). is_good_route track (record { name = route.name; after = route.after; legs = legs })) c.legs.ensures
