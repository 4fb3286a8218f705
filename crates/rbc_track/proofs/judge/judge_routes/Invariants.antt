use Rattle.std.proofs.Common.{◌≡◌, true, [], map, take, drop}
use Rattle.std.specs.List.{list_all}
use Rattle.rbc_model.specs.SoundTracks.{first_refusal, route_refusal}
use Rattle.rbc_model.specs.TrackParts.{link_of, route_of}
use Rattle.rbc_track.specs.Tables.{with_links}
use Rattle.rbc_track.specs.Written.{lies_on}
use Rattle.rbc_track.proofs.judge.judge_routes.Given as goal

abbrev pub invariant-loop-earlier : goal.invariant-loop-earlier
invariant-loop-earlier l =
    let track = with_links l.sections (map (link_of l.sections) l.links) in
    list_all (lies_on l.sections) l.links ≡ true
    → first_refusal (route_refusal track) (map (route_of l.sections) (take l.earlier l.routes)) (map (route_of l.sections) (drop l.earlier l.routes))
    ≡ first_refusal (route_refusal track) [] (map (route_of l.sections) l.routes)
