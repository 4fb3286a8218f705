use Rattle.std.proofs.Common.{◌≡◌, map, drop}
use Rattle.rbc_model.specs.SoundTracks.{route_refusal}
use Rattle.rbc_model.specs.TrackParts.{route_of}
use Rattle.rbc_track.specs.Making.{sound_routes}
use Rattle.rbc_track.specs.Tables.{with_links}
use Rattle.rbc_track.proofs.JudgingLemmas.{judged_from}
use Rattle.rbc_track.proofs.route_table.Routes.new.Given as goal

abbrev pub invariant-loop-part : goal.invariant-loop-part
invariant-loop-part l = record {
  so_far : judged_from (route_refusal (with_links l.sections l.links)) l.routes.items (map (route_of l.sections) (drop l.part-index l.parts)) ≡ sound_routes l.sections l.links l.parts;
  named : l.names ≡ map (λ route. route.name) l.routes.items;
}
