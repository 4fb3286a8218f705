-- How a track is made of parts: table by table, each entry judged by those before it. `TrackParts` says the same by the first refusal.
use Rattle.std.specs.Prelude.{List, [], map, Option, Some, None, Result, Ok}
use Rattle.std.specs.Option.{option_or}
use Rattle.rbc_model.specs.declared.memory.OrMemory.{OrMemory}
use Rattle.rbc_model.specs.declared.memory.OrMemory.TheVariants.{Refused, Memory}
use Rattle.rbc_model.specs.declared.tracks.Link.{Link}
use Rattle.rbc_model.specs.declared.tracks.BaliseGroup.{BaliseGroup}
use Rattle.rbc_model.specs.declared.tracks.TrackRefusal.{TrackRefusal}
use Rattle.rbc_model.specs.Results.{unless, ◌>>=◌, ◌>>◌}
use Rattle.rbc_model.specs.SoundTracks.{first_refusal, size_refusal, section_refusal, link_refusal, group_refusal, route_refusal}
use Rattle.rbc_model.specs.Tracks.{Section, Route, Track}
use Rattle.rbc_model.specs.TrackParts.{Parts, LinkPart, GroupPart, RoutePart, link_of, group_of, route_of, resolved}
use Rattle.rbc_track.specs.Tables.{track_with, with_links}

-- parts of few enough entries
unfoldable pub sizes_of : Parts → Result (Unit {0}) TrackRefusal
sizes_of parts = unless (size_refusal (resolved parts)) (Ok tt)

-- the entries of each table, or the first refusal of one
unfoldable pub sound_sections : List Section → Result (List Section) TrackRefusal
sound_sections sections = unless (first_refusal section_refusal [] sections) (Ok sections)

unfoldable pub sound_links : List Section → List LinkPart → Result (List Link) TrackRefusal
sound_links sections parts =
    let links = map (link_of sections) parts in
    unless (first_refusal (link_refusal (with_links sections [])) [] links) (Ok links)

unfoldable pub sound_groups : List Section → List GroupPart → Result (List BaliseGroup) TrackRefusal
sound_groups sections parts =
    let groups = map (group_of sections) parts in
    unless (first_refusal (group_refusal (with_links sections [])) [] groups) (Ok groups)

unfoldable pub sound_routes : List Section → List Link → List RoutePart → Result (List Route) TrackRefusal
sound_routes sections links parts =
    let routes = map (route_of sections) parts in
    unless (first_refusal (route_refusal (with_links sections links)) [] routes) (Ok routes)

-- the tables of links, groups and routes over these sections, or the first refusal
unfoldable pub later_tables : List Section → List LinkPart → List GroupPart → List RoutePart → Result (List Link × List BaliseGroup × List Route) TrackRefusal
later_tables sections link_parts group_parts route_parts = do
  links ← sound_links sections link_parts
  groups ← sound_groups sections group_parts
  routes ← sound_routes sections links route_parts
  Ok (links, groups, routes)

-- the track that parts make, or the first refusal
unfoldable pub made_of : Parts → Result Track TrackRefusal
made_of parts = do
  sizes_of parts
  sections ← sound_sections parts.sections
  tables ← later_tables sections parts.links parts.groups parts.routes
  Ok (track_with parts.format parts.speed_steps parts.grade_steps sections tables.0 tables.1 tables.2)

-- the first refusal of the tables of parts that are few enough
unfoldable pub tables_refusal : List Section → List LinkPart → List GroupPart → List RoutePart → Option TrackRefusal
tables_refusal sections link_parts group_parts route_parts =
    let track = with_links sections (map (link_of sections) link_parts) in
    option_or (first_refusal section_refusal [] sections)
    (option_or (first_refusal (link_refusal track) [] track.links)
    (option_or (first_refusal (group_refusal track) [] (map (group_of sections) group_parts))
    (first_refusal (route_refusal track) [] (map (route_of sections) route_parts))))

-- what is told where the making of the tables was refused so: in place of memory the first refusal, if there is one
abbrev pub told_for : OrMemory TrackRefusal → Option TrackRefusal → OrMemory TrackRefusal
told_for (Refused refusal) first = Refused refusal
told_for Memory (Some refusal) = Refused refusal
told_for Memory None = Memory
