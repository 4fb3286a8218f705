-- The parts that a track is made of. They name sections by their names, and a track by their numbers.
use Rattle.std.specs.Prelude.{bytes_eq, ℕ, List, length, map, position, Option, Result, Ok, option_map}
use Rattle.std.specs.Option.{unwrap_or}
use Rattle.rbc_model.specs.declared.places.Direction.{Direction}
use Rattle.rbc_model.specs.declared.places.Leg.{Leg}
use Rattle.rbc_model.specs.GroupNames.{GroupName}
use Rattle.rbc_model.specs.declared.places.Format.{Format}
use Rattle.rbc_model.specs.declared.tracks.Link.{Link}
use Rattle.rbc_model.specs.declared.tracks.BaliseGroup.{BaliseGroup}
use Rattle.rbc_model.specs.declared.tracks.TrackRefusal.{TrackRefusal}
use Rattle.rbc_model.specs.Results.{unless}
use Rattle.rbc_model.specs.Names.{LegName}
use Rattle.rbc_model.specs.Tracks.{Section, Route, Track}
use Rattle.rbc_model.specs.SoundTracks.{track_refusal}

-- a link from one leg to another
pub record LinkPart : Type 0 where
  pub from : LegName
  pub to : LegName

-- a balise group: its identity, its section, how far from the section's start it stands, and its nominal direction
pub record GroupPart : Type 0 where
  pub name : GroupName
  pub section : List ℕ
  pub offset : ℕ
  pub nominal : Direction

-- a route: the leg that it is entered from, if it has one, and its legs in order
pub record RoutePart : Type 0 where
  pub name : List ℕ
  pub after : Option LegName
  pub legs : List LegName

-- the format, the greatest number of steps that a profile of speeds and one of gradients may have, and all parts
pub record Parts : Type 0 where
  pub format : Format
  pub speed_steps : ℕ
  pub grade_steps : ℕ
  pub sections : List Section
  pub links : List LinkPart
  pub groups : List GroupPart
  pub routes : List RoutePart

module _ (sections : List Section) where
  -- the number of the first section of this name; where there is none, a number that no section has
  abbrev pub section_number : List ℕ → ℕ
  section_number name = unwrap_or (position (λ section. bytes_eq section.name name) sections) (length sections)

  abbrev pub leg_of : LegName → Leg
  leg_of leg = record { section = section_number leg.section; direction = leg.direction }

  abbrev pub link_of : LinkPart → Link
  link_of link = record { from = leg_of link.from; to = leg_of link.to }

  abbrev pub group_of : GroupPart → BaliseGroup
  group_of group = record { name = group.name; section = section_number group.section; offset = group.offset; nominal = group.nominal }

  abbrev pub route_of : RoutePart → Route
  route_of route = record { name = route.name; after = option_map leg_of route.after; legs = map leg_of route.legs }

-- the parts with their sections by number
abbrev pub resolved : Parts → Track
resolved parts = record {
  format = parts.format;
  speed_steps = parts.speed_steps;
  grade_steps = parts.grade_steps;
  sections = parts.sections;
  links = map (link_of parts.sections) parts.links;
  groups = map (group_of parts.sections) parts.groups;
  routes = map (route_of parts.sections) parts.routes;
}

-- the track that parts make, or the first reason why they make none
abbrev pub track_of : Parts → Result Track TrackRefusal
track_of parts = unless (track_refusal (resolved parts)) (Ok (resolved parts))
