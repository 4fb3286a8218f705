-- The lines of a track in the pieces that are printed one behind another.
use Rattle.std.specs.Prelude.{ℕ, ◌<◌, List, length, All, Option, Some, None}
use Rattle.rbc_model.specs.declared.places.Leg.{Leg}
use Rattle.rbc_model.specs.declared.tracks.BaliseGroup.{BaliseGroup}
use Rattle.rbc_model.specs.declared.tracks.Link.{Link}
use Rattle.rbc_model.specs.Rows.{rows_text}
use Rattle.rbc_model.specs.TrackLines.{named_link, named_group, named_route, section_rows, link_row, group_row, route_row}
use Rattle.rbc_model.specs.Tracks.{Section, Route, Track}
use Rattle.rbc_model.specs.Words.{line_of}

-- the lines of a section
abbrev pub section_text : Section → List ℕ
section_text section = rows_text (section_rows section)

-- the line of a link, of a balise group and of a route
abbrev pub link_text : Track → Link → List ℕ
link_text track link = line_of (link_row (named_link track link))

abbrev pub group_text : Track → BaliseGroup → List ℕ
group_text track group = line_of (group_row (named_group track group))

abbrev pub route_text : Track → Route → List ℕ
route_text track route = line_of (route_row (named_route track route))

-- ---- the sections that are named are the track's

abbrev pub IsLegOf : Track → Leg → Type 0
IsLegOf track leg = leg.section < length track.sections

abbrev pub LegsAreOfTrack : Track → List Leg → Type 0
LegsAreOfTrack track legs = All (IsLegOf track) legs

pub record LinkIsOfTrack (track : Track) (link : Link) : Type 0 where
  pub from : link.from.section < length track.sections
  pub to : link.to.section < length track.sections

-- the leg that a route is entered from, if it has one
abbrev pub EntryIsOfTrack : Track → Option Leg → Type 0
EntryIsOfTrack track None = Unit {0}
EntryIsOfTrack track (Some leg) = leg.section < length track.sections

pub record RouteIsOfTrack (track : Track) (route : Route) : Type 0 where
  pub entry : EntryIsOfTrack track route.after
  pub legs : LegsAreOfTrack track route.legs
