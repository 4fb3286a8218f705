-- The parts of a track, as the definitions see them.
use Rattle.rbc_model.specs.TrackParts.{Parts}
use Rattle.rbc_track.specs.declared.parts.Parts.{Parts as PartsHere}

abbrev pub parts_view : PartsHere → Parts
parts_view p = record {
  format = p.format;
  speed_steps = p.speed_steps;
  grade_steps = p.grade_steps;
  sections = p.sections.items;
  links = p.links.items;
  groups = p.groups.items;
  routes = p.routes.items;
}
