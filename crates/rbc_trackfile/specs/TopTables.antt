-- The top table's keys, as the definitions see what they tell.
use Rattle.std.specs.Prelude.{map}
use Rattle.toml.specs.View.{view}
use Rattle.rbc_trackfile.specs.declared.file.TopKeys.{TopKeys as ReadKeys}
use Rattle.toml.specs.Data.{Data}
use Rattle.rbc_model.specs.TrackFile.{TopKeys}

abbrev pub keys_view : ReadKeys → TopKeys Data
keys_view keys = record {
  format = keys.format;
  speed_steps = keys.speed_steps;
  grade_steps = keys.grade_steps;
  sections = map view keys.sections.now;
  links = map view keys.links.now;
  groups = map view keys.groups.now;
  routes = map view keys.routes.now;
}
