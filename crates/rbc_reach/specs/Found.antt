-- Views as the search finds them: on the legs that it walked.
use Rattle.std.specs.Prelude.{ℕ, take}
use Rattle.rbc_model.specs.Lines.{legs_begun_before, speeds, grades}
use Rattle.rbc_model.specs.Trains.{Train}
use Rattle.rbc_model.specs.Views.{View, start_of}
use Rattle.rbc_scene.specs.Reaches.{ReachOnTrack}

-- the view of a train up to an end, by the legs that were walked to the reach
abbrev pub view_found : Train → ReachOnTrack → ℕ → View
view_found train found end = record {
  train = train.report.train;
  group = train.report.group;
  nominal = train.report.nominal;
  time = train.report.time;
  line = take (legs_begun_before found.track found.place found.line) found.line;
  origin = train.origin;
  start = start_of train;
  front = train.front;
  to = train.to;
  end = end;
  reach = found.place;
  obstacle = found.obstacle;
  speed_steps = found.track.speed_steps;
  grade_steps = found.track.grade_steps;
  speeds = speeds found.track found.line train.origin end;
  grades = grades found.track found.line train.origin end;
}
