use Rattle.std.proofs.Common.{◌≡◌, map}
use Rattle.std.specs.Prelude.{find, option_map}
use Rattle.rbc_scene.specs.Entries.{number_on, on_track}
use Rattle.rbc_scene_reading.specs.Spans.{shares}
use Rattle.rbc_scene_reading.proofs.apart.first_of_all.Given as goal

abbrev pub invariant-loop-other : goal.invariant-loop-other
invariant-loop-other l = record {
  can : (goal.iterator-loop-other).can_next l.other-iterator;
  finite : (goal.iterator-loop-other).is_finite l.other-iterator;
  found : option_map number_on (find (shares l.train.track l.section l.train.train) l.other-iterator)
      ≡ option_map number_on (find (shares l.train.track l.section l.train.train) (map (on_track l.book.track) l.book.trains));
}
