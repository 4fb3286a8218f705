use Rattle.std.proofs.Common.{◌≡◌, ◌++◌}
use Rattle.std.specs.Prelude.{map}
use Rattle.rbc_scene.specs.TrainsOnTracks.{TrainOnTrack}
use Rattle.rbc_scene.specs.Entries.{on_track}
use Rattle.rbc_scene.specs.Reaches.{scene_of}
use Rattle.rbc_lines.specs.Nexts.{next_of}
use Rattle.rbc_lines.proofs.next.nexts_in.Given as goal

abbrev pub invariant-loop-train : goal.invariant-loop-train
invariant-loop-train l = record {
  can : (goal.iterator-loop-train).can_next l.train-iterator;
  finite : (goal.iterator-loop-train).is_finite l.train-iterator;
  tracks : l.train-iterator ≡ map (on_track l.book.track) (map (λ (t : TrainOnTrack). t.train) l.train-iterator);
  told : l.nexts.items ++ map (next_of l.book.track (scene_of l.locks l.book.trains)) (map (λ (t : TrainOnTrack). t.train) l.train-iterator)
      ≡ map (next_of l.book.track (scene_of l.locks l.book.trains)) l.book.trains;
}
