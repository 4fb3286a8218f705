use Rattle.std.proofs.Common.{◌≡◌, ◌++◌}
use Rattle.std.specs.Prelude.{map}
use Rattle.rbc_book.specs.TrainsOnTracks.{TrainOnTrack}
use Rattle.rbc_book.specs.Entries.{on_track}
use Rattle.rbc_search.specs.Stretches.{but, stretches_in, stretches_of}
use Rattle.rbc_search.proofs.stretches.row_of_several.Given as goal

abbrev pub invariant-loop-train : goal.invariant-loop-train
invariant-loop-train l = record {
  can : (goal.iterator-loop-train).can_next l.train-iterator;
  finite : (goal.iterator-loop-train).is_finite l.train-iterator;
  tracks : l.train-iterator ≡ map (on_track l.book.track) (map (λ (t : TrainOnTrack). t.train) l.train-iterator);
  told : stretches_in l.row ++ stretches_of l.book.track (but l.id (map (λ (t : TrainOnTrack). t.train) l.train-iterator)) l.section ≡ stretches_of l.book.track (but l.id l.book.trains) l.section;
}
