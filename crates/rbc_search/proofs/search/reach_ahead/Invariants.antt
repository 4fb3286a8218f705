use Rattle.std.proofs.Common.{◌≡◌, ◌-◌, length}
use Rattle.rbc_model.specs.Lines.{line_length}
use Rattle.rbc_model.specs.Locks.{lengthened_fully, longer_ahead}
use Rattle.rbc_reach_laws.specs.Nearest.{walk_on}
use Rattle.rbc_search.specs.Reaches.{scene_of}
use Rattle.rbc_search.proofs.search.reach_ahead.Given as goal

abbrev pub invariant-loop-added : goal.invariant-loop-added
invariant-loop-added l = record {
  track : l.course.track ≡ l.train.track;
  walked : walk_on l.train.track (scene_of l.locks l.book.trains) l.train.train (length l.train.track.sections - l._added) l.course.legs (line_length l.train.track l.course.legs)
      ≡ walk_on l.train.track (scene_of l.locks l.book.trains) l.train.train (length l.train.track.sections) l.fn.line.legs (line_length l.train.track l.fn.line.legs);
  grown : lengthened_fully (length l.train.track.sections - l._added) (longer_ahead l.locks) l.course.legs
      ≡ lengthened_fully (length l.train.track.sections) (longer_ahead l.locks) l.fn.line.legs;
}
