use Rattle.std.proofs.Common.{◌≡◌}
use Rattle.std.specs.Prelude.{map, flat_map}
use Rattle.rbc_model.specs.SceneLines.{train_lines}
use Rattle.rbc_model.specs.Words.{line_of}
use Rattle.rbc_scene.specs.TrainsOnTracks.{TrainOnTrack}
use Rattle.rbc_scene.specs.Entries.{on_track}
use Rattle.rbc_streams.specs.Emitting.{Emits}
use Rattle.rbc_lines.specs.Nexts.{next_of}
use Rattle.rbc_lines.proofs.scene.emit_trains.Given as goal

-- to write the trains that are left is to write them all, and it is known what each of these would be granted
abbrev pub invariant-loop-train : goal.invariant-loop-train
invariant-loop-train g l =
    let emits = Emits g.W.Sink.written g.W.Sink.failed in
    let left = map (λ (t : TrainOnTrack). t.train) l.train-iterator in
    record {
      can : (goal.iterator-loop-train g).can_next l.train-iterator;
      finite : (goal.iterator-loop-train g).is_finite l.train-iterator;
      tracks : l.train-iterator ≡ map (on_track l.scene.track) left;
      nexts : l.rest ≡ map (next_of l.scene.track l.scene.scene) left;
      whole : (end : _) → emits l.writer end (flat_map line_of (flat_map (train_lines l.track l.scene.scene) left))
          → emits l.fn.writer end (flat_map line_of (flat_map (train_lines l.track l.scene.scene) l.scene.scene.trains));
    }
