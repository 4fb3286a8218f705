use Rattle.std.proofs.Common.{◌<◌, length}
use Rattle.std.specs.Prelude.{All, flat_map}
use Rattle.rbc_model.specs.declared.places.Leg.{Leg}
use Rattle.rbc_model.specs.Words.{line_of}
use Rattle.rbc_streams.specs.Emitting.{Emits}
use Rattle.rbc_lines.specs.Pieces.{later_lines}
use Rattle.rbc_lines.proofs.train.emit_later_legs.Given as goal

-- to write the legs that are left is to write them all
abbrev pub invariant-loop-rest : goal.invariant-loop-rest
invariant-loop-rest g l =
    let emits = Emits g.W.Sink.written g.W.Sink.failed in
    record {
      of_track : All (λ (leg : Leg). leg.section < length l.track.sections) l.rest;
      whole : (end : _) → emits l.writer end (flat_map line_of (later_lines l.track l.train.train l.rest))
          → emits l.fn.writer end (flat_map line_of (later_lines l.track l.train.train l.legs));
    }

abbrev pub decreases-loop-rest : goal.decreases-loop-rest
decreases-loop-rest g l = length l.rest
