use Rattle.std.proofs.Common.{length, take, ◌-◌, ◌≡◌, ◌≤◌, false}
use Rattle.std.specs.Io.KnownBytes.{Appends}
use Rattle.rbc_streams.proofs.streams.put.Given as goal

abbrev pub invariant-loop-count : goal.invariant-loop-count
invariant-loop-count g l = record {
  in_range : l.count ≤ length l.bytes;
  works : g.W.Sink.failed l.writer ≡ false;
  so_far : Appends (g.W.Sink.written l.initial.writer) (g.W.Sink.written l.writer) (take l.count l.bytes);
}

abbrev pub decreases-loop-count : goal.decreases-loop-count
decreases-loop-count g l = length l.bytes - l.count
