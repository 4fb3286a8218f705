use Rattle.std.proofs.Common.{◌≡◌, ◌-◌, ◌≤◌, false, length}
use Rattle.std.specs.Io.KnownBytes.{Consumes}
use Rattle.rbc_streams.proofs.whole.read_whole.Given as goal

abbrev pub invariant-loop-bytes : goal.invariant-loop-bytes
invariant-loop-bytes g l = record {
  works : g.R.Source.failed l.reader ≡ false;
  so_far : Consumes (g.R.Source.left l.fn.reader) (g.R.Source.left l.reader) l.bytes.items;
  within : length l.bytes.items ≤ l.most;
}

abbrev pub decreases-loop-bytes : goal.decreases-loop-bytes
decreases-loop-bytes g l = l.most - length l.bytes.items
