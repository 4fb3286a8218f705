use Rattle.std.proofs.Common.{length}
use Rattle.rbc_sessions.specs.Records.{begin_of}
use Rattle.rbc_journaled.proofs.ReplayingLemmas.{IsReplayed}
use Rattle.rbc_journaled.proofs.replaying.replay.Given as goal

abbrev pub invariant-loop-line : goal.invariant-loop-line
invariant-loop-line g l = IsReplayed (begin_of l.fn.history) l.text l.rest l.history

abbrev pub decreases-loop-line : goal.decreases-loop-line
decreases-loop-line g l = length l.rest
