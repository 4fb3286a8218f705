use Rattle.std.proofs.Common.{length}
use Rattle.rbc_tally.proofs.replies.Replies.pass.Given as goal

abbrev pub decreases-loop-end : goal.decreases-loop-end
decreases-loop-end l = length l.rest
