use Rattle.std.proofs.Common.{All, List, take}
use Rattle.rbc_journaled.specs.Lasting.{EachLeavesFirst}
use Rattle.rbc_group_commit.specs.declared.stamp.Stamp.{Stamp}
use Rattle.rbc_journaled.proofs.closing.vouch_each.Given as goal

abbrev pub invariant-loop-committer : goal.invariant-loop-committer
invariant-loop-committer g l = All (λ (committer : List Stamp). EachLeavesFirst g.D.Device.moment g.D.Device.left_since l.last l.page.device committer) (take l.committer-index l.committers)
