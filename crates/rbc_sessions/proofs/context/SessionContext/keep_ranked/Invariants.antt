use Rattle.std.proofs.Common.{All, take}
use Rattle.rbc_sessions.specs.Sittings.{StaysKept}
use Rattle.rbc_sessions.proofs.GrantLemmas.{IsKeptRank}
use Rattle.rbc_sessions.proofs.context.SessionContext.keep_ranked.Given as goal

-- what led to the entries of the ranks so far is kept
abbrev pub invariant-loop-rank : goal.invariant-loop-rank
invariant-loop-rank g l = record {
  so_far : All (IsKeptRank (g.K.Keeper.kept l.committer) l.outcomes) (take l.rank-index l.ranks);
  stays : StaysKept g.K.Keeper.kept l.fn.committer l.committer;
}
