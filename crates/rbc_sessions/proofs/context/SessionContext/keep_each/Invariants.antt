use Rattle.std.proofs.Common.{All, take}
use Rattle.rbc_model.specs.Histories.{Receipt}
use Rattle.rbc_sessions.specs.Sittings.{StaysKept}
use Rattle.rbc_sessions.proofs.context.SessionContext.keep_each.Given as goal

-- what led to the entries of the receipts so far is kept
abbrev pub invariant-loop-receipt : goal.invariant-loop-receipt
invariant-loop-receipt g l = record {
  so_far : All (λ (receipt : Receipt). g.K.Keeper.kept l.committer receipt.place) (take l.receipt-index l.receipts);
  stays : StaysKept g.K.Keeper.kept l.fn.committer l.committer;
}
