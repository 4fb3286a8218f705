use Rattle.std.proofs.Common.{subst}
use Rattle.std.specs.Prelude.{All}
use Rattle.std.proofs.lemmas.List.{take_all}
use Rattle.rbc_model.specs.Histories.{Receipt}
use Rattle.rbc_sessions.proofs.KeepingLemmas.{places_next}
use Rattle.rbc_sessions.proofs.context.SessionContext.keep_each.Goals as goal

pub loop-receipt-preserved : goal.loop-receipt-preserved
loop-receipt-preserved g c =
    let loop = c.loop-receipt in
    let item = c.receipt-item in
    let stays = c.keep.ensures.stays in
    record {
      so_far = places_next (g.K.Keeper.kept loop.committer) (g.K.Keeper.kept c.keep.new.committer) c.args.receipts.now loop.receipt-index item.result c.loop-receipt-test.true item.is stays
          loop.invariant.so_far c.in_ok-keep.ensures.kept;
      stays = λ place k. stays place (loop.invariant.stays place k);
    }

pub returns-clause-kept : goal.returns-clause-kept
returns-clause-kept g c =
    let loop = c.loop-receipt in
    subst (All (λ (receipt : Receipt). g.K.Keeper.kept loop.committer receipt.place)) (take_all loop.receipt-index c.args.receipts.now c.loop-receipt-test.false) loop.invariant.so_far
