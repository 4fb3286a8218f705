use Rattle.std.proofs.Common.{subst}
use Rattle.std.specs.Prelude.{All}
use Rattle.std.proofs.lemmas.List.{take_all}
use Rattle.rbc_sessions.proofs.GrantLemmas.{IsKeptRank, all_kept, kept_next}
use Rattle.rbc_sessions.proofs.context.SessionContext.keep_ranked.Goals as goal

pub loop-rank-preserved : goal.loop-rank-preserved
loop-rank-preserved g c =
    let loop = c.loop-rank in
    let stays = c.keep_numbered.ensures.stays in
    record {
      so_far = kept_next (g.K.Keeper.kept loop.committer) (g.K.Keeper.kept c.keep_numbered.new.committer) c.args.outcomes.now c.args.ranks.now loop.rank-index (record { place = 0; number = 0 })
          c.loop-rank-test.true stays
          loop.invariant.so_far c.in_ok-keep_numbered.ensures.kept;
      stays = λ place k. stays place (loop.invariant.stays place k);
    }

pub returns-clause-kept : goal.returns-clause-kept
returns-clause-kept g c =
    let loop = c.loop-rank in
    let kept = g.K.Keeper.kept loop.committer in
    all_kept kept c.args.outcomes.now c.args.ranks.now c.requires.each
    (subst (All (IsKeptRank kept c.args.outcomes.now)) (take_all loop.rank-index c.args.ranks.now c.loop-rank-test.false) loop.invariant.so_far)
