use Rattle.std.proofs.Common.{List, subst, sym}
use Rattle.rbc_sessions.specs.Sittings.{HasRank}
use Rattle.rbc_sessions.specs.declared.grants.Rank.{Rank}
use Rattle.rbc_sessions.proofs.context.SessionContext.keep_grants.Goals as goal

pub keep_ranked-requires : goal.keep_ranked-requires
keep_ranked-requires g c =
    record { each = λ number inside. subst (λ (ranks : List Rank). HasRank ranks number) (sym c.as_slice.ensures.value) (c.in-Ok.ensures.each number inside) }
