use Rattle.rbc_grant_laws.proofs.CandidateLemmas.{IsBest-candidate, MayFollow-candidate, IsBest-same_view, none_between-IsBestFor}
use Rattle.rbc_grant_laws.proofs.candidates_are_best.Goals as goal

pub returns-clause-best : goal.returns-clause-best
returns-clause-best c = IsBest-candidate

pub returns-clause-follow : goal.returns-clause-follow
returns-clause-follow c = MayFollow-candidate

pub returns-clause-same : goal.returns-clause-same
returns-clause-same c = IsBest-same_view

pub returns-clause-between : goal.returns-clause-between
returns-clause-between c = none_between-IsBestFor
