use Rattle.rbc_grant_laws.proofs.CandidateLemmas.{stops_at_reach}
use Rattle.rbc_grant_laws.proofs.obstacles_stand_at_the_reach.Goals as goal

pub returns : goal.returns
returns c = stops_at_reach
