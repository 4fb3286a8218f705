use Rattle.rbc_reach_laws.proofs.GreatestEndLemmas.{greatest_is, greatest_end-by_reach, blocked_where_none}
use Rattle.rbc_reach_laws.proofs.ends_are_found_by_the_reach.Goals as goal

pub returns-clause-distances : goal.returns-clause-distances
returns-clause-distances c = greatest_is

pub returns-clause-greatest : goal.returns-clause-greatest
returns-clause-greatest c = greatest_end-by_reach

pub returns-clause-blocked : goal.returns-clause-blocked
returns-clause-blocked c = blocked_where_none
