use Rattle.rbc_reach_laws.proofs.ReachLemmas.{reach-by_legs}
use Rattle.rbc_reach_laws.proofs.LoopLemmas.{reach-lazily, stop-lazily}
use Rattle.rbc_reach_laws.proofs.reaches_are_found_by_legs.Goals as goal

pub returns-clause-nearest : goal.returns-clause-nearest
returns-clause-nearest c = reach-by_legs

pub returns-clause-walks : goal.returns-clause-walks
returns-clause-walks c = λ track scene train. (reach-lazily track scene train, stop-lazily track scene train)
