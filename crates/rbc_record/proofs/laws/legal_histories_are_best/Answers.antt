use Rattle.rbc_scene_laws.proofs.KeptLemmas.{IsBestHistory-of_legal, NoMetreIsHeldTwice-any}
use Rattle.rbc_record.proofs.HistoryLemmas.{IsLegal-take, EachEndIsFarthest-legal, EachProfileIsBest-legal}
use Rattle.rbc_record.proofs.laws.legal_histories_are_best.Goals as goal

pub returns-clause-best : goal.returns-clause-best
returns-clause-best c = IsBestHistory-of_legal

pub returns-clause-beginnings : goal.returns-clause-beginnings
returns-clause-beginnings c = IsLegal-take

pub returns-clause-ends : goal.returns-clause-ends
returns-clause-ends c = EachEndIsFarthest-legal

pub returns-clause-profiles : goal.returns-clause-profiles
returns-clause-profiles c = EachProfileIsBest-legal

pub returns-clause-apart : goal.returns-clause-apart
returns-clause-apart c = λ begin entries sound good legal. NoMetreIsHeldTwice-any begin entries sound good
