use Rattle.rbc_good_laws.proofs.TestLemmas.{apart_by_sections, held_locked_by_legs, rows_behind_by_next}
use Rattle.rbc_good_laws.proofs.GoodLemmas.{good_scenes_decided}
use Rattle.rbc_good_laws.proofs.good_scenes_are_decided.Goals as goal

pub returns-clause-apart : goal.returns-clause-apart
returns-clause-apart c = apart_by_sections

pub returns-clause-locked : goal.returns-clause-locked
returns-clause-locked c = held_locked_by_legs

pub returns-clause-behind : goal.returns-clause-behind
returns-clause-behind c = rows_behind_by_next

pub returns-clause-good : goal.returns-clause-good
returns-clause-good c = good_scenes_decided
