use Rattle.rbc_journal.proofs.StagingLemmas.{is_staged, still_waits}
use Rattle.rbc_journal.proofs.journal.push.Goals as goal

pub returns-clause-staged : goal.returns-clause-staged
returns-clause-staged c =
    is_staged _ _ _ _ c.requires.waiting c.open_last.ensures.none c.open_last.ensures.some c.push_line.ensures.items c.requires.line

pub returns-clause-waiting : goal.returns-clause-waiting
returns-clause-waiting c =
    still_waits _ _ _ _ c.requires.waiting c.open_last.ensures.none c.open_last.ensures.some c.push_line.ensures.items c.requires.line
