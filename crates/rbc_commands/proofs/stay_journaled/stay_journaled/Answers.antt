use Rattle.std.proofs.Common.{◌≡◌, sym, subst}
use Rattle.rbc_journal_file.specs.Past.{may_leave, seen}
use Rattle.rbc_journal_file.specs.Recorded.{past_of}
use Rattle.rbc_show.specs.Journaled.{IsReady}
use Rattle.rbc_commands.proofs.stay_journaled.stay_journaled.Goals as goal

-- the opening has the record, with its journal
pub open-requires-clause-ready : goal.open-requires-clause-ready
open-requires-clause-ready g c κs within =
    subst (λ history. IsReady (λ file. seen (past_of file)) (λ file. may_leave (past_of file)) history) (sym c.for_places-opening.ensures.history) c.requires.ready
