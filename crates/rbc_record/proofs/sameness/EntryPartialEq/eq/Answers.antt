use Rattle.std.proofs.Common.{sym, ◌∙◌}
use Rattle.rbc_record.specs.Entries.{entry_of}
use Rattle.rbc_record.specs.SameEntries.{is_same_entry-decides}
use Rattle.rbc_record.proofs.sameness.EntryPartialEq.eq.Goals as goal

pub returns-clause-same : goal.returns-clause-same
returns-clause-same c =
    let decides = is_same_entry-decides (entry_of c.args.self.now) (entry_of c.args.other.now) in
    (λ h. decides.0 (sym c.is_same_held.ensures ∙ h), λ e. c.is_same_held.ensures ∙ decides.1 e)
