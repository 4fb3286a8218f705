use Rattle.std.proofs.Common.{sym, ◌∙◌}
use Rattle.rbc_record.specs.SameEntries.{is_same_grant-decides}
use Rattle.rbc_record.proofs.sameness.GrantPartialEq.eq.Goals as goal

pub returns-clause-same : goal.returns-clause-same
returns-clause-same c =
    let decides = is_same_grant-decides c.args.self.now c.args.other.now in
    (λ h. decides.0 (sym c.is_same_grant.ensures ∙ h), λ e. c.is_same_grant.ensures ∙ decides.1 e)
