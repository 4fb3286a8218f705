use Rattle.std.proofs.Common.{sym, ◌∙◌}
use Rattle.rbc_reach.specs.SameViews.{is_same_view-decides}
use Rattle.rbc_reach.proofs.sameness.ViewPartialEq.eq.Goals as goal

pub returns-clause-same : goal.returns-clause-same
returns-clause-same c =
    let decides = is_same_view-decides c.args.self.now c.args.other.now in
    (λ h. decides.0 (sym c.is_same_view.ensures ∙ h), λ e. c.is_same_view.ensures ∙ decides.1 e)
