use Rattle.std.proofs.Common.{sym, ◌∙◌, subst}
use Rattle.rbc_model.specs.Answers.{AnswersOrMemory}
use Rattle.rbc_model.specs.CheckText.{rows_of}
use Rattle.rbc_checks.proofs.VerdictLemmas.{no_profile, with_profile}
use Rattle.rbc_checks.proofs.certify.certify.Goals as goal

pub returns-in-Ok : goal.returns-in-Ok
returns-in-Ok g c =
    let parts = c.args.parts.now in
    subst (λ verdict. AnswersOrMemory c.certify_profile.result verdict)
    (sym (with_profile g.V.Level.levels parts.limit parts.track parts.steps.items c.args.loss (rows_of 1 c.args.rows.now) c.in-Ok.profile
    (sym c.in-Ok.is ∙ c.requires)))
    c.certify_profile.ensures

pub returns-in-Err : goal.returns-in-Err
returns-in-Err g c =
    let parts = c.args.parts.now in
    no_profile g.V.Level.levels parts.limit parts.track parts.steps.items c.args.loss (rows_of 1 c.args.rows.now) c.in-Err.field-0
    (sym c.in-Err.is ∙ c.requires)
