use Rattle.std.proofs.lemmas.Result.{err_from_is_err_and}
use Rattle.rbc_checks.proofs.certify.certify_grades.Goals as goal

pub returns-in_err-parts : goal.returns-in_err-parts
returns-in_err-parts c =
    let fault = err_from_is_err_and c.from_residual.result c.from_residual.ensures.1 in
    let refused = rw c.as_slice.ensures.value at (c.in_err-parts.ensures c.args.profile.now.loss c.args.rows.now) in
    rw (fault.1, fault.2) refused
