use Rattle.std.proofs.Common.{Ok, arith, subst}
use Rattle.httparse.specs.Outcome.{IfComplete}
use Rattle.httparse.specs.Spans.{IsRequestOf, IsRequestWithin}
use Rattle.httparse.specs.declared.Error.{Error}
use Rattle.rbc_page.proofs.HearingLemmas.{few_fields}
use Rattle.rbc_page.proofs.hearing.hear.Goals as goal

pub returns-in-Ok-Complete-clause-long : goal.returns-in-Ok-Complete-clause-long
returns-in-Ok-Complete-clause-long c = λ head rest reads over.
    let bytes = c.args.bytes.now in
    let fields = c.parse_request.new.headers in
    let found = c.in-Ok-Complete in
    let within = subst (λ status. IfComplete {E = Error} (Ok status) (IsRequestWithin bytes fields)) found.field-0-is found.ensures.within in
    let complete = subst (λ status. IfComplete {E = Error} (Ok status) (IsRequestOf bytes fields)) found.field-0-is found.ensures.complete in
    let few = few_fields bytes fields found.spans head rest within complete reads in
    absurd (omega (arith, over, few))
