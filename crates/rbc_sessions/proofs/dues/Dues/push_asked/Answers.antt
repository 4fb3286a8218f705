use Rattle.std.proofs.Common.{◌∷◌, ◌++◌, [], ◌∙◌, ap, arith, length, length-append, rules}
use Rattle.rbc_sessions.specs.Dues.{AskedSo, asked_in}
use Rattle.rbc_sessions.proofs.DuesLemmas.{asked_next, count_asked}
use Rattle.rbc_sessions.proofs.dues.Dues.push_asked.Goals as goal

pub invariant_of-self : goal.invariant_of-self
invariant_of-self g c =
    let inside = c.self.inside in
    let answers = ap length c.push_reserved-2.ensures.items ∙ length-append inside.answers.items (c.args.answer ∷ []) in
    let asked = ap (λ items. asked_in items) c.push_reserved.ensures.items ∙ count_asked inside.replies.items in
    (omega (arith, answers, asked, c.self.invariant.0), (search rules), (search rules))

pub returns-clause-dues : goal.returns-clause-dues
returns-clause-dues g c =
    let inside = c.self.inside in
    rw (c.push_reserved.ensures.items, c.push_reserved-2.ensures.items)
    (asked_next inside.replies.items inside.answers.items c.args.answer c.self.invariant.0 ∙ ap (λ list. list.dues ++ AskedSo c.args.answer ∷ []) c.self.view_is)
