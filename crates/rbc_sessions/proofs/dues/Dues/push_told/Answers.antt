use Rattle.std.proofs.Common.{◌∷◌, ◌++◌, [], ◌∙◌, ap, rules}
use Rattle.rbc_sessions.specs.Dues.{ToldSo, asked_in, dues_of}
use Rattle.rbc_sessions.proofs.DuesLemmas.{count_told, told_next}
use Rattle.rbc_sessions.proofs.dues.Dues.push_told.Goals as goal

pub invariant_of-self : goal.invariant_of-self
invariant_of-self g c =
    let inside = c.self.inside in
    (ap (λ items. asked_in items) c.push_reserved.ensures.items ∙ count_told inside.replies.items c.args.reply ∙ c.self.invariant.0, (search rules), (search rules))

pub returns-clause-dues : goal.returns-clause-dues
returns-clause-dues g c =
    let inside = c.self.inside in
    ap (λ items. dues_of items inside.answers.items) c.push_reserved.ensures.items ∙ told_next inside.replies.items inside.answers.items c.args.reply
    ∙ ap (λ list. list.dues ++ ToldSo c.args.reply ∷ []) c.self.view_is
