use Rattle.std.proofs.Common.{IfOk, OnErr, ◌≡◌, ◌++◌, ◌∷◌, [], subst, sym}
use Rattle.rbc_desk.specs.declared.granted.Granted.{Granted as Grant}
use Rattle.rbc_sweep.proofs.WorkLemmas.{Asked, receipts_gained, told_asked}
use Rattle.rbc_sweep.proofs.post.Post.outcome.Goals as goal

pub returns-clause-receipts : goal.returns-clause-receipts
returns-clause-receipts g c =
    let old = c.args.seat.now.receipts in
    let new = c.ask-asked.new.seat.receipts in
    receipts_gained c.of-answer.result old new (subst (λ (a : Asked). IfOk a (λ (x : Grant). new ≡ old ++ x.receipt ∷ [])) (sym c.of-answer.ensures) c.ask-asked.ensures.receipt)
    (subst (λ (a : Asked). OnErr a (new ≡ old)) (sym c.of-answer.ensures) c.ask-asked.ensures.refused)

pub returns-clause-told : goal.returns-clause-told
returns-clause-told g c = told_asked c.args.seat.now c.ask-asked.new.seat c.args.train c.of-answer.result c.ask-asked.result c.of-answer.ensures c.ask-asked.ensures.since
