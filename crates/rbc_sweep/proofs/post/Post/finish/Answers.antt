use Rattle.std.proofs.Common.{All, ◌≡◌, ◌++◌, ◌∷◌, [], ap, subst, sym, ◌∙◌}
use Rattle.std.specs.Option.{option_to_list}
use Rattle.std.proofs.lemmas.List.Elements.{All-weaker}
use Rattle.rbc_sweep.specs.declared.jobs.Tally.{Tally}
use Rattle.rbc_sweep.specs.Jobs.{IsSettled}
use Rattle.rbc_sweep.specs.Serving.{HaveGained, receipts_in}
use Rattle.rbc_sweep.specs.declared.order.Done.{Done}
use Rattle.rbc_sweep.specs.Outcomes.{IsTold, IsToldToOne}
use Rattle.rbc_sweep.proofs.CrewLemmas.{HaveGained-last, told_last}
use Rattle.rbc_sweep.proofs.post.Post.finish.Goals as goal

pub returns-clause-gained : goal.returns-clause-gained
returns-clause-gained g c =
    let first = c.pop.new.self.items in
    let had = c.unwrap-seat.result in
    let has = c.serve.new.worker.seat in
    let gained = receipts_in c.serve.new.worker.done.items in
    let split : c.args.seats.items ≡ first ++ had ∷ [] = c.pop.ensures.items ∙ ap (λ o. first ++ option_to_list o) c.unwrap-seat.ensures in
    subst (λ seats. HaveGained seats c.push_reserved.new.self.items gained) (sym split)
    (subst (λ seats. HaveGained (first ++ had ∷ []) seats gained) (sym c.push_reserved.ensures.items)
    (HaveGained-last first had has gained c.serve.ensures.served.gained c.serve.ensures.served.begins))

pub returns-clause-told : goal.returns-clause-told
returns-clause-told g c =
    let first = c.pop.new.self.items in
    let had = c.unwrap-seat.result in
    let has = c.serve.new.worker.seat in
    let done = c.serve.new.worker.done.items in
    let split : c.args.seats.items ≡ first ++ had ∷ [] = c.pop.ensures.items ∙ ap (λ o. first ++ option_to_list o) c.unwrap-seat.ensures in
    subst (λ seats. All (λ (d : Done). IsToldToOne seats c.push_reserved.new.self.items d.outcome) done) (sym split)
    (subst (λ seats. All (λ (d : Done). IsToldToOne (first ++ had ∷ []) seats d.outcome) done) (sym c.push_reserved.ensures.items)
    (All-weaker (λ (d : Done). IsTold had has d.outcome) (λ (d : Done). IsToldToOne (first ++ had ∷ []) (first ++ has ∷ []) d.outcome)
    (λ d t. told_last first had has d.outcome t) done c.serve.ensures.served.told))

pub returns-clause-settled : goal.returns-clause-settled
returns-clause-settled g c =
    subst (λ (t : Tally). IsSettled t) c.serve.ensures.served.taken (c.serve.ensures.settled c.requires.all)
