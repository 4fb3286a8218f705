use Rattle.std.proofs.Common.{List, subst, sym}
use Rattle.rbc_sweep.specs.declared.outcome.Outcome.{Outcome}
use Rattle.rbc_sweep.specs.Outcomes.{granted}
use Rattle.rbc_sweep.specs.Serving.{HaveGained}
use Rattle.rbc_sweep.proofs.CrewLemmas.{HaveGained-none}
use Rattle.rbc_sweep.proofs.post.Post.sweep_list.Goals as goal

pub returns-then-is_empty-clause-gained : goal.returns-then-is_empty-clause-gained
returns-then-is_empty-clause-gained g c =
    subst (λ (outcomes : List Outcome). HaveGained c.args.seats.items c.args.seats.items (granted outcomes)) (sym c.new.ensures.items)
    (HaveGained-none c.args.seats.items)
