use Rattle.rbc_costs.proofs.PriceLemmas.{gradients_are_low}
use Rattle.rbc_costs.proofs.priced.GradePriced.is_low.Goals as goal

pub returns : goal.returns
returns c = λ yes. gradients_are_low
