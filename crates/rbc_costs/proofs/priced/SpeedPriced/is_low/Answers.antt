use Rattle.rbc_costs.proofs.PriceLemmas.{speeds_are_low}
use Rattle.rbc_costs.proofs.priced.SpeedPriced.is_low.Goals as goal

pub returns : goal.returns
returns c = λ yes. speeds_are_low
