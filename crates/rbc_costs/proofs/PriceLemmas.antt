-- What the prices of speeds and gradients allow.
use Rattle.std.proofs.Common.{arith, nat_le}
use Rattle.std.proofs.lemmas.Bool.{leb-true}
use Rattle.rbc_model.specs.Levels.{speed_levels, grade_levels}
use Rattle.rbc_model.proofs.CountingLemmas.{both_of}
use Rattle.rbc_model.proofs.LevelLemmas.{price_of, grade_range}
use Rattle.rbc_costs.specs.Prices.{ArePricesAtMost}

-- ---- speeds

pub speeds_are_low : ArePricesAtMost speed_levels 20000
speeds_are_low v given rv rg below = omega (arith, leb-true v 600 (both_of (nat_le 5 v) (nat_le v 600) rv).1)

-- ---- gradients

pub gradients_are_low : ArePricesAtMost grade_levels 20000
gradients_are_low v given rv rg low = omega (arith, price_of v given low, grade_range v rv, grade_range given rg)
