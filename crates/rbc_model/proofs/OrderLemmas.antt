-- Comparing numbers in code answers what the levels' orders say.
use Rattle.std.proofs.Common.{◌≡◌, ℕ, ℤ, pos, negsuc, refl, arith, nat_le, int_le, cond, ltb}
use Rattle.std.specs.Ordering.{is_le, nat_cmp, int_cmp}
use Rattle.std.specs.declared.cmp.Ordering.TheVariants.{Less, Equal, Greater}
use Rattle.std.proofs.lemmas.Bool.Decides.{nat_tests}
use Rattle.rbc_model.specs.Levels.{speed_levels, grade_levels, IsInRange}

nat_in_order : (a b : ℕ) → is_le (nat_cmp a b) ≡ nat_le a b
nat_in_order a b = grind (arith, nat_tests)

by_less : (a b : ℕ) → is_le (cond (ltb a b) Less (cond (ltb b a) Greater Equal)) ≡ nat_le a b
by_less a b = grind (arith, nat_tests)

int_in_order : (a b : ℤ) → is_le (int_cmp a b) ≡ int_le a b
int_in_order (pos a) (pos b) = by_less a b
int_in_order (pos a) (negsuc b) = refl
int_in_order (negsuc a) (pos b) = refl
int_in_order (negsuc a) (negsuc b) = by_less b a

pub speed_in_order : (a b : ℕ) → IsInRange speed_levels a → IsInRange speed_levels b → is_le (nat_cmp a b) ≡ speed_levels.at_most a b
speed_in_order a b ra rb = nat_in_order a b

pub grade_in_order : (a b : ℤ) → IsInRange grade_levels a → IsInRange grade_levels b → is_le (int_cmp a b) ≡ grade_levels.at_most a b
grade_in_order a b ra rb = int_in_order a b
