-- A third kind of level, for tests of what is generic over levels. It stands for no quantity of the railway.
use Rattle.std.specs.Prelude.{ℕ, Bool, ◌-◌, ◌*◌, ◌&&◌, List, [], ◌∷◌, max, nat_le, ◌==◌, if◌then◌else◌}
use Rattle.std.specs.List.{list_any}
use Rattle.rbc_model.specs.Levels.{Levels}

-- the powers of two up to 512
abbrev pub powers : List ℕ
powers = 1 ∷ 2 ∷ 4 ∷ 8 ∷ 16 ∷ 32 ∷ 64 ∷ 128 ∷ 256 ∷ 512 ∷ []

-- the greatest of these numbers that is no higher than v, or 0 where each is higher
abbrev pub greatest_within : ℕ → List ℕ → ℕ
greatest_within v [] = 0
greatest_within v (number ∷ later) =
    if nat_le number v then max number (greatest_within v later) else greatest_within v later

-- whether it is one of them
abbrev pub is_power : ℕ → Bool
is_power v = list_any (λ number. number == v) powers

-- Numbers of 1 to 1,000. A message has the powers of two. What is lost is the square of the difference: it is up to
-- 998,001, and does not add up.
abbrev pub power_levels : Levels ℕ
power_levels = record {
  in_range = λ v. nat_le 1 v && nat_le v 1000;
  at_most = nat_le;
  floor = λ v. greatest_within v powers;
  is_expressible = is_power;
  price = λ v given. (v - given) * (v - given);
}
