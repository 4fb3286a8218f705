-- Powers of two by their bits.
use Rattle.std.proofs.Common.{◌≡◌, ℕ, ◌*◌, ◌^◌, ◌<◌, ◌≤◌, Bool, true, false, not, ◌&&◌, ◌||◌, refl, arith, nat_le, nat_lt, ◌==◌, sym}
use Rattle.std.specs.Int.{is_power_of_two}
use Rattle.std.proofs.lemmas.Bool.{eqb-true}
use Rattle.std.proofs.lemmas.Bool.Decides.{nat_tests}
use Rattle.rbc_model.proofs.CountingLemmas.{all_below, all_below-holds}
use Rattle.rbc_test_levels.specs.PowerLevels.{powers, greatest_within, is_power}
use Rattle.rbc_test_levels.specs.PowerLaws.{implied}

abbrev agree : Bool → Bool → Bool
agree true b = b
agree false b = not b

of_agree : (a b : Bool) → agree a b ≡ true → a ≡ b
of_agree true b e = sym e
of_agree false true e = cc
of_agree false false e = refl

pub power_test : (v : ℕ) → v ≤ 1000 → is_power_of_two v ≡ is_power v
unfolding lib.Count.ones
power_test v h =
    of_agree (is_power_of_two v) (is_power v)
    (all_below-holds 1001 (λ v. agree (is_power_of_two v) (is_power v)) refl v (omega arith))

-- the floor of a number whose highest bit is at position k
abbrev floor_at : ℕ → ℕ → Bool
floor_at k v = not (nat_le (2 ^ k) v && nat_lt v (2 * 2 ^ k)) || greatest_within v powers == 2 ^ k

abbrev floors_at : ℕ → Bool
floors_at k = all_below 1001 (floor_at k)

pub power_floor : (v k : ℕ) → v ≤ 1000 → k < 16 → 2 ^ k ≤ v → v < 2 * 2 ^ k → greatest_within v powers ≡ 2 ^ k
power_floor v k small bits low high =
    eqb-true (greatest_within v powers) (2 ^ k)
    (implied (nat_le (2 ^ k) v && nat_lt v (2 * 2 ^ k)) (greatest_within v powers == 2 ^ k)
    (all_below-holds 1001 (floor_at k) (all_below-holds 16 floors_at refl k bits) v (omega arith))
    (within (2 ^ k) v (2 * 2 ^ k) low high))
  where
    within : (a v b : ℕ) → a ≤ v → v < b → (nat_le a v && nat_lt v b) ≡ true
    within a v b low high = grind (arith, nat_tests)
