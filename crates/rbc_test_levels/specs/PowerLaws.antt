-- The third kind of level obeys the laws of levels. Its values are few, so what holds of each is tested one by one.
use Rattle.std.specs.Prelude.{◌≡◌, refl, ℕ, ◌-◌, ◌*◌, ◌<◌, ◌≤◌, Bool, true, false, not, ◌&&◌, ◌||◌, ◌==◌, nat_le, ◌⊎◌, List, [], ◌∷◌}
use Rattle.std.specs.List.{list_all, list_any}
use Rattle.std.specs.Ordering.{is_le, nat_cmp}
use Rattle.std.specs.Cmp.{nat_cmp_is}
use Rattle.std.specs.declared.cmp.Ordering.TheVariants.{Less, Equal, Greater}
use Rattle.std.proofs.Common.{inl, inr, sym, ap, ◌∙◌, subst, true≢false, lit≤}
use Rattle.std.proofs.Math.Nat.{le_refl, le_trans, le_antisymm, le_of_lt, lt_of_le_of_lt, lt_of_lt_of_le, sub-le, sub_self, sub-le-sub_left, mul-le-mul_left, mul-le-mul_right}
use Rattle.std.proofs.Math.Numerals.{sub-suc-lt}
use Rattle.std.proofs.lemmas.Nat.{mul-lt}
use Rattle.std.proofs.lemmas.Bool.{leb-true, le-leb, eqb-true}
use Rattle.std.proofs.lemmas.Bool.Decides.{leb_tells}
use Rattle.rbc_model.specs.Levels.{IsLawful, IsInRange}
use Rattle.rbc_model.proofs.CountingLemmas.{both_of, all_below, all_below-holds}
use Rattle.rbc_test_levels.specs.PowerLevels.{powers, greatest_within, is_power, power_levels}

-- ---- tests

pub implied : (a b : Bool) → (not a || b) ≡ true → a ≡ true → b ≡ true
implied true b e h = e
implied false b e h = absurd (true≢false (sym h))

-- what holds of each of some numbers holds of one of them
at_one_of : (test : ℕ → Bool) (numbers : List ℕ) (v : ℕ) → list_all test numbers ≡ true
    → list_any (λ number. number == v) numbers ≡ true → test v ≡ true
at_one_of test [] v all e = absurd (true≢false (sym e))
at_one_of test (number ∷ later) v all e =
    go (number == v) refl (both_of (test number) (list_all test later) all) e (at_one_of test later v)
  where
    go : (t : Bool) → (number == v) ≡ t → (test number ≡ true) × (list_all test later ≡ true)
        → (t || list_any (λ number. number == v) later) ≡ true
        → (list_all test later ≡ true → list_any (λ number. number == v) later ≡ true → test v ≡ true)
        → test v ≡ true
    go true same b e rest = subst (λ n. test n ≡ true) (eqb-true number v same) b.0
    go false same b e rest = rest b.1 e

pub range_of : (v : ℕ) → IsInRange power_levels v → (1 ≤ v) × (v ≤ 1000)
range_of v h = let b = both_of (nat_le 1 v) (nat_le v 1000) h in (leb-true 1 v b.0, leb-true v 1000 b.1)

-- what holds of each value in range
pub at_each : (test : ℕ → Bool) → all_below 1001 (λ v. not (power_levels.in_range v) || test v) ≡ true
    → (v : ℕ) → IsInRange power_levels v → test v ≡ true
at_each test all v r =
    implied (power_levels.in_range v) (test v)
    (all_below-holds 1001 (λ v. not (power_levels.in_range v) || test v) all v
    (lt_of_le_of_lt (range_of v r).1 (lit≤ tt))) r

-- ---- the floor

floor_in_range : (v : ℕ) → IsInRange power_levels v → power_levels.in_range (greatest_within v powers) ≡ true
floor_in_range = at_each (λ v. power_levels.in_range (greatest_within v powers)) refl

floor_is_power : (v : ℕ) → IsInRange power_levels v → is_power (greatest_within v powers) ≡ true
floor_is_power = at_each (λ v. is_power (greatest_within v powers)) refl

floor_at_most : (v : ℕ) → IsInRange power_levels v → nat_le (greatest_within v powers) v ≡ true
floor_at_most = at_each (λ v. nat_le (greatest_within v powers) v) refl

-- no power of two lies between
abbrev is_no_greater : ℕ → ℕ → Bool
is_no_greater v e = not (nat_le e v) || nat_le e (greatest_within v powers)

powers_no_greater : (v : ℕ) → IsInRange power_levels v → list_all (is_no_greater v) powers ≡ true
powers_no_greater = at_each (λ v. list_all (is_no_greater v) powers) refl

-- ---- the order

total : (a b : ℕ) → (nat_le a b ≡ true) ⊎ (nat_le b a ≡ true)
total a b = go (leb_tells a b)
  where
    go : ((nat_le a b ≡ true) × (a ≤ b)) ⊎ ((nat_le a b ≡ false) × (b < a)) → (nat_le a b ≡ true) ⊎ (nat_le b a ≡ true)
    go (inl t) = inl t.0
    go (inr t) = inr (le-leb b a (le_of_lt t.1))

strict : (a b : ℕ) → (nat_le a b && not (nat_le b a)) ≡ true → a < b
strict a b e = go (leb_tells b a) (both_of (nat_le a b) (not (nat_le b a)) e).1
  where
    go : ((nat_le b a ≡ true) × (b ≤ a)) ⊎ ((nat_le b a ≡ false) × (a < b)) → not (nat_le b a) ≡ true → a < b
    go (inl t) e = absurd (true≢false (sym e ∙ ap not t.0))
    go (inr t) e = t.1

pub power_in_order : (a b : ℕ) → IsInRange power_levels a → IsInRange power_levels b
    → is_le (nat_cmp a b) ≡ power_levels.at_most a b
power_in_order a b ra rb = go (leb_tells a b) (leb_tells b a)
  where
    go : ((nat_le a b ≡ true) × (a ≤ b)) ⊎ ((nat_le a b ≡ false) × (b < a))
        → ((nat_le b a ≡ true) × (b ≤ a)) ⊎ ((nat_le b a ≡ false) × (a < b))
        → is_le (nat_cmp a b) ≡ nat_le a b
    go (inr t) other = ap is_le (sym (nat_cmp_is a b Greater t.1)) ∙ sym t.0
    go (inl t) (inr other) = ap is_le (sym (nat_cmp_is a b Less other.1)) ∙ sym t.0
    go (inl t) (inl other) = ap is_le (sym (nat_cmp_is a b Equal (le_antisymm t.1 other.1))) ∙ sym t.0

-- ---- squares

squares_rise : (a b : ℕ) → a < b → a * a < b * b
squares_rise a b h = mul-lt a a b b h h

squares_below : (a b : ℕ) → a ≤ b → a * a ≤ b * b
squares_below a b h = le_trans (mul-le-mul_left a h) (mul-le-mul_right b h)

-- ---- the laws

pub power_lawful : IsLawful power_levels
power_lawful = record {
  ordered = record {
    reflexive = λ a r. le-leb a a (le_refl a);
    transitive = λ a b c ra rb rc ab bc. le-leb a c (le_trans (leb-true a b ab) (leb-true b c bc));
    antisymmetric = λ a b ra rb ab ba. le_antisymm (leb-true a b ab) (leb-true b a ba);
    total = λ a b ra rb. total a b;
  };
  floor_is_below = λ v r. (floor_in_range v r, floor_is_power v r, floor_at_most v r);
  floor_is_greatest = λ v e rv re one below.
      implied (nat_le e v) (nat_le e (greatest_within v powers))
      (at_one_of (is_no_greater v) powers e (powers_no_greater v rv) one) below;
  price_falls = λ v a b rv ra rb low high.
      squares_rise (v - b) (v - a) (lt_of_le_of_lt (sub-le-sub_left (strict a b low) v)
      (sub-suc-lt v a (lt_of_lt_of_le (strict a b low) (leb-true b v high))));
  price_of_itself = λ v r. ap (λ k. k * k) (sub_self v);
  price_is_bounded = λ v given rv rg below. squares_below (v - given) 1000 (le_trans (sub-le v given) (range_of v rv).1);
}
