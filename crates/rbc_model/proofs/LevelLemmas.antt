-- Speeds and gradients obey the laws of levels.
use Rattle.std.proofs.Common.{◌≡◌, ℕ, zero, suc, ◌+◌, ◌-◌, ◌*◌, ◌/◌, ◌%◌, ◌<◌, ◌≤◌, Bool, true, false, not, ◌&&◌, ◌⊎◌, inl, inr, ℤ, pos, negsuc, ◌-ℤ◌, nat_abs, refl, arith, nat_le, int_le, ◌==◌, sym, ap, true≢false, cond, ltb}
use Rattle.std.proofs.Math.IntN.{sub_ℕ}
use Rattle.std.proofs.lemmas.Bool.{ltb-true, ltb-false, leb-true, le-leb, eqb-true, eq-eqb}
use Rattle.std.proofs.lemmas.Bool.Decides.{leb_tells}
use Rattle.std.proofs.Math.Nat.{mul-mod_left}
use Rattle.rbc_model.specs.Levels.{speed_levels, grade_levels, IsLawful, IsInRange}
use Rattle.rbc_model.proofs.CountingLemmas.{both_of}
use Rattle.rbc_model.proofs.ScanLemmas.{le_or_lt}
use Rattle.std.specs.Cmp.Derive.{both_true}

-- ---- tests of order

of_not : (a : Bool) → not a ≡ true → a ≡ true → ⊥
of_not true e f = true≢false (sym e)
of_not false e f = true≢false (sym f)

pub one_way : (a b : ℕ) → (a ≤ b) ⊎ (b ≤ a)
one_way a b = grind arith

tests_total : (a b : ℕ) → (nat_le a b ≡ true) ⊎ (nat_le b a ≡ true)
tests_total a b = go (one_way a b)
  where
    go : (a ≤ b) ⊎ (b ≤ a) → (nat_le a b ≡ true) ⊎ (nat_le b a ≡ true)
    go (inl h) = inl (le-leb a b h)
    go (inr h) = inr (le-leb b a h)

strict : (a b : ℕ) → (nat_le a b && not (nat_le b a)) ≡ true → a < b
strict a b e = go (leb_tells b a)
  where
    go : ((nat_le b a ≡ true) × (b ≤ a)) ⊎ ((nat_le b a ≡ false) × (a < b)) → a < b
    go (inl t) = absurd (of_not (nat_le b a) (both_of (nat_le a b) (not (nat_le b a)) e).1 t.0)
    go (inr t) = t.1

-- ---- speeds

range_of : (v : ℕ) → IsInRange speed_levels v → (5 ≤ v) × (v ≤ 600)
range_of v h = let b = both_of (nat_le 5 v) (nat_le v 600) h in (leb-true 5 v b.0, leb-true v 600 b.1)

floor_test : (v : ℕ) → (v / 5 * 5 % 5 == 0) ≡ true
floor_test v = eq-eqb (v / 5 * 5 % 5) 0 (mul-mod_left (v / 5) 5)

floor_below : (v : ℕ) → v / 5 * 5 ≤ v
floor_below v = omega arith

floor_from_five : (v : ℕ) → 5 ≤ v → 5 ≤ v / 5 * 5
floor_from_five v h = omega arith

floor_greatest : (v e : ℕ) → e % 5 ≡ 0 → e ≤ v → e ≤ v / 5 * 5
floor_greatest v e whole below = omega arith

pub speed_lawful : IsLawful speed_levels
speed_lawful = record {
  ordered = record {
    reflexive = λ a r. le-leb a a (omega arith);
    transitive = λ a b c ra rb rc ab bc. le-leb a c (omega (arith, leb-true a b ab, leb-true b c bc));
    antisymmetric = λ a b ra rb ab ba. omega (arith, leb-true a b ab, leb-true b a ba);
    total = λ a b ra rb. tests_total a b;
  };
  floor_is_below = λ v r.
      let low = range_of v r in
      let below = floor_below v in
      (both_true (le-leb 5 (v / 5 * 5) (floor_from_five v low.0)) (le-leb (v / 5 * 5) 600 (omega (arith, low.1, below))), floor_test v, le-leb (v / 5 * 5) v below);
  floor_is_greatest = λ v e rv re whole below. le-leb e (v / 5 * 5) (floor_greatest v e (eqb-true (e % 5) 0 whole) (leb-true e v below));
  price_falls = λ v a b rv ra rb low high. omega (arith, strict a b low, leb-true b v high);
  price_of_itself = λ v r. omega arith;
  price_is_bounded = λ v given rv rg below. omega (arith, (range_of v rv).1);
}

-- ---- gradients: how far above 0, and how far below

pub above : ℤ → ℕ
above (pos n) = n
above (negsuc n) = 0

pub below : ℤ → ℕ
below (pos n) = 0
below (negsuc n) = suc n

-- the order and the difference, as sums of natural numbers
order_of : (a b : ℤ) → int_le a b ≡ true → above a + below b ≤ above b + below a
unfolding above below
order_of (pos a) (pos b) e = omega (arith, leb-true a b e)
order_of (pos a) (negsuc b) e = absurd (true≢false (sym e))
order_of (negsuc a) (pos b) e = omega arith
order_of (negsuc a) (negsuc b) e = omega (arith, leb-true b a e)

to_order : (a b : ℤ) → above a + below b ≤ above b + below a → int_le a b ≡ true
unfolding above below
to_order (pos a) (pos b) e = le-leb a b (omega arith)
to_order (pos a) (negsuc b) e = absurd (omega arith)
to_order (negsuc a) (pos b) e = refl
to_order (negsuc a) (negsuc b) e = le-leb b a (omega arith)

one_place : (a b : ℤ) → above a + below b ≡ above b + below a → a ≡ b
unfolding above below
one_place (pos a) (pos b) e = ap pos (omega arith)
one_place (pos a) (negsuc b) e = absurd (omega arith)
one_place (negsuc a) (pos b) e = absurd (omega arith)
one_place (negsuc a) (negsuc b) e = ap negsuc (omega arith)

sub_size : (a b : ℕ) → nat_abs (sub_ℕ a b) ≡ (a - b) + (b - a)
sub_size a b = go (ltb a b) refl
  where
    go : (t : Bool) → ltb a b ≡ t → nat_abs (cond t (negsuc (b - suc a)) (pos (a - b))) ≡ (a - b) + (b - a)
    go true e = omega (arith, ltb-true a b e)
    go false e = omega (arith, ltb-false a b e)

pub price_of : (v g : ℤ) → int_le g v ≡ true → nat_abs (v -ℤ g) + above g + below v ≡ above v + below g
unfolding above below
price_of (pos a) (pos zero) e = omega arith
price_of (pos a) (pos (suc b)) e = omega (arith, sub_size a (suc b), leb-true (suc b) a e)
price_of (pos a) (negsuc b) e = omega arith
price_of (negsuc a) (pos b) e = absurd (true≢false (sym e))
price_of (negsuc a) (negsuc b) e = omega (arith, sub_size (suc b) (suc a), leb-true a b e)

pub grade_range : (v : ℤ) → IsInRange grade_levels v → (above v ≤ 254) × (below v ≤ 254)
unfolding above below
grade_range (pos n) h = (leb-true n 254 (both_of (int_le (negsuc 253) (pos n)) (int_le (pos n) (pos 254)) h).1, omega arith)
grade_range (negsuc n) h = (omega arith, omega (arith, leb-true n 253 (both_of (int_le (negsuc 253) (negsuc n)) (int_le (negsuc n) (pos 254)) h).0))

one_way_by : (a b : ℤ) → (int_le a b ≡ true) ⊎ (int_le b a ≡ true)
one_way_by a b = go (one_way (above a + below b) (above b + below a))
  where
    go : (above a + below b ≤ above b + below a) ⊎ (above b + below a ≤ above a + below b) → (int_le a b ≡ true) ⊎ (int_le b a ≡ true)
    go (inl h) = inl (to_order a b h)
    go (inr h) = inr (to_order b a h)

strictly : (a b : ℤ) → (int_le a b && not (int_le b a)) ≡ true → above a + below b < above b + below a
strictly a b e = go (le_or_lt (above b + below a) (above a + below b))
  where
    go : (above b + below a ≤ above a + below b) ⊎ (above a + below b < above b + below a) → above a + below b < above b + below a
    go (inl h) = absurd (of_not (int_le b a) (both_of (int_le a b) (not (int_le b a)) e).1 (to_order b a h))
    go (inr h) = h

pub grade_lawful : IsLawful grade_levels
grade_lawful = record {
  ordered = record {
    reflexive = λ a r. to_order a a (omega arith);
    transitive = λ a b c ra rb rc ab bc. to_order a c (omega (arith, order_of a b ab, order_of b c bc));
    antisymmetric = λ a b ra rb ab ba. one_place a b (omega (arith, order_of a b ab, order_of b a ba));
    total = λ a b ra rb. one_way_by a b;
  };
  floor_is_below = λ v r. (r, refl, to_order v v (omega arith));
  floor_is_greatest = λ v e rv re whole below. below;
  price_falls = λ v a b rv ra rb low high. omega (arith, strictly a b low, order_of b v high, price_of v b high, price_of v a (to_order a v (omega (arith, strictly a b low, order_of b v high))));
  price_of_itself = λ v r. omega (arith, price_of v v (to_order v v (omega arith)));
  price_is_bounded = λ v given rv rg below. omega (arith, price_of v given below, grade_range v rv, grade_range given rg);
}
