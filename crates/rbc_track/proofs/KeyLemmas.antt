-- Where keys stand in a list that one is put behind.
use Rattle.std.proofs.Common.{◌≡◌, ℕ, ◌+◌, ◌≤◌, Bool, true, false, cond, not, ◌||◌, nat_lt, zero, suc, List, [], ◌∷◌, ◌++◌, length, Option, Some, None, position, is_some, option_map, refl, sym, ap, ◌∙◌, arith}
use Rattle.std.proofs.lemmas.Bool.Decides.{nat_tests}
use Rattle.std.specs.Cmp.{IsEquivalence}
use Rattle.std.specs.List.{AllByRecursion, IsDistinct, list_any, position_or_len}

-- the place of the first that passes
abbrev pub place : {K : Type 0} → (K → Bool) → List K → Option ℕ
place test [] = None
place test (x ∷ xs) = cond (test x) (Some 0) (option_map suc (place test xs))

one_more : (n : ℕ) → 1 + n ≡ suc n
one_more n = omega arith

both_more : (m n : ℕ) → nat_lt (suc m) (suc n) ≡ nat_lt m n
both_more m n = grind (arith, nat_tests)

first_within : (n : ℕ) → nat_lt 0 (suc n) ≡ true
first_within n = grind (arith, nat_tests)

suc_told : (b : Bool) (n : ℕ) → cond b (Some (suc n)) None ≡ option_map suc (cond b (Some n) None)
suc_told true n = refl
suc_told false n = refl

pub place-is : {K : Type 0} (test : K → Bool) (xs : List K) → position test xs ≡ place test xs
place-is test [] = refl
place-is test (x ∷ xs) = step (test x) (place-is test xs)
  where
    step : (b : Bool) → position test xs ≡ place test xs
        → cond (nat_lt (cond (not b) (1 + position_or_len test xs) 0) (length (x ∷ xs))) (Some (cond (not b) (1 + position_or_len test xs) 0)) None ≡ cond b (Some 0) (option_map suc (place test xs))
    step true rest = ap (λ b. cond b (Some 0) None) (first_within (length xs))
    step false rest =
        let before = position_or_len test xs in
        ap (λ n. cond (nat_lt n (suc (length xs))) (Some n) None) (one_more before)
        ∙ ap (λ b. cond b (Some (suc before)) None) (both_more before (length xs))
        ∙ suc_told (nat_lt before (length xs)) before ∙ ap (option_map suc) rest

pub any-is : {K : Type 0} (test : K → Bool) (xs : List K) → list_any test xs ≡ is_some (place test xs)
any-is test [] = refl
any-is test (x ∷ xs) = step (test x) (place test xs) (any-is test xs)
  where
    step : (b : Bool) (o : Option ℕ) → list_any test xs ≡ is_some o → (b || list_any test xs) ≡ is_some (cond b (Some 0) (option_map suc o))
    step true o e = refl
    step false None e = e
    step false (Some n) e = e

suc_told_else : (b : Bool) (n : ℕ) (o : Option ℕ) → cond b (Some (suc n)) (option_map suc o) ≡ option_map suc (cond b (Some n) o)
suc_told_else true n o = refl
suc_told_else false n o = refl

-- the first passes, or another does
none_first : (b : Bool) (o : Option ℕ) → cond b (Some 0) (option_map suc o) ≡ None → (b ≡ false) × (o ≡ None)
none_first true o h = cc
none_first false None h = (refl, refl)
none_first false (Some n) h = cc

module _ {K : Type 0} (eq : K → K → Bool) (laws : IsEquivalence eq) where
  -- a key that is like one that differs from a third differs from it too
  differs : (key q x : K) → eq q x ≡ true → eq key x ≡ false → eq key q ≡ false
  differs key q x like other = laws.symm key q ∙ laws.congr q x key like ∙ laws.symm x key ∙ other

  -- ---- a key put behind the others

  pub place-behind : (key q : K) (keys : List K) → place (eq key) keys ≡ None → place (eq q) (keys ++ key ∷ []) ≡ cond (eq key q) (Some (length keys)) (place (eq q) keys)
  place-behind key q [] none = ap (λ b. cond b (Some 0) None) (laws.symm q key)
  place-behind key q (x ∷ xs) none =
      let first = none_first (eq key x) (place (eq key) xs) none in
      step (eq q x) (eq key q) (λ like. differs key q x like first.0) (place-behind key q xs first.1)
    where
      step : (b c : Bool) → (b ≡ true → c ≡ false) → place (eq q) (xs ++ key ∷ []) ≡ cond c (Some (length xs)) (place (eq q) xs)
          → cond b (Some 0) (option_map suc (place (eq q) (xs ++ key ∷ []))) ≡ cond c (Some (suc (length xs))) (cond b (Some 0) (option_map suc (place (eq q) xs)))
      step true true other rest = let no = other refl in cc
      step true false other rest = refl
      step false c other rest = ap (option_map suc) rest ∙ sym (suc_told_else c (length xs) (place (eq q) xs))

  all_behind : (key x : K) (xs : List K) → eq x key ≡ false → AllByRecursion (λ y. eq x y ≡ false) xs → AllByRecursion (λ y. eq x y ≡ false) (xs ++ key ∷ [])
  all_behind key x [] other all = (other, tt)
  all_behind key x (y ∷ ys) other all = (all.0, all_behind key x ys other all.1)

  pub IsDistinct-behind : (key : K) (keys : List K) → IsDistinct eq keys → place (eq key) keys ≡ None → IsDistinct eq (keys ++ key ∷ [])
  unfolding IsDistinct
  IsDistinct-behind key [] distinct none = (tt, tt)
  IsDistinct-behind key (x ∷ xs) distinct none =
      let first = none_first (eq key x) (place (eq key) xs) none in
      (all_behind key x xs (laws.symm x key ∙ first.0) distinct.0, IsDistinct-behind key xs distinct.1 first.1)
