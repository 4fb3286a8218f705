-- The first place that passes a test: by parts of a way, and by parts of the test.
use Rattle.std.specs.List.{range_with_len, list_any, find}
use Rattle.std.proofs.Common.{◌≡◌, ℕ, ◌-◌, ◌<◌, ◌≤◌, min, max, Bool, true, false, ◌||◌, List, [], ◌∷◌, Option, Some, None, refl, sym, subst, ◌∙◌, arith, ◌⊎◌, inl, inr, nat_lt}
use Rattle.std.specs.Prelude.{not, unwrap_or, fold, if◌then◌else◌}
use Rattle.std.specs.Option.{option_or}
use Rattle.std.proofs.lemmas.Bool.{ltb-true, lt-ltb, or_from, or_left, or_right, both_ways}
use Rattle.rbc_model.proofs.ScanLemmas.{first_blocked, le_or_lt, find-numbers, find-numbers_none}
use Rattle.rbc_reach_laws.specs.Nearest.{nearer}
use Rattle.std.proofs.Math.Bool.{or-false}

-- i is the first number from low up to high that passes
pub record IsFirstFrom (test : ℕ → Bool) (a b i : ℕ) : Type 0 where
  pub low : a ≤ i
  pub high : i < b
  pub passes : test i ≡ true
  pub before : (j : ℕ) → a ≤ j → j < i → test j ≡ false

-- the first one, if there is one
pub record IsFound (test : ℕ → Bool) (low high : ℕ) (o : Option ℕ) : Type 0 where
  pub some : (i : ℕ) → o ≡ Some i → IsFirstFrom test low high i
  pub none : o ≡ None → (j : ℕ) → low ≤ j → j < high → test j ≡ false

-- the first one, or else the end
pub record IsNearest (test : ℕ → Bool) (a b i : ℕ) : Type 0 where
  pub le : i ≤ b
  pub low : i < b → a ≤ i
  pub passes : i < b → test i ≡ true
  pub before : (j : ℕ) → a ≤ j → j < i → test j ≡ false

-- there is one such number
nearer_one : (test : ℕ → Bool) (low end a b : ℕ) → IsNearest test low end a → IsNearest test low end b → a < b → ⊥
nearer_one test low end a b x y h =
    let z = y.le in
    both_ways (test a) (y.before a (x.low (omega arith)) h) (x.passes (omega arith))

pub IsNearest-unique : (test : ℕ → Bool) (low end a b : ℕ) → IsNearest test low end a → IsNearest test low end b → a ≡ b
IsNearest-unique test low end a b x y = by_order (le_or_lt a b) (le_or_lt b a)
  where
    by_order : (a ≤ b) ⊎ (b < a) → (b ≤ a) ⊎ (a < b) → a ≡ b
    by_order (inr h) k = absurd (nearer_one test low end b a y x h)
    by_order (inl h) (inr k) = absurd (nearer_one test low end a b x y k)
    by_order (inl h) (inl k) = omega arith

-- ---- a test that passes where another one does

pub IsFirstFrom-same : (test other : ℕ → Bool) (low high i : ℕ) → ((j : ℕ) → low ≤ j → j < high → test j ≡ other j) → IsFirstFrom test low high i → IsFirstFrom other low high i
IsFirstFrom-same test other low high i same f =
    let l = f.low in
    let h = f.high in
    record {
      low = l;
      high = h;
      passes = sym (same i l h) ∙ f.passes;
      before = λ j a b. sym (same j a (omega arith)) ∙ f.before j a b;
    }

pub IsFound-same : (test other : ℕ → Bool) (low high : ℕ) (o : Option ℕ) → ((j : ℕ) → low ≤ j → j < high → test j ≡ other j) → IsFound test low high o → IsFound other low high o
IsFound-same test other low high o same f = record {
  some = λ i e. IsFirstFrom-same test other low high i same (f.some i e);
  none = λ e j a b. sym (same j a b) ∙ f.none e j a b;
}

pub IsNearest-same : (test other : ℕ → Bool) (low end i : ℕ) → ((j : ℕ) → low ≤ j → j < end → test j ≡ other j) → IsNearest test low end i → IsNearest other low end i
IsNearest-same test other low end i same f =
    let l = f.le in
    record {
      le = l;
      low = f.low;
      passes = λ h. sym (same i (f.low h) h) ∙ f.passes h;
      before = λ j a b. sym (same j a (omega arith)) ∙ f.before j a b;
    }

-- ---- one stretch after the other

pub IsFound-then : (test : ℕ → Bool) (low mid next high : ℕ) (a b : Option ℕ) → mid ≤ high → next ≡ max low mid → IsFound test low mid a → IsFound test next high b → IsFound test low high (option_or a b)
IsFound-then test low mid next high None b far e f g = record {
  some = λ i h.
      let x = g.some i h in
      let l = x.low in
      record {
        low = omega arith;
        high = x.high;
        passes = x.passes;
        before = λ j s t. elim (le_or_lt mid j) [ inl past ↦ x.before j (omega arith) t | inr here ↦ f.none refl j s here ];
      };
  none = λ h j s t. elim (le_or_lt mid j) [ inl past ↦ g.none h j (omega arith) t | inr here ↦ f.none refl j s here ];
}
IsFound-then test low mid next high (Some x) b far e f g = record {
  some = λ i h.
      let y = f.some i h in
      let t = y.high in
      record { low = y.low; high = omega arith; passes = y.passes; before = y.before };
  none = λ h j s t. absurd (let bad : ⊥ = cc in bad);
}

-- where the first stretch has one, that is it; otherwise the rest goes on
pub IsNearest-then : (test : ℕ → Bool) (low mid next end a b : ℕ) → mid ≤ end → next ≡ max low mid → IsNearest test low mid a → IsNearest test next end b → IsNearest test low end (if nat_lt a mid then a else b)
IsNearest-then test low mid next end a b far e f g = by_test (nat_lt a mid) refl
  where
    by_test : (t : Bool) → nat_lt a mid ≡ t → IsNearest test low end (if t then a else b)
    by_test true h =
        let s = ltb-true a mid h in
        record { le = omega arith; low = λ k. f.low s; passes = λ k. f.passes s; before = f.before }
    by_test false h =
        let s : mid ≤ a = past_end (le_or_lt mid a) h in
        record {
          le = g.le;
          low = λ k. let l = g.low k in omega arith;
          passes = g.passes;
          before = λ j l u. elim (le_or_lt mid j) [ inl past ↦ g.before j (omega arith) u | inr here ↦ f.before j l (omega arith) ];
        }
      where
        past_end : (mid ≤ a) ⊎ (a < mid) → nat_lt a mid ≡ false → mid ≤ a
        past_end (inl k) h = k
        past_end (inr k) h = absurd (both_ways (nat_lt a mid) h (lt-ltb a mid k))

-- ---- one test beside the other

pub IsNearest-nothing : (low end : ℕ) → IsNearest (λ i. false) low end end
IsNearest-nothing low end = record { le = omega arith; low = λ h. absurd (omega arith); passes = λ h. absurd (omega arith); before = λ j l u. refl }

pub IsNearest-nearer : (test other : ℕ → Bool) (low end high i : ℕ) (o : Option ℕ) → end ≤ high → IsNearest test low end i → IsFound other low high o → IsNearest (λ j. test j || other j) low end (nearer i o)
IsNearest-nearer test other low end high i None far f g =
    let le = f.le in
    record {
      le = f.le;
      low = f.low;
      passes = λ h. or_left (test i) (other i) (f.passes h);
      before = λ j l u. or_from (test j) (other j) (f.before j l u) (g.none refl j l (omega arith));
    }
IsNearest-nearer test other low end high i (Some x) far f g = by_order (le_or_lt i x)
  where
    by_order : (i ≤ x) ⊎ (x < i) → IsNearest (λ j. test j || other j) low end (min i x)
    by_order (inl h) =
        let le = f.le in
        let y = g.some x refl in
        subst (λ z. IsNearest (λ j. test j || other j) low end z) (let e : i ≡ min i x = omega arith in e)
        (record {
          le = f.le;
          low = f.low;
          passes = λ h. or_left (test i) (other i) (f.passes h);
          before = λ j l u. or_from (test j) (other j) (f.before j l u) (y.before j l (omega arith));
        })
    by_order (inr h) =
        let le = f.le in
        let y = g.some x refl in
        subst (λ z. IsNearest (λ j. test j || other j) low end z) (let e : x ≡ min i x = omega arith in e)
        (record {
          le = omega arith;
          low = λ k. y.low;
          passes = λ k. or_right (test x) (other x) y.passes;
          before = λ j l u. or_from (test j) (other j) (f.before j l (omega arith)) (y.before j l u);
        })

-- two tests of each of some things
pub IsNearest-each : {X : Type 0} (one two : X → ℕ → Bool) (first second : X → Option ℕ) (low end high : ℕ) (xs : List X) (test : ℕ → Bool) (i : ℕ) → end ≤ high
    → ((x : X) → IsFound (one x) low high (first x)) → ((x : X) → IsFound (two x) low high (second x))
    → IsNearest test low end i → IsNearest (λ j. test j || list_any (λ x. one x j || two x j) xs) low end (fold (λ place x. nearer (nearer place (first x)) (second x)) i xs)
IsNearest-each one two first second low end high [] test i far f g n = IsNearest-same test (λ j. test j || false) low end i (λ j l u. sym (or-false (test j))) n
IsNearest-each one two first second low end high (x ∷ xs) test i far f g n =
    let here = IsNearest-nearer (λ j. test j || one x j) (two x) low end high (nearer i (first x)) (second x) far (IsNearest-nearer test (one x) low end high i (first x) far n (f x)) (g x) in
    IsNearest-same (λ j. ((test j || one x j) || two x j) || list_any (λ y. one y j || two y j) xs) (λ j. test j || ((one x j || two x j) || list_any (λ y. one y j || two y j) xs)) low end
    (fold (λ place y. nearer (nearer place (first y)) (second y)) (nearer (nearer i (first x)) (second x)) xs)
    (λ j l u. four (test j) (one x j) (two x j) (list_any (λ y. one y j || two y j) xs))
    (IsNearest-each one two first second low end high xs (λ j. (test j || one x j) || two x j) (nearer (nearer i (first x)) (second x)) far f g here)
  where
    four : (p q r s : Bool) → (((p || q) || r) || s) ≡ (p || ((q || r) || s))
    four true q r s = refl
    four false q r s = refl

-- ---- the search of the definitions finds it

pub IsNearest-first_blocked : (clear : ℕ → Bool) (low end : ℕ) → IsNearest (λ i. not (clear i)) low end (first_blocked clear low end)
IsNearest-first_blocked clear low end = by_find (find (λ j. not (clear j)) (range_with_len low (end - low))) refl
  where
    by_find : (o : Option ℕ) → find (λ j. not (clear j)) (range_with_len low (end - low)) ≡ o → IsNearest (λ i. not (clear i)) low end (unwrap_or o end)
    by_find None e = record {
      le = omega arith;
      low = λ h. absurd (omega arith);
      passes = λ h. absurd (omega arith);
      before = λ j l u. find-numbers_none (λ j. not (clear j)) low (end - low) e j l (omega arith);
    }
    by_find (Some x) e =
        let f = find-numbers (λ j. not (clear j)) low (end - low) x e in
        let l = f.low in
        let h = f.high in
        record { le = omega arith; low = λ k. l; passes = λ k. f.passes; before = f.before }
