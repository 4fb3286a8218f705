-- Tests and numbers, options and lists.
use Rattle.std.proofs.Common.{◌≡◌, ℕ, ◌<◌, ◌≤◌, Bool, true, false, ◌&&◌, cond, if◌then◌else◌, List, [], ◌∷◌, Option, Some, refl, subst, arith, nat_lt, nat_le, ◌⊎◌, inl, inr, suc, ◌+◌, not, ◌||◌, take, ap, zero}
use Rattle.std.specs.Prelude.{◌==◌, find, slice_get}
use Rattle.std.specs.List.{AllByRecursion, list_all}
use Rattle.std.specs.Cmp.{first_so, second_so}
use Rattle.std.proofs.lemmas.Bool.{lt-ltb, le-ltb, le-leb}
use Rattle.std.proofs.lemmas.Option.{none-some}

pub same_number : (n : ℕ) → (n == n) ≡ true
same_number n = grind arith

pub flipped : (a b : ℕ) → (a == b) ≡ false → (b == a) ≡ false
flipped a b h = grind arith

pub number_turned : (a b : ℕ) → (a == b) ≡ (b == a)
number_turned a b = grind arith

pub same_or_later : (i k : ℕ) → i ≤ k → (k ≡ i) ⊎ (i < k)
same_or_later i k h = grind arith

pub next_or_later : (i k : ℕ) → i < k → (k ≡ i + 1) ⊎ (i + 1 < k)
next_or_later i k h = grind arith

pub next_or_at_most : (i j : ℕ) → i ≤ suc j → (i ≡ suc j) ⊎ (i ≤ j)
next_or_at_most i j h = grind arith

pub or_second : (a b : Bool) → a ≡ false → (a || b) ≡ b
or_second a b h = rw h refl

pub if_true : {X : Type 0} (b : Bool) (x y : X) → b ≡ true → (if b then x else y) ≡ x
if_true b x y h = rw h refl

pub if_false : {X : Type 0} (b : Bool) (x y : X) → b ≡ false → (if b then x else y) ≡ y
if_false b x y h = rw h refl

pub if_in : {X : Type 0} (x y : X) (k n : ℕ) → k < n → cond (nat_lt k n) x y ≡ x
if_in x y k n h = rw (lt-ltb k n h) refl

pub if_past : {X : Type 0} (x y : X) (k n : ℕ) → n ≤ k → cond (nat_lt k n) x y ≡ y
if_past x y k n h = rw (le-ltb k n h) refl

pub is_between : (a b i : ℕ) → a ≤ i → i < b → (nat_le a i && nat_lt i b) ≡ true
is_between a b i low high = rw (le-leb a i low, lt-ltb i b high) refl

-- what is refused, or not passed by all, is so after each of two parts
pub or_not-or_not : (refused first rest : Bool) → ((refused || not first) || not rest) ≡ (refused || not (first && rest))
or_not-or_not true first rest = refl
or_not-or_not false true rest = refl
or_not-or_not false false rest = refl

pub take_one_more : {X : Type 0} (x : X) (k : ℕ) (xs : List X) → take (1 + k) (x ∷ xs) ≡ x ∷ take k xs
take_one_more x k xs = ap (λ j. take j (x ∷ xs)) (let e : 1 + k ≡ suc k = omega arith in e)

-- what stands at a place of the first elements stands there in all
pub slice_get-from_take : {X : Type 0} (n : ℕ) (xs : List X) (place : ℕ) (x : X) → slice_get (take n xs) place ≡ Some x → slice_get xs place ≡ Some x
slice_get-from_take zero xs place x is = absurd (none-some x is)
slice_get-from_take (suc n) [] place x is = absurd (none-some x is)
slice_get-from_take (suc n) (y ∷ ys) zero x is = is
slice_get-from_take (suc n) (y ∷ ys) (suc place) x is = slice_get-from_take n ys place x is

found_cases : {X : Type 0} (b : Bool) (y x : X) (rest : Option X) → cond b (Some y) rest ≡ Some x → ((b ≡ true) × (y ≡ x)) ⊎ (rest ≡ Some x)
found_cases true y x rest h = inl (refl, cc)
found_cases false y x rest h = inr h

-- what a search finds passes its test
pub find-passes : {X : Type 0} (test : X → Bool) (xs : List X) (x : X) → find test xs ≡ Some x → test x ≡ true
find-passes test [] x h = cc
find-passes test (y ∷ xs) x h =
    elim (found_cases (test y) y x (find test xs) h) [ inl e ↦ subst (λ z. test z ≡ true) e.1 e.0 | inr e ↦ find-passes test xs x e ]

-- what all pass, each passes
pub each_of : {X : Type 0} (test : X → Bool) (xs : List X) → list_all test xs ≡ true → AllByRecursion (λ x. test x ≡ true) xs
each_of test [] h = tt
each_of test (x ∷ xs) h = (first_so (test x) (list_all test xs) h, each_of test xs (second_so (test x) (list_all test xs) h))
