-- What holds of each byte of a text's front and of its back, where the two meet, holds of each byte.
use Rattle.std.proofs.Common.{◌≡◌, ℕ, ◌+◌, ◌-◌, ◌≤◌, Bool, true, false, ◌&&◌, List, take, drop, refl, sym, ap, subst, ◌∙◌, arith}
use Rattle.std.specs.List.{list_all}
use Rattle.std.proofs.lemmas.List.{take-append-drop}
use Rattle.std.proofs.lemmas.List.Folds.{list_all-append}
use Rattle.std.proofs.Math.Seq.{take-add}

in_both : (a b c : Bool) → ((a && b) && (b && c)) ≡ (a && (b && c))
in_both true true c = refl
in_both true false c = refl
in_both false b c = refl

all_cut : (p : ℕ → Bool) (xs : List ℕ) (n : ℕ) → list_all p xs ≡ (list_all p (take n xs) && list_all p (drop n xs))
all_cut p xs n = ap (list_all p) (sym (take-append-drop n xs)) ∙ list_all-append p (take n xs) (drop n xs)

all_front : (p : ℕ → Bool) (xs : List ℕ) (n m : ℕ) → list_all p (take (n + m) xs) ≡ (list_all p (take n xs) && list_all p (take m (drop n xs)))
all_front p xs n m = ap (list_all p) (take-add n m xs) ∙ list_all-append p (take n xs) (take m (drop n xs))

all_by_more : (p : ℕ → Bool) (xs : List ℕ) (n m : ℕ) → (list_all p (take (n + m) xs) && list_all p (drop n xs)) ≡ list_all p xs
all_by_more p xs n m =
    let before = list_all p (take n xs) in
    let between = list_all p (take m (drop n xs)) in
    ap (λ b. b && list_all p (drop n xs)) (all_front p xs n m)
    ∙ ap (λ b. (before && between) && b) (all_cut p (drop n xs) m)
    ∙ in_both before between (list_all p (drop m (drop n xs)))
    ∙ ap (λ b. before && b) (sym (all_cut p (drop n xs) m))
    ∙ sym (all_cut p xs n)

pub all_by_ends : (p : ℕ → Bool) (xs : List ℕ) (back front : ℕ) → back ≤ front → (list_all p (take front xs) && list_all p (drop back xs)) ≡ list_all p xs
all_by_ends p xs back front meet =
    let e : back + (front - back) ≡ front = omega arith in
    subst (λ n. (list_all p (take n xs) && list_all p (drop back xs)) ≡ list_all p xs) e (all_by_more p xs back (front - back))
