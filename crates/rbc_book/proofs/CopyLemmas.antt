-- Entries copied one after the other.
use Rattle.std.proofs.Common.{◌≡◌, ℕ, Bool, true, false, cond, List, [], ◌∷◌, ◌++◌, subst, sym, ap, refl, ◌∙◌, nat_eq, arith}
use Rattle.std.specs.List.{AllByRecursion, IsDistinct}
use Rattle.std.specs.Map.{keys_of}
use Rattle.indexmap.specs.IndexMap.{insert_entry}

turned : (a b : ℕ) → nat_eq a b ≡ false → nat_eq b a ≡ false
turned a b h = grind arith

module _ {X : Type 0} where
  key_there : (P : ℕ → Type 0) (done rest : List (ℕ × X)) (k : ℕ) (v : X) → AllByRecursion P (keys_of (done ++ (k, v) ∷ rest)) → P k
  key_there P [] rest k v all = all.0
  key_there P (e ∷ done) rest k v all = key_there P done rest k v all.1

  behind : (here : Bool) (e : ℕ × X) (v : X) (done more rest all : List (ℕ × X)) → here ≡ false → more ++ rest ≡ all → cond here ((e.0, v) ∷ done) (e ∷ more) ++ rest ≡ e ∷ all
  behind true e v done more rest all h s = cc
  behind false e v done more rest all h s = ap (λ l. e ∷ l) s

  copied : (done rest : List (ℕ × X)) (k : ℕ) (v : X) → IsDistinct nat_eq (keys_of (done ++ (k, v) ∷ rest)) → insert_entry nat_eq done k v ++ rest ≡ done ++ (k, v) ∷ rest
  unfolding IsDistinct
  copied [] rest k v distinct = refl
  copied (e ∷ done) rest k v distinct =
      behind (nat_eq k e.0) e v done (insert_entry nat_eq done k v) rest (done ++ (k, v) ∷ rest)
      (turned e.0 k (key_there (λ y. nat_eq e.0 y ≡ false) done rest k v distinct.0)) (copied done rest k v distinct.1)

  -- the entry that comes next goes behind those that are copied
  pub copied_more : (done rest es : List (ℕ × X)) (k : ℕ) (v : X) → IsDistinct nat_eq (keys_of es) → es ≡ done ++ (k, v) ∷ rest → insert_entry nat_eq done k v ++ rest ≡ es
  copied_more done rest es k v distinct e = copied done rest k v (subst (λ l. IsDistinct nat_eq (keys_of l)) e distinct) ∙ sym e
