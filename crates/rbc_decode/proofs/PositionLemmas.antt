-- The first byte that passes a test, as a place or as how many stand before it.
use Rattle.std.proofs.Common.{◌≡◌, ℕ, Bool, true, false, cond, not, List, length, Option, Some, None, MatchOption, refl, arith, nat_lt, ◌≤◌}
use Rattle.std.specs.List.{position, position_or_len}
use Rattle.std.proofs.lemmas.Bool.{ltb-false}
use Rattle.std.proofs.lemmas.List.Sums.{prefix_len-le-length}

pub position-cases : {X : Type 0} (p : X → Bool) (xs : List X) (o : Option ℕ) → o ≡ position p xs → MatchOption o (length xs ≡ position_or_len p xs) (λ i. i ≡ position_or_len p xs)
position-cases p xs o e = by_test (nat_lt (position_or_len p xs) (length xs)) refl o e
  where
    by_test : (t : Bool) → nat_lt (position_or_len p xs) (length xs) ≡ t → (o : Option ℕ) → o ≡ cond t (Some (position_or_len p xs)) None → MatchOption o (length xs ≡ position_or_len p xs) (λ i. i ≡ position_or_len p xs)
    by_test true h None e = cc
    by_test true h (Some i) e = cc
    by_test false h None e = let far = ltb-false (position_or_len p xs) (length xs) h in let most = prefix_len-le-length (λ x. not (p x)) xs in omega arith
    by_test false h (Some i) e = cc

-- it does not stand behind the end
pub position-bound : {X : Type 0} (p : X → Bool) (xs : List X) (i : ℕ) → Some i ≡ position p xs → i ≤ length xs
position-bound p xs i e = let place : i ≡ position_or_len p xs = position-cases p xs (Some i) e in let most = prefix_len-le-length (λ x. not (p x)) xs in omega (arith, place)
