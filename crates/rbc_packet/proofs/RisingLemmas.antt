-- Steps that were read make a profile.
use Rattle.std.proofs.Common.{◌≡◌, ℕ, ◌+◌, ◌<◌, ◌≤◌, Bool, true, ◌==◌, List, [], ◌∷◌, ◌++◌, length, Ok, refl, arith, nat_le, nat_lt}
use Rattle.std.specs.List.{list_all}
use Rattle.std.proofs.lemmas.Bool.{le-leb, lt-ltb, leb-true, and_from}
use Rattle.rbc_model.specs.Levels.{Levels}
use Rattle.rbc_model.specs.Profiles.{starts_of, rises_above, rises_from_zero, are_inside, profile_of}
use Rattle.rbc_model.specs.declared.limits.TheConstants.{LONGEST_TRACK, MOST_STEPS}
use Rattle.rbc_model.proofs.CountingLemmas.{both_of}

-- Steps that rise from 0, the last of which starts at a metre, with values that the message can express.
pub record HaveRisen {V : Type 0} (levels : Levels V) (last : ℕ) (steps : List (ℕ × V)) : Type 0 where
  pub rising : rises_from_zero (starts_of steps) ≡ true
  pub before : list_all (λ start. nat_le start last) (starts_of steps) ≡ true
  pub expressible : list_all (λ s. levels.is_expressible s.1) steps ≡ true

pub first_risen : {V : Type 0} (levels : Levels V) (last : ℕ) (first : V) → levels.is_expressible first ≡ true → HaveRisen levels last ((0, first) ∷ [])
first_risen levels last first e = record { rising = refl; before = and_from _ _ (le-leb 0 last (omega arith)) refl; expressible = and_from _ _ e refl }

all-push : {X : Type 0} (test : X → Bool) (xs : List X) (x : X) → list_all test xs ≡ true → test x ≡ true → list_all test (xs ++ x ∷ []) ≡ true
all-push test [] x all here = and_from _ _ here refl
all-push test (y ∷ ys) x all here = let b = both_of (test y) (list_all test ys) all in and_from _ _ b.0 (all-push test ys x b.1 here)

above-push : {V : Type 0} (low last start : ℕ) (value : V) (steps : List (ℕ × V)) → rises_above low (starts_of steps) ≡ true → list_all (λ s. nat_le s last) (starts_of steps) ≡ true
    → low < start → last < start → rises_above low (starts_of (steps ++ (start, value) ∷ [])) ≡ true
above-push low last start value [] rising before above later = and_from _ _ (lt-ltb low start above) refl
above-push low last start value (s ∷ steps) rising before above later =
    let r = both_of (nat_lt low s.0) (rises_above s.0 (starts_of steps)) rising in
    let b = both_of (nat_le s.0 last) (list_all (λ start. nat_le start last) (starts_of steps)) before in
    let at : s.0 ≤ last = leb-true s.0 last b.0 in
    and_from _ _ r.0 (above-push s.0 last start value steps r.1 b.1 (omega arith) later)

zero-push : {V : Type 0} (last start : ℕ) (value : V) (steps : List (ℕ × V)) → rises_from_zero (starts_of steps) ≡ true → list_all (λ s. nat_le s last) (starts_of steps) ≡ true
    → last < start → rises_from_zero (starts_of (steps ++ (start, value) ∷ [])) ≡ true
zero-push last start value [] rising before later = absurd (cc)
zero-push last start value (s ∷ steps) rising before later =
    let r = both_of (s.0 == 0) (rises_above 0 (starts_of steps)) rising in
    let b = both_of (nat_le s.0 last) (list_all (λ start. nat_le start last) (starts_of steps)) before in
    and_from _ _ r.0 (above-push 0 last start value steps r.1 b.1 (omega arith) later)

all_wider : (low high : ℕ) (starts : List ℕ) → low ≤ high → list_all (λ start. nat_le start low) starts ≡ true → list_all (λ start. nat_le start high) starts ≡ true
all_wider low high [] h all = refl
all_wider low high (start ∷ starts) h all =
    let b = both_of (nat_le start low) (list_all (λ start. nat_le start low) starts) all in
    let at : start ≤ low = leb-true start low b.0 in
    and_from _ _ (le-leb start high (omega arith)) (all_wider low high starts h b.1)

starts-push : {V : Type 0} (test : ℕ → Bool) (steps : List (ℕ × V)) (start : ℕ) (value : V) → list_all test (starts_of steps) ≡ true → test start ≡ true → list_all test (starts_of (steps ++ (start, value) ∷ [])) ≡ true
starts-push test [] start value all here = and_from _ _ here refl
starts-push test (s ∷ steps) start value all here = let b = both_of (test s.0) (list_all test (starts_of steps)) all in and_from _ _ b.0 (starts-push test steps start value b.1 here)

-- one step more
pub step_risen : {V : Type 0} (levels : Levels V) (last start : ℕ) (value : V) (steps : List (ℕ × V)) → HaveRisen levels last steps → last < start → levels.is_expressible value ≡ true
    → HaveRisen levels start (steps ++ (start, value) ∷ [])
step_risen levels last start value steps risen later e =
    record {
      rising = zero-push last start value steps risen.rising risen.before later;
      before = starts-push (λ s. nat_le s start) steps start value (all_wider last start (starts_of steps) (omega arith) risen.before) (le-leb start start (omega arith));
      expressible = all-push (λ s. levels.is_expressible s.1) steps (start, value) risen.expressible e;
    }

all_below_end : (last end : ℕ) (starts : List ℕ) → last < end → list_all (λ start. nat_le start last) starts ≡ true → list_all (λ start. nat_lt start end) starts ≡ true
all_below_end last end [] h all = refl
all_below_end last end (start ∷ starts) h all =
    let b = both_of (nat_le start last) (list_all (λ start. nat_le start last) starts) all in
    let at : start ≤ last = leb-true start last b.0 in
    and_from _ _ (lt-ltb start end (omega arith)) (all_below_end last end starts h b.1)

-- the profile up to an end behind the last step
pub profile_made : {V : Type 0} (levels : Levels V) (last end : ℕ) (steps : List (ℕ × V)) → HaveRisen levels last steps → last < end → end ≤ LONGEST_TRACK → length steps ≤ MOST_STEPS
    → profile_of levels end steps ≡ Ok (record { steps = steps; end = end })
profile_made levels last end [] risen before near few = absurd (let e = risen.rising in cc)
profile_made levels last end (s ∷ steps) risen before near few =
    let inside : are_inside end (starts_of (s ∷ steps)) ≡ true = and_from _ _ (le-leb end LONGEST_TRACK near) (all_below_end last end (starts_of (s ∷ steps)) before risen.before) in
    let short : nat_le (length (s ∷ steps)) MOST_STEPS ≡ true = le-leb (length (s ∷ steps)) MOST_STEPS few in
    rw (risen.rising, inside, short, risen.expressible) refl
