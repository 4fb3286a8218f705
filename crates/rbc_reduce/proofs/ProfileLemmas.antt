-- Steps that fit make a profile.
use Rattle.std.proofs.Common.{◌≡◌, refl, ap, ◌∙◌, arith, ℕ, ◌≤◌, Bool, true, ◌&&◌, List, [], ◌∷◌, None, Result, Ok, length, nat_le, nat_lt}
use Rattle.std.specs.List.{list_all}
use Rattle.std.proofs.lemmas.Bool.{le-leb, and_from}
use Rattle.rbc_model.specs.declared.functions.ProfileFault.{ProfileFault}
use Rattle.rbc_model.specs.declared.limits.TheConstants.{LONGEST_TRACK, MOST_STEPS}
use Rattle.rbc_model.specs.Levels.{Levels}
use Rattle.rbc_model.specs.Profiles.{IsProfile, StepFunction, are_inside, profile_fault, profile_of, starts_of}
use Rattle.rbc_model.proofs.CountingLemmas.{both_of}

all_second : {A : Type 0} (first second : A → Bool) (xs : List A) → list_all (λ x. first x && second x) xs ≡ true → list_all second xs ≡ true
all_second first second [] e = refl
all_second first second (x ∷ xs) e =
    let here = both_of (first x && second x) (list_all (λ y. first y && second y) xs) e in
    and_from (second x) (list_all second xs) (both_of (first x) (second x) here.0).1 (all_second first second xs here.1)

module _ {V : Type 0} (levels : Levels V) (unit limit end : ℕ) where
  no_fault : (steps : List (ℕ × V)) → IsProfile levels unit limit end steps → limit ≤ MOST_STEPS → end ≤ LONGEST_TRACK → profile_fault levels end steps ≡ None
  no_fault [] p few near = let none = p.starts.rising in absurd (cc)
  no_fault (step ∷ later) p few near =
      let rising = p.starts.rising in
      let count = p.few in
      let inside : are_inside end (starts_of (step ∷ later)) ≡ true =
      and_from (nat_le end LONGEST_TRACK) (list_all (λ start. nat_lt start end) (starts_of (step ∷ later))) (le-leb end LONGEST_TRACK near) p.starts.inside in
      let room = and_from (are_inside end (starts_of (step ∷ later))) (nat_le (length (step ∷ later)) MOST_STEPS) inside (le-leb (length (step ∷ later)) MOST_STEPS (omega arith)) in
      let expressible = all_second (λ (s : ℕ × V). levels.in_range s.1) (λ (s : ℕ × V). levels.is_expressible s.1) (step ∷ later) p.values in
      rw (rising, room, expressible) refl

  pub made_of : (steps rows : List (ℕ × V)) (made : Result (StepFunction V) ProfileFault) → IsProfile levels unit limit end steps → limit ≤ MOST_STEPS → end ≤ LONGEST_TRACK
      → rows ≡ steps → made ≡ profile_of levels end rows → made ≡ Ok (record { steps = steps; end = end })
  made_of steps rows made p few near same is =
      let none = no_fault steps p few near in
      let profile : profile_of levels end steps ≡ Ok (record { steps = steps; end = end }) = rw none refl in
      is ∙ ap (profile_of levels end) same ∙ profile

pub made_is : {V : Type 0} (p : StepFunction V) (steps : List (ℕ × V)) (end : ℕ) (made : Result (StepFunction V) ProfileFault)
    → made ≡ Ok p → made ≡ Ok (record { steps = steps; end = end }) → (p.steps ≡ steps) × (p.end ≡ end)
made_is p steps end made is_p is_made =
    let same : p ≡ record { steps = steps; end = end } = cc in
    (ap (λ q. q.steps) same, ap (λ q. q.end) same)
