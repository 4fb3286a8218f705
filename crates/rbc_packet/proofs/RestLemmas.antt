-- What is left of a profile's steps.
use Rattle.std.proofs.Common.{◌≡◌, ℕ, ◌+◌, ◌-◌, ◌<◌, List, [], ◌∷◌, length, arith, nat_lt, ◌==◌, IsTrue, sym, ap, take, drop, get_or, subst, ◌∙◌}
use Rattle.std.proofs.lemmas.List.{drop_more, take_rest}
use Rattle.std.proofs.lemmas.Bool.{ltb-true}
use Rattle.std.specs.List.{list_all}
use Rattle.rbc_model.specs.Levels.{Levels}
use Rattle.rbc_model.specs.Profiles.{starts_of, rises_above, IsProfile}
use Rattle.rbc_model.proofs.CountingLemmas.{both_of}

-- the steps after one that starts at a metre, up to the end
pub record IsRest {V : Type 0} (levels : Levels V) (end from : ℕ) (later : List (ℕ × V)) : Type 0 where
  pub before : from < end
  pub rising : IsTrue (rises_above from (starts_of later))
  pub inside : IsTrue (list_all (λ start. nat_lt start end) (starts_of later))

pub rest_after : {V : Type 0} (levels : Levels V) (end from : ℕ) (step : ℕ × V) (later : List (ℕ × V)) → IsRest levels end from (step ∷ later) → (from < step.0) × IsRest levels end step.0 later
rest_after levels end from step later rest =
    let rising = both_of (nat_lt from step.0) (rises_above step.0 (starts_of later)) rest.rising in
    let inside = both_of (nat_lt step.0 end) (list_all (λ start. nat_lt start end) (starts_of later)) rest.inside in
    (ltb-true from step.0 rising.0, record { before = ltb-true step.0 end inside.0; rising = rising.1; inside = inside.1 })

pub first_rest : {V : Type 0} (levels : Levels V) (limit end : ℕ) (first : ℕ × V) (later : List (ℕ × V)) → IsProfile levels 1 limit end (first ∷ later) → IsRest levels end 0 later
first_rest levels limit end first later profile =
    let inside = both_of (nat_lt first.0 end) (list_all (λ start. nat_lt start end) (starts_of later)) profile.starts.inside in
    record {
      before = omega (arith, ltb-true first.0 end inside.0);
      rising = (both_of (first.0 == 0) (rises_above 0 (starts_of later)) profile.starts.rising).1;
      inside = inside.1;
    }

pub has_step : {V : Type 0} (levels : Levels V) (limit end : ℕ) (steps : List (ℕ × V)) → IsProfile levels 1 limit end steps → 0 < length steps
has_step levels limit end [] profile = absurd cc
has_step levels limit end (first ∷ later) profile = omega arith

-- the step at an index, and those after it
pub drop_at_step : {V : Type 0} (later : List (ℕ × V)) (i : ℕ) (step : ℕ × V) → i < length later → step ≡ get_or later i step → drop i later ≡ step ∷ drop (i + 1) later
drop_at_step later i step inside is = drop_more later i step inside ∙ ap (λ s. s ∷ drop (i + 1) later) (sym is)

pub rest_at : {V : Type 0} (levels : Levels V) (end from : ℕ) (later : List (ℕ × V)) (i : ℕ) (step : ℕ × V) → i < length later → step ≡ get_or later i step → IsRest levels end from (drop i later) → (from < step.0) × IsRest levels end step.0 (drop (i + 1) later)
rest_at levels end from later i step inside is rest = rest_after levels end from step (drop (i + 1) later) (subst (IsRest levels end from) (drop_at_step later i step inside is) rest)

-- the steps after the first one, as `&steps[1..]` gives them
pub rest_of : {V : Type 0} (levels : Levels V) (limit end : ℕ) (steps : List (ℕ × V)) → IsProfile levels 1 limit end steps → IsRest levels end 0 (take (length steps - 1) (drop 1 steps))
rest_of levels limit end [] profile = absurd cc
rest_of levels limit end (first ∷ later) profile = subst (IsRest levels end 0) (sym (take_rest (first ∷ later) 1)) (first_rest levels limit end first later profile)
