-- Names that stand beside entries find the entries.
use Rattle.std.proofs.Common.{◌≡◌, ℕ, ◌+◌, ◌≤◌, Bool, true, false, not, ◌||◌, ◌&&◌, ◌==◌, cond, nat_lt, nat_eq, zero, suc, option_and_then, List, [], ◌∷◌, length, map, Option, Some, None, refl, sym, ap, ◌∙◌, arith, position, find, slice_get}
use Rattle.std.specs.List.{list_all, list_any, position_or_len}
use Rattle.std.proofs.Common.{Bor, get_or, is_some, IfSome, option_copied, ltb-false, ltb-true}
use Rattle.std.proofs.lemmas.Option.{slice_get_read}
use Rattle.std.proofs.lemmas.List.{length-map}
use Rattle.std.proofs.lemmas.List.Folds.{find_at}
use Rattle.std.proofs.lemmas.Bool.Decides.{nat_tests}
use Rattle.rbc_model.specs.GroupNames.{GroupName}
use Rattle.rbc_model.specs.Tracks.{group_name_eq}
use Rattle.rbc_model.proofs.CountingLemmas.{both_of}
use Rattle.rbc_track.specs.GroupKeys.{group_name}

module _ {X N : Type 0} (test : N → Bool) (name : X → N) where
  any_map : (xs : List X) → list_any test (map name xs) ≡ list_any (λ x. test (name x)) xs
  any_map [] = refl
  any_map (x ∷ xs) = ap (λ b. test (name x) || b) (any_map xs)

  place_map : (xs : List X) → position_or_len test (map name xs) ≡ position_or_len (λ x. test (name x)) xs
  place_map [] = refl
  place_map (x ∷ xs) = ap (λ n. cond (not (test (name x))) (1 + n) 0) (place_map xs)

  -- an entry is named as its name
  pub list_any-named : (names : List N) (xs : List X) → names ≡ map name xs → list_any test names ≡ list_any (λ x. test (name x)) xs
  list_any-named names xs listed = ap (list_any test) listed ∙ any_map xs

  -- its place is that of its name
  pub position-named : (names : List N) (xs : List X) → names ≡ map name xs → position test names ≡ position (λ x. test (name x)) xs
  position-named names xs listed =
      ap (position test) listed
      ∙ ap (λ place. cond (nat_lt place (length (map name xs))) (Some place) None) (place_map xs)
      ∙ ap (λ count. cond (nat_lt (position_or_len (λ x. test (name x)) xs) count) (Some (position_or_len (λ x. test (name x)) xs)) None) (length-map xs name)

-- what stands at the place that is found is found
module _ {X : Type 0} (test : X → Bool) where
  past_end : (xs : List X) (i : ℕ) → length xs ≤ i → slice_get xs i ≡ None
  past_end [] i h = refl
  past_end (x ∷ xs) zero h = absurd (omega arith)
  past_end (x ∷ xs) (suc i) h = past_end xs i (omega arith)

  at_place : (xs : List X) (below : Bool) → nat_lt (position_or_len test xs) (length xs) ≡ below → (found : Option ℕ)
      → cond below (Some (position_or_len test xs)) None ≡ found → find test xs ≡ option_and_then (slice_get xs) found
  at_place xs true h found e = find_at test xs ∙ ap (λ o. option_and_then (slice_get xs) o) e
  at_place xs false h found e = find_at test xs ∙ past_end xs (position_or_len test xs) (grind (arith, nat_tests)) ∙ ap (λ o. option_and_then (slice_get xs) o) e

  pub find-position : (xs : List X) (found : Option ℕ) → position test xs ≡ found → find test xs ≡ option_and_then (slice_get xs) found
  find-position xs found e = at_place xs (nat_lt (position_or_len test xs) (length xs)) refl found e

found_at : {X : Type 0} (good : X → Bool) (x : X) (later : Option X) (y : X) (here : Bool) → good x ≡ true → (Some y ≡ later → good y ≡ true) → Some y ≡ cond here (Some x) later → good y ≡ true
found_at good x later y true first rest e = let same : y ≡ x = cc in ap good same ∙ first
found_at good x later y false first rest e = rest e

-- what is found passes a test that all pass
pub find-passes : {X : Type 0} (test good : X → Bool) (xs : List X) (found : Option X) → list_all good xs ≡ true → found ≡ find test xs → IfSome found (λ x. good x ≡ true)
find-passes test good xs None all e = tt
find-passes test good [] (Some y) all e = cc
find-passes test good (x ∷ xs) (Some y) all e =
    let both = both_of (good x) (list_all good xs) all in
    found_at good x (find test xs) y (test x) both.0 (λ f. find-passes test good xs (Some y) both.1 f) e

-- ---- groups, by keys

same_number : (a b : ℕ) → nat_eq a b ≡ (b == a)
same_number a b = grind (arith, nat_tests)

same_key : (name : GroupName) (key : ℕ × ℕ) → (nat_eq name.country key.0 && nat_eq name.number key.1) ≡ group_name_eq (group_name key) name
same_key name key =
    ap (λ b. b && nat_eq name.number key.1) (same_number name.country key.0) ∙ ap (λ b. (key.0 == name.country) && b) (same_number name.number key.1)

-- a key is among the keys exactly where its identity is among theirs
pub any_key : (name : GroupName) (keys : List (ℕ × ℕ)) → list_any (λ key. nat_eq name.country key.0 && nat_eq name.number key.1) keys ≡ list_any (λ other. group_name_eq other name) (map group_name keys)
any_key name [] = refl
any_key name (key ∷ keys) =
    ap (λ b. b || list_any (λ k. nat_eq name.country k.0 && nat_eq name.number k.1) keys) (same_key name key)
    ∙ ap (λ b. group_name_eq (group_name key) name || b) (any_key name keys)

place_key : (name : GroupName) (keys : List (ℕ × ℕ)) → position_or_len (λ key. nat_eq name.country key.0 && nat_eq name.number key.1) keys ≡ position_or_len (λ other. group_name_eq other name) (map group_name keys)
place_key name [] = refl
place_key name (key ∷ keys) =
    ap (λ b. cond (not b) (1 + position_or_len (λ k. nat_eq name.country k.0 && nat_eq name.number k.1) keys) 0) (same_key name key)
    ∙ ap (λ n. cond (not (group_name_eq (group_name key) name)) (1 + n) 0) (place_key name keys)

-- and at one place
pub position_key : (name : GroupName) (keys : List (ℕ × ℕ)) → position (λ key. nat_eq name.country key.0 && nat_eq name.number key.1) keys ≡ position (λ other. group_name_eq other name) (map group_name keys)
position_key name keys =
    ap (λ place. cond (nat_lt place (length keys)) (Some place) None) (place_key name keys)
    ∙ ap (λ count. cond (nat_lt (position_or_len (λ other. group_name_eq other name) (map group_name keys)) count) (Some (position_or_len (λ other. group_name_eq other name) (map group_name keys))) None) (sym (length-map keys group_name))

-- ---- what a look into a slice gives

pub got : {X : Type 0} (xs : List X) (i : ℕ) (found : Option (Bor X)) → is_some found ≡ nat_lt i (length xs) → IfSome found (λ x. x.now ≡ get_or xs i x.now) → option_copied found ≡ slice_get xs i
got xs i None inside is =
    let outside : length xs ≤ i = ltb-false i (length xs) (sym inside) in
    sym (past_end (λ x. true) xs i outside)
got xs i (Some x) inside is = sym (slice_get_read xs (length xs) i x.now refl (ltb-true i (length xs) (sym inside)) is)
