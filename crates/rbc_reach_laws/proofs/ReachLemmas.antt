-- The reach is the nearest of what the legs tell.
use Rattle.std.specs.List.{list_any, find}
use Rattle.std.proofs.Common.{◌≡◌, ℕ, ◌+◌, ◌<◌, max, Bool, true, false, ◌&&◌, ◌||◌, cond, List, [], ◌∷◌, Option, Some, None, refl, ap, ap₂, sym, subst, ◌∙◌, arith, nat_le}
use Rattle.std.specs.Prelude.{not, is_some, is_none, ◌==◌, if◌then◌else◌, option_map, option_and_then}
use Rattle.std.specs.Option.{option_map_or}
use Rattle.std.proofs.lemmas.Bool.{leb-true, le-leb, eqb-true, false_from_ne_true, both_ways}
use Rattle.rbc_model.specs.declared.places.Leg.{Leg}
use Rattle.rbc_model.specs.declared.places.Metre.{Metre}
use Rattle.rbc_model.specs.declared.refusals.Obstacle.{Obstacle}
use Rattle.rbc_model.specs.declared.refusals.Obstacle.TheVariants.{NoLink, NotLocked, Own, Occupied, Held, Limit}
use Rattle.rbc_model.specs.Scales.{farthest}
use Rattle.rbc_model.specs.Tracks.{Track}
use Rattle.rbc_model.specs.Lines.{Line, line_length, metre_at, last_leg}
use Rattle.rbc_model.specs.Locks.{next}
use Rattle.rbc_model.specs.Trains.{Train}
use Rattle.rbc_model.specs.Scenes.{Scene, others, extent_has, authority_has}
use Rattle.rbc_model.specs.Obstacles.{first_some, no_link, not_locked, own, occupied, held, limit, first_with, unlocked_section, obstacle_on, is_clear, way}
use Rattle.rbc_model.specs.Views.{start_of, way_end, reach}
use Rattle.rbc_reach_laws.specs.Spans.{first_occupied_by, first_held_by, first_unlocked}
use Rattle.rbc_reach_laws.specs.Nearest.{nearer, first_limit, reach_by_legs}
use Rattle.rbc_reach_laws.proofs.FirstLemmas.{IsFirstFrom, IsFound, IsNearest, IsNearest-unique, IsNearest-same, IsNearest-nothing, IsNearest-nearer, IsNearest-each, IsNearest-first_blocked}
use Rattle.rbc_reach_laws.proofs.PlaceLemmas.{extent_at, authority_at, IsFound-first_occupied_by, IsFound-first_held_by, IsFound-first_unlocked}
use Rattle.rbc_model.proofs.BasicLemmas.{same_number}

-- ---- the six reasons as tests

-- no reason stands at the way's end alone, before it
not_end : (i n : ℕ) → i < n → (i == n) ≡ false
not_end i n h = false_from_ne_true (i == n) (λ e. let s = eqb-true i n e in omega arith)

none_before_end : (i n : ℕ) (say : Leg → Obstacle) (test : Leg → Bool) (o : Option Leg) → i < n → option_and_then (λ leg. if i == n && test leg then Some (say leg) else None) o ≡ None
none_before_end i n say test None h = refl
none_before_end i n say test (Some leg) h = rw (not_end i n h) refl

pub no_link-before : (track : Track) (scene : Scene) (line : Line) (i : ℕ) → i < line_length track line → no_link track scene line i ≡ None
no_link-before track scene line i h = none_before_end i (line_length track line) (λ leg. NoLink leg) (λ leg. is_none (next scene.locks leg)) (last_leg line) h

pub own-before : (track : Track) (scene : Scene) (line : Line) (i : ℕ) → i < line_length track line → own track scene line i ≡ None
own-before track scene line i h = none_before_end i (line_length track line) (λ leg. Own) (λ leg. is_some (next scene.locks leg)) (last_leg line) h

pub some_mapped : {X Y : Type 0} (f : X → Y) (o : Option X) → is_some (option_map f o) ≡ is_some o
some_mapped f None = refl
some_mapped f (Some x) = refl

one_found : {X : Type 0} (x : X) (t : Bool) (o : Option X) (rest : Bool) → is_some o ≡ rest → is_some (cond t (Some x) o) ≡ (t || rest)
one_found x true o rest h = refl
one_found x false o rest h = h

pub some_found : {X : Type 0} (test : X → Bool) (xs : List X) → is_some (find test xs) ≡ list_any test xs
some_found test [] = refl
some_found test (x ∷ xs) = one_found x (test x) (find test xs) (list_any test xs) (some_found test xs)

none_any : {X : Type 0} (xs : List X) → list_any (λ (x : X). false) xs ≡ false
none_any [] = refl
none_any (x ∷ xs) = none_any xs

having : (has : Metre → Train → Bool) (trains : List Train) (o : Option Metre) →
    is_some (option_and_then (λ metre. option_map (λ (other : Train). other.report.train) (find (has metre) trains)) o)
    ≡ list_any (λ other. option_map_or (λ metre. has metre other) o false) trains
having has trains None = sym (none_any trains)
having has trains (Some metre) = some_mapped (λ (other : Train). other.report.train) (find (has metre) trains) ∙ some_found (has metre) trains

four_left : (b d e f : Option Obstacle) → not (is_none (first_some (None ∷ b ∷ None ∷ d ∷ e ∷ f ∷ []))) ≡ (((false || is_some f) || is_some b) || (is_some d || is_some e))
four_left None None None None = refl
four_left None None None (Some u) = refl
four_left None None (Some z) None = refl
four_left None None (Some z) (Some u) = refl
four_left None (Some y) None None = refl
four_left None (Some y) None (Some u) = refl
four_left None (Some y) (Some z) None = refl
four_left None (Some y) (Some z) (Some u) = refl
four_left (Some x) None None None = refl
four_left (Some x) None None (Some u) = refl
four_left (Some x) None (Some z) None = refl
four_left (Some x) None (Some z) (Some u) = refl
four_left (Some x) (Some y) None None = refl
four_left (Some x) (Some y) None (Some u) = refl
four_left (Some x) (Some y) (Some z) None = refl
four_left (Some x) (Some y) (Some z) (Some u) = refl

six : (a b c d e f : Option Obstacle) → a ≡ None → c ≡ None → not (is_none (first_some (a ∷ b ∷ c ∷ d ∷ e ∷ f ∷ []))) ≡ (((false || is_some f) || is_some b) || (is_some d || is_some e))
six a b c d e f p q = ap₂ (λ x y. not (is_none (first_some (x ∷ b ∷ y ∷ d ∷ e ∷ f ∷ [])))) p q ∙ four_left b d e f

some_if : {X : Type 0} (t : Bool) (x : X) → is_some (if t then Some x else None) ≡ t
some_if true x = refl
some_if false x = refl

pub any_either : {X : Type 0} (f g : X → Bool) (xs : List X) → (list_any f xs || list_any g xs) ≡ list_any (λ x. f x || g x) xs
any_either f g [] = refl
any_either f g (x ∷ xs) = four (f x) (list_any f xs) (g x) (list_any g xs) ∙ ap (λ t. (f x || g x) || t) (any_either f g xs)
  where
    four : (a b c d : Bool) → ((a || b) || (c || d)) ≡ ((a || c) || (b || d))
    four true b c d = refl
    four false true true d = refl
    four false true false d = refl
    four false false c d = refl

pub any_same : {X : Type 0} (f g : X → Bool) (xs : List X) → ((x : X) → f x ≡ g x) → list_any f xs ≡ list_any g xs
any_same f g [] h = refl
any_same f g (x ∷ xs) h = ap₂ (λ a b. a || b) (h x) (any_same f g xs h)

-- whether the limit stands at a place
abbrev pub limit_at : Track → Train → ℕ → Bool
limit_at track train i = i == train.origin + farthest track.format

module _ (track : Track) (scene : Scene) (train : Train) where
  -- whether some reason stands at a place before the way's end
  abbrev pub blocked_at : Line → ℕ → Bool
  blocked_at line i =
      ((false || limit_at track train i) || is_some (unlocked_section track scene.locks None line i))
      || list_any (λ other. extent_at track line other i || authority_at track line other i) (others scene train)

  pub blocked_at-clear : (line : Line) (i : ℕ) → i < line_length track line → not (is_none (obstacle_on track scene train line i)) ≡ blocked_at line i
  blocked_at-clear line i h =
      six (no_link track scene line i) (not_locked track scene line i) (own track scene line i) (occupied track scene train line i) (held track scene train line i) (limit track train i) (no_link-before track scene line i h) (own-before track scene line i h)
      ∙ ap₂ (λ a b. a || b)
      (ap₂ (λ a b. (false || a) || b) (some_if (limit_at track train i) Limit) (some_mapped (λ section. NotLocked section) (unlocked_section track scene.locks None line i)))
      (ap₂ (λ a b. a || b)
      (some_mapped (λ other. Occupied other) (first_with track scene train line i (extent_has track)) ∙ having (extent_has track) (others scene train) (metre_at track line i))
      (some_mapped (λ other. Held other) (first_with track scene train line i (authority_has track)) ∙ having (authority_has track) (others scene train) (metre_at track line i))
      ∙ any_either (λ other. extent_at track line other i) (λ other. authority_at track line other i) (others scene train))

  -- ---- the limit

  pub IsFound-first_limit : (from end : ℕ) → IsFound (limit_at track train) from (max end (train.origin + farthest track.format + 1)) (first_limit track train from)
  IsFound-first_limit from end = by_test (train.origin + farthest track.format) (nat_le from (train.origin + farthest track.format)) refl
    where
      by_test : (place : ℕ) (t : Bool) → nat_le from place ≡ t → IsFound (λ i. i == place) from (max end (place + 1)) (if t then Some place else None)
      by_test place true h = record {
        some = λ i e.
            let same : place ≡ i = cc in
            let low = leb-true from place h in
            subst (λ j. IsFirstFrom (λ k. k == place) from (max end (place + 1)) j) same
            (record { low = low; high = omega arith; passes = same_number place; before = λ j l u. false_from_ne_true (j == place) (λ p. let q = eqb-true j place p in omega arith) });
        none = λ e. absurd (let bad : ⊥ = cc in bad);
      }
      by_test place false h = record {
        some = λ i e. absurd (let bad : ⊥ = cc in bad);
        none = λ e j l u. false_from_ne_true (j == place) (λ p. both_ways (nat_le from place) h (le-leb from place (let q = eqb-true j place p in omega arith)));
      }

  -- ---- Law 2: the reach

  IsNearest-reach_by_legs : IsNearest (blocked_at (way track scene train)) (start_of train) (way_end track scene train) (reach_by_legs track scene train)
  IsNearest-reach_by_legs =
      let line = way track scene train in
      let start = start_of train in
      let end = line_length track line in
      IsNearest-each (extent_at track line) (authority_at track line) (first_occupied_by track start line) (first_held_by track start line) start end end (others scene train)
      (λ j. (false || limit_at track train j) || is_some (unlocked_section track scene.locks None line j))
      (nearer (nearer end (first_limit track train (start_of train))) (first_unlocked track scene.locks start line))
      (omega arith)
      (λ other. IsFound-first_occupied_by track start line other)
      (λ other. IsFound-first_held_by track start line other)
      (IsNearest-nearer (λ j. false || limit_at track train j) (λ j. is_some (unlocked_section track scene.locks None line j)) start end end (nearer end (first_limit track train (start_of train))) (first_unlocked track scene.locks start line) (omega arith)
      (IsNearest-nearer (λ j. false) (limit_at track train) start end (max end (train.origin + farthest track.format + 1)) end (first_limit track train (start_of train)) (omega arith) (IsNearest-nothing start end) (IsFound-first_limit start end))
      (IsFound-first_unlocked track scene.locks start line))

  pub IsNearest-reach : IsNearest (blocked_at (way track scene train)) (start_of train) (way_end track scene train) (reach track scene train)
  IsNearest-reach =
      IsNearest-same (λ i. not (is_clear track scene train i)) (blocked_at (way track scene train)) (start_of train) (way_end track scene train) (reach track scene train)
      (λ j l u. blocked_at-clear (way track scene train) j u)
      (IsNearest-first_blocked (is_clear track scene train) (start_of train) (way_end track scene train))

  pub reach-by_legs : reach track scene train ≡ reach_by_legs track scene train
  reach-by_legs =
      IsNearest-unique (blocked_at (way track scene train)) (start_of train) (way_end track scene train) (reach track scene train) (reach_by_legs track scene train)
      IsNearest-reach IsNearest-reach_by_legs
