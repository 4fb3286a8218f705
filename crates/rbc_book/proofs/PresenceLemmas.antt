-- What is counted on the sections of a track, as trains are put in and taken out, and who is found by it.
use Rattle.std.proofs.Common.{◌≡◌, ℕ, zero, suc, ◌+◌, ◌-◌, ◌*◌, ◌≤◌, ◌<◌, Bool, true, false, cond, List, [], ◌∷◌, ◌++◌, get_or, length, map, slice_get, take, nat_eq, Option, Some, None, refl, sym, ◌∙◌, ap, subst, ◌⊎◌, inl, inr, arith}
use Rattle.std.specs.Prelude.{is_some, ◌==◌, ◌||◌, find, filter, not, option_map}
use Rattle.std.specs.List.{AllByRecursion}
use Rattle.std.specs.Map.{lookup}
use Rattle.std.proofs.lemmas.Bool.{eqb-true, not-true, or_from, or_parts}
use Rattle.std.proofs.lemmas.List.Folds.{list_any_more}
use Rattle.std.proofs.lemmas.Option.{slice_get-get_or}
use Rattle.std.proofs.lemmas.List.{length-append, length-map, nil_from_length}
use Rattle.rbc_model.specs.declared.limits.TheConstants.{LAST_TRAIN, MOST_TRAINS}
use Rattle.rbc_model.specs.Lines.{IsLine, Line, has_section}
use Rattle.rbc_model.specs.SoundTracks.{sections_differ}
use Rattle.rbc_model.specs.declared.places.Leg.{Leg}
use Rattle.rbc_model.specs.Tracks.{Track}
use Rattle.rbc_model.specs.Trains.{Train}
use Rattle.rbc_model.specs.Scenes.{train_numbered}
use Rattle.rbc_model.specs.Events.{stands_on}
use Rattle.rbc_scene_laws.proofs.BasicLemmas.{EachPair, and_left, and_right, each_filter, pairs_filter, the_some}
use Rattle.rbc_model.proofs.BasicLemmas.{find-passes}
use Rattle.rbc_scene_laws.proofs.LegLemmas.{stands_on-lacks}
use Rattle.rbc_scene_laws.proofs.OnLineLemmas.{OnLine-IsLine}
use Rattle.rbc_scene_laws.proofs.TrainListLemmas.{Differ, each_with_train, find-holds, swap}
use Rattle.rbc_extent.specs.TrainsOnTracks.{TrainOnTrack}
use Rattle.rbc_book.specs.Books.{Book, book_with, book_without, number_in, scene_of, train_in}
use Rattle.rbc_book.specs.Entries.{AreEntries, book_of, on_track, trains_of}
use Rattle.rbc_book.specs.Presence.{ArePresent, HasRoom, nobody, others_along, tally_at, tally_less, tally_of, tally_with, tally_without, with_one, without_one}
use Rattle.rbc_book.specs.declared.presence.Tally.{Tally}
use Rattle.rbc_book.proofs.EntryLemmas.{AreThoseOf, differ, found, got, is_numbered, no_swap, none_out, with_in, without_in}

-- ---- trains are counted in any order, and what was counted is taken back

with_by : (a b : Bool) (n m : ℕ) (t : Tally) → cond a (with_one n (cond b (with_one m t) t)) (cond b (with_one m t) t) ≡ cond b (with_one m (cond a (with_one n t) t)) (cond a (with_one n t) t)
with_by true true n m t = ap (λ k. let tally : Tally = record { trains = t.trains + 1 + 1; numbers = k } in tally) (let e : t.numbers + m + n ≡ t.numbers + n + m = omega arith in e)
with_by true false n m t = refl
with_by false true n m t = refl
with_by false false n m t = refl

either_first : (s : ℕ) (x y : Train) (t : Tally) → tally_with x s (tally_with y s t) ≡ tally_with y s (tally_with x s t)
either_first s x y t = with_by (has_section x.line s) (has_section y.line s) (number_in x) (number_in y) t

back_by : (a : Bool) (n : ℕ) (t : Tally) → cond a (without_one n (cond a (with_one n t) t)) (cond a (with_one n t) t) ≡ t
back_by true n t =
    let e : t.trains + 1 - 1 ≡ t.trains = omega arith in
    let f : t.numbers + n - n ≡ t.numbers = omega arith in
    λ i. record { trains = e i; numbers = f i }
back_by false n t = refl

taken_back : (s : ℕ) (x : Train) (t : Tally) → tally_without x s (tally_with x s t) ≡ t
taken_back s x t = back_by (has_section x.line s) (number_in x) t

-- ---- a line's legs, one after the other

-- a section's tally once it was changed on these legs
abbrev pub changed_on : (Tally → Tally) → Line → ℕ → Tally → Tally
changed_on change legs s t = cond (has_section legs s) (change t) t

unlike_later : (x leg : Leg) (xs : List Leg) (i : ℕ) → has_section xs x.section ≡ false → slice_get xs i ≡ Some leg → (x.section == leg.section) ≡ false
unlike_later x leg [] i h at = cc
unlike_later x leg (y ∷ xs) zero h at = turned x.section leg.section (ap (λ (l : Leg). l.section == x.section) (sym (the_some y leg at)) ∙ (or_parts (y.section == x.section) (has_section xs x.section) h).0)
  where
    turned : (a b : ℕ) → (b == a) ≡ false → (a == b) ≡ false
    turned a b e = grind (arith, e)
unlike_later x leg (y ∷ xs) (suc i) h at = unlike_later x leg xs i ((or_parts (y.section == x.section) (has_section xs x.section) h).1) at

-- a leg's section is on none of the legs before it
absent_before : (legs : Line) (i : ℕ) (leg : Leg) → sections_differ legs ≡ true → slice_get legs i ≡ Some leg → has_section (take i legs) leg.section ≡ false
absent_before [] i leg differ at = cc
absent_before (x ∷ xs) zero leg differ at = refl
absent_before (x ∷ xs) (suc i) leg differ at =
    or_from (x.section == leg.section) (has_section (take i xs) leg.section)
    (unlike_later x leg xs i (not-true (has_section xs x.section) (and_left (not (has_section xs x.section)) (sections_differ xs) differ)) at)
    (absent_before xs i leg (and_right (not (has_section xs x.section)) (sections_differ xs) differ) at)

module _ (change : Tally → Tally) (track : Track) (legs : Line) (i : ℕ) (leg : Leg) (line : IsLine track legs) (within : i < length legs) (is : leg ≡ get_or legs i leg) (first old : List Tally)
    (sofar : (s : ℕ) → tally_at old s ≡ changed_on change (take i legs) s (tally_at first s)) where
  absent : has_section (take i legs) leg.section ≡ false
  absent =
      let on = OnLine-IsLine track legs line in
      absent_before legs i leg on.differ (slice_get-get_or legs i leg within ∙ ap Some (sym is))

  pub not_yet : tally_at old leg.section ≡ tally_at first leg.section
  not_yet = sofar leg.section ∙ ap (λ b. cond b (change (tally_at first leg.section)) (tally_at first leg.section)) absent

  more : (s : ℕ) → has_section (take (i + 1) legs) s ≡ (has_section (take i legs) s || (leg.section == s))
  more s = list_any_more (λ (l : Leg). l.section == s) legs i leg within ∙ ap (λ (l : Leg). has_section (take i legs) s || (l.section == s)) (sym is)

  changed-by : (new : List Tally) (s : ℕ) (b : Bool) → (leg.section == s) ≡ b → tally_at new leg.section ≡ change (tally_at old leg.section) → ((other : ℕ) → ((other ≡ leg.section) → ⊥) → tally_at new other ≡ tally_at old other)
      → tally_at new s ≡ changed_on change (take (i + 1) legs) s (tally_at first s)
  changed-by new s true e here others =
      let same = eqb-true leg.section s e in
      subst (λ n. tally_at new n ≡ changed_on change (take (i + 1) legs) n (tally_at first n)) same
      (here ∙ ap change not_yet ∙ ap (λ b. cond b (change (tally_at first leg.section)) (tally_at first leg.section)) (sym (more leg.section ∙ or_last (has_section (take i legs) leg.section) leg.section)))
    where
      or_last : (a : Bool) (n : ℕ) → (a || (n == n)) ≡ true
      or_last true n = refl
      or_last false n = grind arith
  changed-by new s false e here others =
      others s (apart leg.section s e) ∙ sofar s ∙ ap (λ b. cond b (change (tally_at first s)) (tally_at first s)) (sym (more s ∙ ap (λ b. has_section (take i legs) s || b) e ∙ or_false (has_section (take i legs) s)))
    where
      apart : (a b : ℕ) → (a == b) ≡ false → b ≡ a → ⊥
      apart a b e k = grind (arith, e, k)

      or_false : (a : Bool) → (a || false) ≡ a
      or_false true = refl
      or_false false = refl

  pub changed_more : (new : List Tally) → tally_at new leg.section ≡ change (tally_at old leg.section) → ((other : ℕ) → ((other ≡ leg.section) → ⊥) → tally_at new other ≡ tally_at old other)
      → (s : ℕ) → tally_at new s ≡ changed_on change (take (i + 1) legs) s (tally_at first s)
  changed_more new here others s = changed-by new s (leg.section == s) refl here others

-- a leg's section is on the line
stands_at : (legs : Line) (i : ℕ) (leg : Leg) → slice_get legs i ≡ Some leg → has_section legs leg.section ≡ true
stands_at [] i leg at = cc
stands_at (x ∷ xs) zero leg at = first x leg (the_some x leg at) (has_section xs leg.section)
  where
    first : (x leg : Leg) → x ≡ leg → (b : Bool) → ((x.section == leg.section) || b) ≡ true
    first x leg e b = ap (λ (l : Leg). (l.section == leg.section) || b) e ∙ alike leg.section b
      where
        alike : (n : ℕ) (b : Bool) → ((n == n) || b) ≡ true
        alike n b = grind arith
stands_at (x ∷ xs) (suc i) leg at = or_right (x.section == leg.section) (stands_at xs i leg at)
  where
    or_right : (a : Bool) {b : Bool} → b ≡ true → (a || b) ≡ true
    or_right true h = refl
    or_right false h = h

pub stands : (legs : Line) (i : ℕ) (leg : Leg) → i < length legs → leg ≡ get_or legs i leg → (line : Line) → legs ≡ line → has_section line leg.section ≡ true
stands legs i leg within is line same = subst (λ l. has_section l leg.section ≡ true) same (stands_at legs i leg (slice_get-get_or legs i leg within ∙ ap Some (sym is)))

-- ---- a train taken out

-- the tally with this train, if there is one
abbrev tally_more : Option Train → ℕ → Tally → Tally
tally_more None s t = t
tally_more (Some x) s t = tally_with x s t

more_behind : (o : Option Train) (s : ℕ) (x : Train) (t : Tally) → tally_with x s (tally_more o s t) ≡ tally_more o s (tally_with x s t)
more_behind None s x t = refl
more_behind (Some y) s x t = either_first s x y t

-- how many trains there are with one more, if there is one
abbrev one_if : Option Train → ℕ
one_if None = 0
one_if (Some x) = 1

-- these are the trains without the one that was found
pub record AreWithout (o : Option Train) (xs rest : List Train) : Type 0 where
  pub tallies : (s : ℕ) → tally_of s xs ≡ tally_more o s (tally_of s rest)
  pub count : length xs ≡ length rest + one_if o

without-first : (n : ℕ) (x : Train) (xs : List Train) (b : Bool) (o : Option Train) → (b ≡ true → without_in xs n ≡ xs) → AreWithout o xs (without_in xs n)
    → AreWithout (cond b (Some x) o) (x ∷ xs) (cond (not b) (x ∷ without_in xs n) (without_in xs n))
without-first n x xs true o none rest =
    let same = sym (none refl) in
    record {
      tallies = λ s. ap (λ l. tally_with x s (tally_of s l)) same;
      count = let e = ap (λ (l : List Train). length l) same in omega arith;
    }
without-first n x xs false o none rest = record {
  tallies = λ s. ap (tally_with x s) (rest.tallies s) ∙ more_behind o s x (tally_of s (without_in xs n));
  count = let e = rest.count in omega arith;
}

pub are_without : (n : ℕ) (xs : List Train) → EachPair Differ xs → AreWithout (train_numbered (scene_of xs) n) xs (without_in xs n)
are_without n [] h = record { tallies = λ s. refl; count = refl }
are_without n (x ∷ xs) h = without-first n x xs (is_numbered n x) (train_numbered (scene_of xs) n) (λ t. none_out n x xs (eqb-true x.report.train n t) h.0) (are_without n xs h.1)

-- the tally of the others is what is left without it
less-more : (track : Track) (o : Option Train) (s : ℕ) (t : Tally) → tally_less (option_map (on_track track) o) s (tally_more o s t) ≡ t
less-more track None s t = refl
less-more track (Some x) s t = taken_back s x t

pub tally_less-without : (track : Track) (n s : ℕ) (xs : List Train) → EachPair Differ xs → tally_less (option_map (on_track track) (train_numbered (scene_of xs) n)) s (tally_of s xs) ≡ tally_of s (without_in xs n)
tally_less-without track n s xs h =
    let w = are_without n xs h in
    ap (tally_less (option_map (on_track track) (train_numbered (scene_of xs) n)) s) (w.tallies s) ∙ less-more track (train_numbered (scene_of xs) n) s (tally_of s (without_in xs n))

-- ---- a train put in

tally_of-push : (s : ℕ) (train : Train) (xs : List Train) → tally_of s (xs ++ train ∷ []) ≡ tally_with train s (tally_of s xs)
tally_of-push s train [] = refl
tally_of-push s train (x ∷ xs) = ap (tally_with x s) (tally_of-push s train xs) ∙ either_first s x train (tally_of s xs)

none-stays : (n : ℕ) (x : Train) (xs : List Train) (b : Bool) → cond b (Some x) (train_numbered (scene_of xs) n) ≡ None → (train_numbered (scene_of xs) n ≡ None → without_in xs n ≡ xs)
    → cond (not b) (x ∷ without_in xs n) (without_in xs n) ≡ x ∷ xs
none-stays n x xs true h rest = cc
none-stays n x xs false h rest = ap (λ l. x ∷ l) (rest h)

none_without : (n : ℕ) (xs : List Train) → train_numbered (scene_of xs) n ≡ None → without_in xs n ≡ xs
none_without n [] h = refl
none_without n (x ∷ xs) h = none-stays n x xs (is_numbered n x) h (λ k. none_without n xs k)

some-swapped : (s : ℕ) (train x : Train) (xs : List Train) (b : Bool) → (b ≡ true → (map (swap train) xs ≡ xs) × (without_in xs (number_in train) ≡ xs))
    → (is_some (train_numbered (scene_of xs) (number_in train)) ≡ true → tally_of s (map (swap train) xs) ≡ tally_with train s (tally_of s (without_in xs (number_in train))))
    → is_some (cond b (Some x) (train_numbered (scene_of xs) (number_in train))) ≡ true
    → tally_of s (cond b train x ∷ map (swap train) xs) ≡ tally_with train s (tally_of s (cond (not b) (x ∷ without_in xs (number_in train)) (without_in xs (number_in train))))
some-swapped s train x xs true here rest h = let k = here refl in ap (λ l. tally_with train s (tally_of s l)) (k.0 ∙ sym k.1)
some-swapped s train x xs false here rest h = ap (tally_with x s) (rest h) ∙ either_first s x train (tally_of s (without_in xs (number_in train)))

tally_of-swap : (s : ℕ) (train : Train) (xs : List Train) → EachPair Differ xs → is_some (train_numbered (scene_of xs) (number_in train)) ≡ true
    → tally_of s (map (swap train) xs) ≡ tally_with train s (tally_of s (without_in xs (number_in train)))
tally_of-swap s train [] h there = cc
tally_of-swap s train (x ∷ xs) h there =
    some-swapped s train x xs (is_numbered (number_in train) x)
    (λ t. let e = eqb-true x.report.train (number_in train) t in (no_swap train x xs e h.0, none_out (number_in train) x xs e h.0))
    (λ k. tally_of-swap s train xs h.1 k) there

with-by : (s : ℕ) (train : Train) (xs : List Train) (o : Option Train) → train_numbered (scene_of xs) (number_in train) ≡ o → EachPair Differ xs
    → tally_of s (cond (is_some o) (map (swap train) xs) (xs ++ train ∷ [])) ≡ tally_with train s (tally_of s (without_in xs (number_in train)))
with-by s train xs None e h = tally_of-push s train xs ∙ ap (λ l. tally_with train s (tally_of s l)) (sym (none_without (number_in train) xs e))
with-by s train xs (Some x) e h = tally_of-swap s train xs h (ap is_some e)

pub tally_of-with : (s : ℕ) (train : Train) (xs : List Train) → EachPair Differ xs → tally_of s (with_in xs train) ≡ tally_with train s (tally_of s (without_in xs (number_in train)))
tally_of-with s train xs h = with-by s train xs (train_numbered (scene_of xs) (number_in train)) refl h

-- ---- there is room for one more

abbrev SmallNumbers : List Train → Type 0
SmallNumbers xs = AllByRecursion (λ train. number_in train ≤ LAST_TRAIN) xs

pub record IsWithin (count : ℕ) (t : Tally) : Type 0 where
  pub trains : t.trains ≤ count
  pub numbers : t.numbers ≤ t.trains * LAST_TRAIN

within_by : (b : Bool) (n count : ℕ) (t : Tally) → n ≤ LAST_TRAIN → IsWithin count t → IsWithin (count + 1) (cond b (with_one n t) t)
within_by true n count t h w = let f = w.trains in let g = w.numbers in record { trains = omega arith; numbers = omega arith }
within_by false n count t h w = let f = w.trains in record { trains = omega arith; numbers = w.numbers }

within : (s : ℕ) (xs : List Train) → SmallNumbers xs → IsWithin (length xs) (tally_of s xs)
within s [] h = record { trains = omega arith; numbers = omega arith }
within s (x ∷ xs) h = subst (λ k. IsWithin k (tally_of s (x ∷ xs))) (let e : length xs + 1 ≡ length (x ∷ xs) = omega arith in e) (within_by (has_section x.line s) (number_in x) (length xs) (tally_of s xs) h.0 (within s xs h.1))

-- ---- what a book keeps of it

module _ (track : Track) (xs : List Train) (train : Train) (differ : EachPair Differ xs) (few : length xs ≤ MOST_TRAINS) (small : SmallNumbers xs) where
  abbrev before : Option Train
  before = train_numbered (scene_of xs) (number_in train)

  abbrev rest : List Train
  rest = without_in xs (number_in train)

  fewer-by : (o : Option Train) → AreWithout o xs rest → (o ≡ None → length xs < MOST_TRAINS) → length rest < MOST_TRAINS
  fewer-by None w room = let c = w.count in let r = room refl in omega (arith, few)
  fewer-by (Some x) w room = let c = w.count in omega (arith, few)

  pub room_for : (before ≡ None → length xs < MOST_TRAINS) → (s : ℕ) → HasRoom (tally_of s rest)
  room_for room s =
      let w = within s rest (each_filter (λ train. number_in train ≤ LAST_TRAIN) (λ other. not (other.report.train == number_in train)) xs small) in
      let below = w.trains in
      let fewer = fewer-by before (are_without (number_in train) xs differ) room in
      (omega arith, w.numbers)

  grown-by : (o : Option Train) → (o ≡ None → length xs < MOST_TRAINS) → length (cond (is_some o) (map (swap train) xs) (xs ++ train ∷ [])) ≤ MOST_TRAINS
  grown-by None room = let r = room refl in let e = length-append xs (train ∷ []) in omega arith
  grown-by (Some x) room = let e = length-map xs (swap train) in omega (arith, few)

  pub present-with : (old new : List Tally) → (before ≡ None → length xs < MOST_TRAINS) → number_in train ≤ LAST_TRAIN → length new ≡ length track.sections → ((s : ℕ) → tally_at old s ≡ tally_of s xs)
      → ((s : ℕ) → tally_at new s ≡ tally_with train s (tally_less (option_map (on_track track) before) s (tally_at old s))) → ArePresent track (with_in xs train) new
  present-with old new room small_one size was now = record {
    as_many = size;
    few = grown-by before room;
    numbers = each_with_train (λ train. number_in train ≤ LAST_TRAIN) (scene_of xs) train small small_one;
    each = λ s.
        now s
        ∙ ap (λ t. tally_with train s (tally_less (option_map (on_track track) before) s t)) (was s)
        ∙ ap (tally_with train s) (tally_less-without track (number_in train) s xs differ)
        ∙ sym (tally_of-with s train xs differ);
  }

pub present-without : (track : Track) (xs : List Train) (n : ℕ) (x : Option Train) (old new : List Tally) → EachPair Differ xs → ArePresent track xs old → train_numbered (scene_of xs) n ≡ x → length new ≡ length old
    → ((s : ℕ) → tally_at new s ≡ tally_less (option_map (on_track track) x) s (tally_at old s)) → ArePresent track (without_in xs n) new
present-without track xs n x old new differ are found size now =
    let w = are_without n xs differ in
    let c = w.count in
    let f = are.few in
    record {
      as_many = size ∙ are.as_many;
      few = omega arith;
      numbers = each_filter (λ train. number_in train ≤ LAST_TRAIN) (λ other. not (other.report.train == n)) xs are.numbers;
      each = λ s.
          now s
          ∙ ap (tally_less (option_map (on_track track) x) s) (are.each s)
          ∙ ap (λ o. tally_less (option_map (on_track track) o) s (tally_of s xs)) (sym found)
          ∙ tally_less-without track n s xs differ;
    }

-- ---- who is found by it

abbrev has : ℕ → Train → Bool
has s train = has_section train.line s

-- the tally counts those that have the section
counted-by : (b : Bool) (n : ℕ) (x : Train) (t : Tally) (ys : List Train) → t.trains ≡ length ys → (cond b (with_one n t) t).trains ≡ length (cond b (x ∷ ys) ys)
counted-by true n x t ys e = omega (arith, e)
counted-by false n x t ys e = e

pub tally_of-count : (s : ℕ) (xs : List Train) → (tally_of s xs).trains ≡ length (filter (has s) xs)
tally_of-count s [] = refl
tally_of-count s (x ∷ xs) = counted-by (has s x) (number_in x) x (tally_of s xs) (filter (has s) xs) (tally_of-count s xs)

-- one train alone has the section
pub record IsAlone (s : ℕ) (xs : List Train) : Type 0 where
  pub train : Train
  pub is : filter (has s) xs ≡ train ∷ []
  pub number : (tally_of s xs).numbers ≡ number_in train
  pub there : train_numbered (scene_of xs) (number_in train) ≡ Some train

unlike : (x train : Train) → Differ x train → (x.report.train == number_in train) ≡ false
unlike x train h = grind (arith, h)

found_first : (x : Train) (o : Option Train) → cond (x.report.train == number_in x) (Some x) o ≡ Some x
found_first x o = grind arith

alone-by : (s : ℕ) (x : Train) (xs : List Train) (b : Bool) → has s x ≡ b → IsWithin (length xs) (tally_of s xs) → AllByRecursion (Differ x) xs → ((tally_of s xs).trains ≡ 1 → IsAlone s xs)
    → (cond b (with_one (number_in x) (tally_of s xs)) (tally_of s xs)).trains ≡ 1 → IsAlone s (x ∷ xs)
alone-by s x xs true e w differ rest h =
    let none : (tally_of s xs).trains ≡ 0 = omega (arith, h) in
    let zero = w.numbers in
    let zero_sum : (tally_of s xs).numbers + number_in x ≡ number_in x = omega (arith, none, zero) in
    record {
      train = x;
      is = ap (λ b. cond b (x ∷ filter (has s) xs) (filter (has s) xs)) e ∙ ap (λ l. x ∷ l) (nil_from_length (filter (has s) xs) (sym (tally_of-count s xs) ∙ none));
      number = ap (λ b. (cond b (with_one (number_in x) (tally_of s xs)) (tally_of s xs)).numbers) e ∙ zero_sum;
      there = found_first x (train_numbered (scene_of xs) (number_in x));
    }
alone-by s x xs false e w differ rest h =
    let a = rest h in
    let apart : Differ x a.train = find-holds (Differ x) (is_numbered (number_in a.train)) xs a.train a.there differ in
    record {
      train = a.train;
      is = ap (λ b. cond b (x ∷ filter (has s) xs) (filter (has s) xs)) e ∙ a.is;
      number = ap (λ b. (cond b (with_one (number_in x) (tally_of s xs)) (tally_of s xs)).numbers) e ∙ a.number;
      there = ap (λ b. cond b (Some x) (train_numbered (scene_of xs) (number_in a.train))) (unlike x a.train apart) ∙ a.there;
    }

pub alone : (s : ℕ) (xs : List Train) → EachPair Differ xs → SmallNumbers xs → (tally_of s xs).trains ≡ 1 → IsAlone s xs
alone s [] differ small h = absurd (omega (arith, h))
alone s (x ∷ xs) differ small h = alone-by s x xs (has s x) refl (within s xs small.1) differ.0 (λ k. alone s xs differ.1 small.1 k) h

-- a train that is found without another is found with it
kept-by : (b : Bool) (n m : ℕ) (x train : Train) (xs : List Train) → is_numbered n x ≡ b → ((m ≡ n) → ⊥) → (train_numbered (scene_of (without_in xs n)) m ≡ Some train → train_numbered (scene_of xs) m ≡ Some train)
    → train_numbered (scene_of (cond (not b) (x ∷ without_in xs n) (without_in xs n))) m ≡ Some train → cond (is_numbered m x) (Some x) (train_numbered (scene_of xs) m) ≡ Some train
kept-by true n m x train xs e apart rest h =
    let other : is_numbered m x ≡ false = differs x.report.train n m (eqb-true x.report.train n e) apart in
    ap (λ b. cond b (Some x) (train_numbered (scene_of xs) m)) other ∙ rest h
  where
    differs : (a n m : ℕ) → a ≡ n → ((m ≡ n) → ⊥) → (a == m) ≡ false
    differs a n m e h = grind (arith, e, h)
kept-by false n m x train xs e apart rest h = on (is_numbered m x) h
  where
    on : (c : Bool) → cond c (Some x) (train_numbered (scene_of (without_in xs n)) m) ≡ Some train → cond c (Some x) (train_numbered (scene_of xs) m) ≡ Some train
    on true k = k
    on false k = rest k

pub found_with : (n m : ℕ) (train : Train) (xs : List Train) → ((m ≡ n) → ⊥) → train_numbered (scene_of (without_in xs n)) m ≡ Some train → train_numbered (scene_of xs) m ≡ Some train
found_with n m train [] apart h = h
found_with n m train (x ∷ xs) apart h = kept-by (is_numbered n x) n m x train xs refl apart (λ k. found_with n m train xs apart k) h

-- none that is left has the number
left-by : (b : Bool) (n : ℕ) (x : Train) (xs : List Train) → is_numbered n x ≡ b → AllByRecursion (λ t. (t.report.train ≡ n) → ⊥) xs → AllByRecursion (λ t. (t.report.train ≡ n) → ⊥) (cond (not b) (x ∷ xs) xs)
left-by true n x xs e h = h
left-by false n x xs e h = ((λ same. apart x.report.train n e same), h)
  where
    apart : (a n : ℕ) → (a == n) ≡ false → a ≡ n → ⊥
    apart a n e same = grind (arith, e, same)

pub left-apart : (n : ℕ) (xs : List Train) → AllByRecursion (λ t. (t.report.train ≡ n) → ⊥) (without_in xs n)
left-apart n [] = tt
left-apart n (x ∷ xs) = left-by (is_numbered n x) n x (without_in xs n) refl (left-apart n xs)

-- the one other train, found by its number
pub alone-found : (s n : ℕ) (xs : List Train) → EachPair Differ xs → SmallNumbers xs → (a : IsAlone s (without_in xs n)) → train_numbered (scene_of xs) (number_in a.train) ≡ Some a.train
alone-found s n xs differ small a =
    found_with n (number_in a.train) a.train xs (find-holds (λ t. (t.report.train ≡ n) → ⊥) (is_numbered (number_in a.train)) (without_in xs n) a.train a.there (left-apart n xs)) a.there

-- ---- of one train at most

-- a tally of one train at most, and the tally without a train of this number: it is nobody's where the numbers are the same
pub record IsOnly (n : ℕ) (t r : Tally) : Type 0 where
  pub same : t.numbers ≡ n → r ≡ nobody
  pub other : ((t.numbers ≡ n) → ⊥) → r ≡ t

empty_is : (count : ℕ) (r : Tally) → IsWithin count r → r.trains ≡ 0 → r ≡ nobody
empty_is count r w h =
    let below = w.numbers in
    let zero : r.numbers ≡ 0 = omega (arith, h, below) in
    λ i. record { trains = h i; numbers = zero i }

only-by : (b : Bool) (n count : ℕ) (t r : Tally) → t ≡ cond b (with_one n r) r → t.trains ≤ 1 → IsWithin count r → (r.trains ≡ 1 → r.numbers ≡ n → ⊥) → IsOnly n t r
only-by true n count t r e few w apart =
    let trains = ap (λ (x : Tally). x.trains) e in
    let numbers = ap (λ (x : Tally). x.numbers) e in
    let below = w.numbers in
    let none : r.trains ≡ 0 = omega (arith, few, trains) in
    record { same = λ h. empty_is count r w none; other = λ h. absurd (h (omega (arith, numbers, none, below))) }
only-by false n count t r e few w apart = record {
  same = λ h. by (either r.trains (subst (λ (x : Tally). x.trains ≤ 1) e few)) (sym (ap (λ (x : Tally). x.numbers) e) ∙ h);
  other = λ h. sym e;
}
  where
    either : (k : ℕ) → k ≤ 1 → (k ≡ 0) ⊎ (k ≡ 1)
    either zero h = inl refl
    either (suc zero) h = inr refl
    either (suc (suc k)) h = absurd (omega (arith, h))

    by : (r.trains ≡ 0) ⊎ (r.trains ≡ 1) → r.numbers ≡ n → r ≡ nobody
    by (inl none) h = empty_is count r w none
    by (inr one) h = absurd (apart one h)

-- ---- nobody stands where nobody has the section

stands-by : (b : Bool) (track : Track) (s : ℕ) (x : Train) (xs : List Train) (t : Tally) → has s x ≡ b → (t.trains ≡ 0 → find (stands_on track s) xs ≡ None) → (cond b (with_one (number_in x) t) t).trains ≡ 0
    → cond (stands_on track s x) (Some x) (find (stands_on track s) xs) ≡ None
stands-by true track s x xs t e rest h = absurd (omega (arith, h))
stands-by false track s x xs t e rest h = ap (λ b. cond b (Some x) (find (stands_on track s) xs)) (stands_on-lacks track s x e) ∙ rest h

pub none_stands : (track : Track) (s : ℕ) (xs : List Train) → (tally_of s xs).trains ≡ 0 → find (stands_on track s) xs ≡ None
none_stands track s [] h = refl
none_stands track s (x ∷ xs) h = stands-by (has s x) track s x xs (tally_of s xs) refl (none_stands track s xs) h

-- ---- of the entries of a book

length-on : (track : Track) (xs : List Train) → length (map (on_track track) xs) ≡ length xs
length-on track xs = length-map xs (on_track track)

module _ (track : Track) (book : Book) (es : List (ℕ × TrainOnTrack)) (is : book_of track es ≡ book) (are : AreEntries track es) (tallies : List Tally) (present : ArePresent track (trains_of es) tallies) where
  trains_are : trains_of es ≡ book.trains
  trains_are = ap (λ (b : Book). b.trains) is

  all_differ : EachPair Differ book.trains
  all_differ = subst (EachPair Differ) trains_are (differ track es are)

  here : ArePresent track book.trains tallies
  here = subst (λ l. ArePresent track l tallies) trains_are present

  -- what is left of a tally without a train is the tally of the others
  pub but : (n s : ℕ) (o : Option TrainOnTrack) → o ≡ lookup (nat_eq n) es → tally_less o s (tally_at tallies s) ≡ tally_of s (without_in book.trains n)
  but n s o h =
      let p = here in
      ap (λ x. tally_less x s (tally_at tallies s)) (h ∙ got track book es is are n)
      ∙ ap (tally_less (option_map (on_track book.track) (train_in book n)) s) (p.each s)
      ∙ tally_less-without book.track n s book.trains all_differ

  pub nobody_stands : (s : ℕ) (t : Tally) → t ≡ tally_at tallies s → t.trains ≡ 0 → None ≡ option_map number_in (find (stands_on book.track s) book.trains)
  nobody_stands s t of h =
      let p = here in
      sym (ap (option_map number_in) (none_stands book.track s book.trains (ap (λ (x : Tally). x.trains) (sym (of ∙ p.each s)) ∙ h)))

  pub sized : length tallies ≡ length book.track.sections
  sized = present.as_many ∙ ap (λ (b : Book). length b.track.sections) is

  -- ---- a train put in

  pub room : (train : Train) (n : ℕ) (o : Option TrainOnTrack) → n ≡ train.report.train → o ≡ lookup (nat_eq n) es → (train_in book train.report.train ≡ None → length book.trains < MOST_TRAINS)
      → (s : ℕ) → HasRoom (tally_less o s (tally_at tallies s))
  room train n o same h free s =
      let p = here in
      subst HasRoom (sym (but n s o h ∙ ap (λ k. tally_of s (without_in book.trains k)) same)) (room_for book.track book.trains train all_differ p.few p.numbers free s)

  pub with_present : (train : Train) (n : ℕ) (o : Option TrainOnTrack) (fs : List (ℕ × TrainOnTrack)) (new : List Tally) → n ≡ train.report.train → o ≡ lookup (nat_eq n) es → train.report.train ≤ LAST_TRAIN
      → (train_in book train.report.train ≡ None → length book.trains < MOST_TRAINS) → AreThoseOf track (book_with book train) fs → length new ≡ length tallies
      → ((s : ℕ) → tally_at new s ≡ tally_with train s (tally_less o s (tally_at tallies s))) → ArePresent track (trains_of fs) new
  with_present train n o fs new same h small free those size now =
      let p = here in
      subst (λ l. ArePresent track l new) (sym (ap (λ (b : Book). b.trains) those.of_book))
      (present-with track book.trains train all_differ p.few p.numbers tallies new free small (size ∙ p.as_many) p.each
      (λ s. now s ∙ ap (λ x. tally_with train s (tally_less x s (tally_at tallies s))) (h ∙ got track book es is are n ∙ ap (λ k. option_map (on_track book.track) (train_in book k)) same ∙ moved (train_in book train.report.train))))
    where
      moved : (o : Option Train) → option_map (on_track book.track) o ≡ option_map (on_track track) o
      moved o = ap (λ (b : Book). option_map (on_track b.track) o) (sym is)

  -- a train that is there is not new, and its number not too great
  not_new : (n : ℕ) (x : TrainOnTrack) (after : Train) → Some x ≡ lookup (nat_eq n) es → after.report.train ≡ n → train_in book after.report.train ≡ None → length book.trains < MOST_TRAINS
  not_new n x after h same none = let f = found track book es is are n x h in absurd (both x.train (sym f.there ∙ ap (train_in book) (sym same) ∙ none))
    where
      both : (train : Train) → Some train ≡ None → ⊥
      both train e = cc

  small : (n : ℕ) (x : TrainOnTrack) → Some x ≡ lookup (nat_eq n) es → n ≤ LAST_TRAIN
  small n x h =
      let p = here in
      let f = found track book es is are n x h in
      subst (λ k. k ≤ LAST_TRAIN) (sym f.numbered) (find-holds (λ train. number_in train ≤ LAST_TRAIN) (is_numbered n) book.trains x.train f.there p.numbers)

  -- a train that stays on its line is counted as it was
  pub kept_present : (n : ℕ) (x : TrainOnTrack) (after : Train) (fs : List (ℕ × TrainOnTrack)) → Some x ≡ lookup (nat_eq n) es → after.report.train ≡ n → after.line ≡ x.train.line
      → AreThoseOf track (book_with book after) fs → ArePresent track (trains_of fs) tallies
  kept_present n x after fs there same line those =
      let p = here in
      let f = found track book es is are n x there in
      let w = are_without n book.trains all_differ in
      let lines = sym line in
      let numbers = sym f.numbered ∙ sym same in
      with_present after n (Some x) fs tallies (sym same) there (subst (λ k. k ≤ LAST_TRAIN) (sym same) (small n x there)) (not_new n x after there same) those refl
      (λ s.
      let t = tally_of s (without_in book.trains n) in
      p.each s ∙ w.tallies s ∙ ap (λ o. tally_more o s t) f.there ∙ (λ j. cond (has_section (lines j) s) (with_one (numbers j) t) t)
      ∙ ap (tally_with after s) (sym (but n s (Some x) there)))

  -- a train that is counted no more as it was, and then as it is after it
  module _ (n : ℕ) (x : TrainOnTrack) (after : Train) (mid : List Tally) (there : Some x ≡ lookup (nat_eq n) es) (same : after.report.train ≡ n)
      (out : (s : ℕ) → tally_at mid s ≡ tally_without x.train s (tally_at tallies s)) where
    pub recounted-room : (s : ℕ) → HasRoom (tally_at mid s)
    recounted-room s = subst HasRoom (sym (out s)) (room after n (Some x) (sym same) there (not_new n x after there same) s)

    pub recounted_present : (fs : List (ℕ × TrainOnTrack)) (new : List Tally) → AreThoseOf track (book_with book after) fs → length mid ≡ length tallies → length new ≡ length mid
        → ((s : ℕ) → tally_at new s ≡ tally_with after s (tally_at mid s)) → ArePresent track (trains_of fs) new
    recounted_present fs new those size size_after now =
        with_present after n (Some x) fs new (sym same) there (subst (λ k. k ≤ LAST_TRAIN) (sym same) (small n x there)) (not_new n x after there same) those (size_after ∙ size)
        (λ s. now s ∙ ap (tally_with after s) (out s))

  -- ---- a train taken out

  pub without_present : (n : ℕ) (x : TrainOnTrack) (fs : List (ℕ × TrainOnTrack)) (new : List Tally) → Some x ≡ lookup (nat_eq n) es → AreThoseOf track (book_without book n) fs → length new ≡ length tallies
      → ((s : ℕ) → tally_at new s ≡ tally_without x.train s (tally_at tallies s)) → ArePresent track (trains_of fs) new
  without_present n x fs new h those size now =
      let p = here in
      let f = found track book es is are n x h in
      subst (λ l. ArePresent track l new) (sym (ap (λ (b : Book). b.trains) those.of_book))
      (present-without track book.trains n (Some x.train) tallies new all_differ here f.there size now)

  -- ---- of one train at most

  not_n : (n s : ℕ) → (tally_of s (without_in book.trains n)).trains ≡ 1 → (tally_of s (without_in book.trains n)).numbers ≡ n → ⊥
  not_n n s one h =
      let p = here in
      let a = alone s (without_in book.trains n) (pairs_filter Differ (λ other. not (other.report.train == n)) book.trains all_differ)
      (each_filter (λ train. number_in train ≤ LAST_TRAIN) (λ other. not (other.report.train == n)) book.trains p.numbers) one in
      find-holds (λ t. (t.report.train ≡ n) → ⊥) (is_numbered (number_in a.train)) (without_in book.trains n) a.train a.there (left-apart n book.trains) (sym a.number ∙ h)

  only-of : (n s : ℕ) (o : Option Train) → train_in book n ≡ o → (t : Tally) → t ≡ tally_at tallies s → t.trains ≤ 1 → IsOnly n t (tally_of s (without_in book.trains n))
  only-of n s None found t is_t few =
      let p = here in
      let w = are_without n book.trains all_differ in
      only-by false n (length (without_in book.trains n)) t (tally_of s (without_in book.trains n)) (is_t ∙ p.each s ∙ w.tallies s ∙ ap (λ o. tally_more o s (tally_of s (without_in book.trains n))) found) few
      (within s (without_in book.trains n) (each_filter (λ train. number_in train ≤ LAST_TRAIN) (λ other. not (other.report.train == n)) book.trains p.numbers)) (not_n n s)
  only-of n s (Some y) found t is_t few =
      let p = here in
      let w = are_without n book.trains all_differ in
      let numbered : number_in y ≡ n = eqb-true y.report.train n (find-passes (is_numbered n) book.trains y found) in
      only-by (has s y) n (length (without_in book.trains n)) t (tally_of s (without_in book.trains n))
      (is_t ∙ p.each s ∙ w.tallies s ∙ ap (λ o. tally_more o s (tally_of s (without_in book.trains n))) found
      ∙ ap (λ k. cond (has s y) (with_one k (tally_of s (without_in book.trains n))) (tally_of s (without_in book.trains n))) numbered)
      few (within s (without_in book.trains n) (each_filter (λ train. number_in train ≤ LAST_TRAIN) (λ other. not (other.report.train == n)) book.trains p.numbers)) (not_n n s)

  pub only : (n s : ℕ) (t : Tally) → t ≡ tally_at tallies s → t.trains ≤ 1 → IsOnly n t (tally_of s (without_in book.trains n))
  only n s t is_t few = only-of n s (train_in book n) refl t is_t few

  -- ---- the others along a section

  module _ (n s : ℕ) (t : Tally) (of : t ≡ tally_of s (without_in book.trains n)) where
    pub none_else : t.trains ≡ 0 → map (on_track book.track) (others_along book n s) ≡ []
    none_else h = ap (map (on_track book.track)) (nil_from_length (others_along book n s) (sym (tally_of-count s (without_in book.trains n)) ∙ ap (λ (x : Tally). x.trains) (sym of) ∙ h))

    the_one : t.trains ≡ 1 → IsAlone s (without_in book.trains n)
    the_one h =
        let p = here in
        alone s (without_in book.trains n) (pairs_filter Differ (λ other. not (other.report.train == n)) book.trains all_differ)
        (each_filter (λ train. number_in train ≤ LAST_TRAIN) (λ other. not (other.report.train == n)) book.trains p.numbers) (ap (λ (x : Tally). x.trains) (sym of) ∙ h)

    pub one_there : t.trains ≡ 1 → (a : IsAlone s (without_in book.trains n)) × (lookup (nat_eq t.numbers) es ≡ Some (on_track book.track a.train))
    one_there h =
        let p = here in
        let a = the_one h in (
          a,
          got track book es is are t.numbers
              ∙ ap (λ k. option_map (on_track book.track) (train_in book k)) (ap (λ (x : Tally). x.numbers) of ∙ a.number)
              ∙ ap (option_map (on_track book.track)) (alone-found s n book.trains all_differ p.numbers a),
        )

    pub one_else : t.trains ≡ 1 → (x : TrainOnTrack) → Some x ≡ lookup (nat_eq t.numbers) es → map (on_track book.track) (others_along book n s) ≡ x ∷ []
    one_else h x found =
        let r = one_there h in
        let a = r.0 in
        ap (map (on_track book.track)) a.is ∙ ap (λ y. y ∷ []) (sym (the_some x (on_track book.track a.train) (found ∙ r.1)))

    pub small_sum : t.trains ≡ 1 → t.numbers ≤ LAST_TRAIN
    small_sum h =
        let p = here in
        let w = subst (IsWithin (length (without_in book.trains n))) (sym of)
        (within s (without_in book.trains n) (each_filter (λ train. number_in train ≤ LAST_TRAIN) (λ other. not (other.report.train == n)) book.trains p.numbers)) in
        let below = w.numbers in
        omega (arith, h, below)

    pub two_else : 1 < t.trains → 2 ≤ length (map (on_track book.track) (others_along book n s))
    two_else h =
        let e = length-on book.track (others_along book n s) in
        let c = tally_of-count s (without_in book.trains n) in
        let d = ap (λ (x : Tally). x.trains) of in
        omega (arith, h)
