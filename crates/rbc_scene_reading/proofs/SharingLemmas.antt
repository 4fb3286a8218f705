-- Which train holds a metre with another, by those that have the section on their lines.
use Rattle.std.proofs.Common.{◌≡◌, ℕ, ◌+◌, Bool, true, false, not, cond, List, [], ◌∷◌, map, Some, None, refl, sym, ap, ◌∙◌, subst, arith}
use Rattle.std.specs.Prelude.{◌==◌, find, filter, option_map}
use Rattle.std.specs.List.{AllByRecursion}
use Rattle.std.proofs.lemmas.Bool.{both_ways, or_parts}
use Rattle.rbc_model.specs.declared.places.Direction.TheVariants.{Rising}
use Rattle.rbc_model.specs.Lines.{Line, has_section}
use Rattle.rbc_model.specs.Tracks.{Track, metres_of}
use Rattle.rbc_model.specs.Trains.{Train}
use Rattle.rbc_reach_laws.specs.Spans.{leg_span}
use Rattle.rbc_scene_laws.proofs.TrainListLemmas.{find-none}
use Rattle.rbc_good_laws.specs.Tests.{hold_both, meet, offsets_held}
use Rattle.rbc_scene.specs.Books.{Book, number_in, train_in}
use Rattle.rbc_scene.specs.Entries.{number_on, on_track}
use Rattle.rbc_scene.specs.Presence.{others_along}
use Rattle.rbc_scene.specs.TrainsOnTracks.{TrainOnTrack}
use Rattle.rbc_scene_reading.specs.Reading.{first_sharing}
use Rattle.rbc_scene_reading.specs.Spans.{shares}

-- ---- all trains

pub all_sharing : (track : Track) (section : ℕ) (train : Train) (trains : List Train) → option_map number_on (find (shares track section train) (map (on_track track) trains)) ≡ first_sharing track trains train section
all_sharing track section train [] = refl
all_sharing track section train (other ∷ trains) = by_test (hold_both track section train other) (all_sharing track section train trains)
  where
    by_test : (t : Bool) → option_map number_on (find (shares track section train) (map (on_track track) trains)) ≡ first_sharing track trains train section
        → option_map number_on (cond t (Some (on_track track other)) (find (shares track section train) (map (on_track track) trains)))
        ≡ option_map (λ (o : Train). o.report.train) (cond t (Some other) (find (hold_both track section train) trains))
    by_test true h = refl
    by_test false h = h

-- ---- those that have the section on their lines

found_among : {X : Type 0} (keep test : X → Bool) (xs : List X) → AllByRecursion (λ x. test x ≡ true → keep x ≡ true) xs → find test (filter keep xs) ≡ find test xs
found_among keep test [] each = refl
found_among keep test (x ∷ xs) each = by_tests (keep x) (test x) refl each.0 (found_among keep test xs each.1)
  where
    by_tests : (k t : Bool) → test x ≡ t → (t ≡ true → k ≡ true) → find test (filter keep xs) ≡ find test xs → find test (cond k (x ∷ filter keep xs) (filter keep xs)) ≡ cond t (Some x) (find test xs)
    by_tests true true e f h = ap (λ b. cond b (Some x) (find test (filter keep xs))) e
    by_tests true false e f h = ap (λ b. cond b (Some x) (find test (filter keep xs))) e ∙ h
    by_tests false true e f h = absurd (let never : false ≡ true = f refl in let no : ⊥ = cc in no)
    by_tests false false e f h = h

-- a train holds nothing of a section that its line has not
nothing_held : (track : Track) (section q a b : ℕ) (line : Line) → has_section line section ≡ false → leg_span track (record { section = section; direction = Rising }) q a b line ≡ (0, 0)
nothing_held track section q a b [] h = refl
nothing_held track section q a b (leg ∷ line) h =
    let parts = or_parts (leg.section == section) (has_section line section) h in
    rw parts.0 (nothing_held track section (q + metres_of track leg.section) a b line parts.1)

has_it : (track : Track) (section : ℕ) (train other : Train) → hold_both track section train other ≡ true → has_section other.line section ≡ true
has_it track section train other h = by_line (has_section other.line section) refl
  where
    never_met : (a : ℕ × ℕ) → meet a (0, 0) ≡ false
    never_met a = grind arith

    by_line : (t : Bool) → has_section other.line section ≡ t → t ≡ true
    by_line true e = refl
    by_line false e =
        let none : hold_both track section train other ≡ false = ap (meet (offsets_held track section train)) (nothing_held track section 0 other.from other.to other.line e) ∙ never_met (offsets_held track section train) in
        absurd (both_ways (hold_both track section train other) none h)

each_has : (track : Track) (section : ℕ) (train : Train) (trains : List Train) → AllByRecursion (λ other. hold_both track section train other ≡ true → has_section other.line section ≡ true) trains
each_has track section train [] = tt
each_has track section train (other ∷ trains) = (has_it track section train other, each_has track section train trains)

each_other : (test : Train → Bool) (number : ℕ) (trains : List Train) → AllByRecursion (λ (other : Train). (number_in other == number) ≡ false) trains
    → AllByRecursion (λ other. test other ≡ true → not (number_in other == number) ≡ true) trains
each_other test number [] each = tt
each_other test number (other ∷ trains) each = ((λ e. ap not each.0), each_other test number trains each.1)

module _ (book : Book) (train : Train) (section : ℕ) (new : train_in book train.report.train ≡ None) where
  abbrev others : List Train
  others = others_along book train.report.train section

  -- the first of all is the first of those that have the section
  sharing_along : first_sharing book.track others train section ≡ first_sharing book.track book.trains train section
  sharing_along =
      let test = hold_both book.track section train in
      let unlike = λ (other : Train). not (number_in other == train.report.train) in
      ap (option_map (λ (other : Train). other.report.train))
      (found_among (λ other. has_section other.line section) test (filter unlike book.trains) (each_has book.track section train (filter unlike book.trains))
      ∙ found_among unlike test book.trains (each_other test train.report.train book.trains (find-none (λ (other : Train). number_in other == train.report.train) book.trains new)))

  pub nobody_along : map (on_track book.track) others ≡ [] → first_sharing book.track book.trains train section ≡ None
  nobody_along none = sym sharing_along ∙ by_others others none
    where
      by_others : (trains : List Train) → map (on_track book.track) trains ≡ [] → first_sharing book.track trains train section ≡ None
      by_others [] e = refl
      by_others (other ∷ trains) e = absurd (let never : ⊥ = cc in never)

  pub one_along : (other : TrainOnTrack) → map (on_track book.track) others ≡ other ∷ []
      → first_sharing book.track book.trains train section ≡ cond (shares book.track section train other) (Some (number_on other)) None
  one_along other one = sym sharing_along ∙ by_others others one
    where
      by_test : (t : Bool) (first : Train) → option_map (λ (o : Train). o.report.train) (cond t (Some first) None) ≡ cond t (Some first.report.train) None
      by_test true first = refl
      by_test false first = refl

      by_others : (trains : List Train) → map (on_track book.track) trains ≡ other ∷ [] → first_sharing book.track trains train section ≡ cond (shares book.track section train other) (Some (number_on other)) None
      by_others [] e = absurd (let never : ⊥ = cc in never)
      by_others (first ∷ []) e =
          let same : on_track book.track first ≡ other = cc in
          subst (λ (o : TrainOnTrack). first_sharing book.track (first ∷ []) train section ≡ cond (shares book.track section train o) (Some (number_on o)) None) same
          (by_test (hold_both book.track section train first) first)
      by_others (first ∷ second ∷ trains) e = absurd (let never : ⊥ = cc in never)
