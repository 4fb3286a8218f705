-- What trains have of a section: of one train leg by leg, and of all by those that have the section on their lines.
use Rattle.std.proofs.Common.{◌≡◌, ℕ, ◌+◌, ◌<◌, Bool, true, false, cond, List, [], ◌∷◌, ◌++◌, drop, filter, get_or, length, map, subst, take, ap, refl, sym, ◌∙◌}
use Rattle.std.specs.Prelude.{◌==◌, not}
use Rattle.std.proofs.lemmas.Bool.{eqb-true, not-true}
use Rattle.std.proofs.lemmas.List.{append-nil, drop_more, take-append-drop}
use mathlib.Core.List.{map-map, map-id}
use Rattle.rbc_model.specs.declared.places.Leg.{Leg}
use Rattle.rbc_model.specs.Lines.{IsLine, Line, has_section}
use Rattle.rbc_model.specs.SoundTracks.{sections_differ}
use Rattle.rbc_model.specs.Tracks.{Track, metres_of}
use Rattle.rbc_model.specs.Trains.{Train}
use Rattle.rbc_scene_laws.proofs.BasicLemmas.{and_left}
use Rattle.rbc_scene_laws.proofs.OnLineLemmas.{OnLine-IsLine, differ_right}
use Rattle.rbc_book.specs.Entries.{on_track}
use Rattle.rbc_book.specs.TrainsOnTracks.{TrainOnTrack}
use Rattle.rbc_search.specs.declared.stretches.Stretch.{Stretch}
use Rattle.rbc_search.specs.Stretches.{stretch_of, stretches_along, stretches_of}
use Rattle.rbc_search.proofs.LegLemmas.{none_along}

-- ---- of one train, from a leg of its line on

module _ (track : Track) (train : Train) (section q : ℕ) (legs : Line) (i : ℕ) (leg : Leg) (within : i < length legs) (is : leg ≡ get_or legs i leg) where
  abbrev rest : Line
  rest = drop (i + 1) legs

  parts : drop i legs ≡ leg ∷ rest
  parts = drop_more legs i leg within ∙ ap (λ l. l ∷ rest) (sym is)

  abbrev after : List Stretch
  after = stretches_along track train section (q + metres_of track leg.section) rest

  lacks_rest : IsLine track legs → has_section rest leg.section ≡ false
  lacks_rest line =
      let on = OnLine-IsLine track legs line in
      let later : sections_differ (leg ∷ rest) ≡ true = differ_right (take i legs) (leg ∷ rest) (subst (λ l. sections_differ l ≡ true) (sym (take-append-drop i legs) ∙ ap (λ l. take i legs ++ l) parts) on.differ) in
      not-true (has_section rest leg.section) (and_left (not (has_section rest leg.section)) (sections_differ rest) later)

  pub along_here : IsLine track legs → (leg.section == section) ≡ true → stretches_along track train section q (drop i legs) ≡ stretch_of track train q leg ∷ []
  along_here line e =
      ap (stretches_along track train section q) parts ∙ ap (λ b. cond b (stretch_of track train q leg ∷ after) after) e
      ∙ ap (λ l. stretch_of track train q leg ∷ l)
      (none_along track train section (q + metres_of track leg.section) rest (subst (λ s. has_section rest s ≡ false) (eqb-true leg.section section e) (lacks_rest line)))

-- ---- of all trains

-- those that lack the section have nothing of it
kept-by : (b : Bool) (track : Track) (section : ℕ) (train : Train) (xs : List Train) → has_section train.line section ≡ b → stretches_of track xs section ≡ stretches_of track (filter (λ (t : Train). has_section t.line section) xs) section
    → stretches_of track (train ∷ xs) section ≡ stretches_of track (cond b (train ∷ filter (λ (t : Train). has_section t.line section) xs) (filter (λ (t : Train). has_section t.line section) xs)) section
kept-by true track section train xs e rest = ap (λ l. stretches_along track train section 0 train.line ++ l) rest
kept-by false track section train xs e rest = ap (λ l. l ++ stretches_of track xs section) (none_along track train section 0 train.line e) ∙ rest

pub stretches_of-filter : (track : Track) (section : ℕ) (trains : List Train) → stretches_of track trains section ≡ stretches_of track (filter (λ (t : Train). has_section t.line section) trains) section
stretches_of-filter track section [] = refl
stretches_of-filter track section (train ∷ trains) = kept-by (has_section train.line section) track section train trains refl (stretches_of-filter track section trains)

-- the trains of a list of trains on a track
pub off_track : (track : Track) (xs : List Train) → map (λ (t : TrainOnTrack). t.train) (map (on_track track) xs) ≡ xs
off_track track xs = map-map (λ (t : TrainOnTrack). t.train) (on_track track) xs ∙ map-id xs

module _ (track : Track) (section : ℕ) (trains : List Train) where
  abbrev along : List Train
  along = filter (λ (t : Train). has_section t.line section) trains

  pub none_has : map (on_track track) along ≡ [] → stretches_of track trains section ≡ []
  none_has h =
      stretches_of-filter track section trains
      ∙ ap (λ l. stretches_of track l section) (sym (off_track track along) ∙ ap (map (λ (t : TrainOnTrack). t.train)) h)

  pub one_has : (one : TrainOnTrack) → map (on_track track) along ≡ one ∷ [] → stretches_of track trains section ≡ stretches_along track one.train section 0 one.train.line
  one_has one h =
      stretches_of-filter track section trains
      ∙ ap (λ l. stretches_of track l section) (sym (off_track track along) ∙ ap (map (λ (t : TrainOnTrack). t.train)) h)
      ∙ append-nil (stretches_along track one.train section 0 one.train.line)

  pub one_track : (one : TrainOnTrack) → map (on_track track) along ≡ one ∷ [] → one.track ≡ track
  one_track one h = first along h
    where
      first : (xs : List Train) → map (on_track track) xs ≡ one ∷ [] → one.track ≡ track
      first [] e = cc
      first (x ∷ xs) e = sym (ap (λ (t : TrainOnTrack). t.track) (heads (on_track track x) one (map (on_track track) xs) e))
        where
          heads : (a b : TrainOnTrack) (l : List TrainOnTrack) → a ∷ l ≡ b ∷ [] → a ≡ b
          heads a b l e = cc
