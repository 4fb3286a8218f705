-- Scenes stay good, change by change, and each change is the definition's.
use Rattle.std.proofs.Common.{◌≡◌, ℕ, Bool, true, false, cond, List, [], ◌∷◌, Option, Some, None, Result, Ok, Err, Bor, refl, sym, ap, ◌∙◌, subst, ◌+◌, ◌<◌, ◌≤◌, ◌&&◌, nat_lt, nat_le}
use Rattle.std.specs.Prelude.{is_some, ◌==◌, is_none, find, not, option_map, slice_set, IfSome}
use Rattle.std.specs.Option.{option_copied, option_map_or}
use Rattle.std.proofs.lemmas.Bool.{leb-true, ltb-true}
use Rattle.std.specs.Result.{result_err, result_map_both}
use Rattle.rbc_model.specs.declared.refusals.Refusal.{Refusal}
use Rattle.rbc_model.specs.declared.refusals.Refusal.TheVariants.{Busy, Crowded, NotLocked, UnknownGroup, UnknownTrain, YieldRange}
use Rattle.rbc_model.specs.declared.reports.Told.{Told}
use Rattle.rbc_model.specs.declared.reports.Told.TheVariants.{Report as ToldReport, Lock as ToldLock, Free as ToldFree, Leave as ToldLeave, GiveBack as ToldGiveBack}
use Rattle.rbc_model.specs.Results.{unless}
use Rattle.rbc_model.specs.Tracks.{Track, group_named}
use Rattle.rbc_model.specs.SoundTracks.{IsSound}
use Rattle.rbc_model.specs.Reports.{Report}
use Rattle.rbc_model.specs.Trains.{Train}
use Rattle.rbc_model.specs.Locks.{Locks, no_locks, row, locked, freed}
use Rattle.rbc_model.specs.Placing.{reported}
use Rattle.rbc_model.specs.Scenes.{Scene, train_numbered}
use Rattle.rbc_model.specs.Events.{after_free, after_give_back, after_leave, after_lock, after_report, after_told, cut_at, stands_on, with_locks, with_train, without_train}
use Rattle.rbc_model.specs.Histories.{AuthoritiesAreApart}
use Rattle.rbc_scene_laws.specs.Good.{IsGoodScene}
use Rattle.rbc_scene_laws.proofs.BasicLemmas.{and_left, and_right, the_some}
use Rattle.rbc_scene_laws.proofs.FreeingLemmas.{good_after_free}
use Rattle.rbc_scene_laws.proofs.GivingBackLemmas.{good_after_give_back}
use Rattle.rbc_scene_laws.proofs.KeptLemmas.{good_empty_scene}
use Rattle.rbc_scene_laws.proofs.LeavingLemmas.{good_without_train}
use Rattle.rbc_scene_laws.proofs.LockingLemmas.{good_after_lock}
use Rattle.rbc_scene_laws.proofs.ReportingLemmas.{good_after_report}
use Rattle.rbc_search.specs.Changes.{ChangesAs}
use Rattle.rbc_search.specs.TrainsOnTracks.{TrainOnTrack}
use Rattle.rbc_search.specs.Books.{Book, HoldsOfTrain, book_with, book_without, scene_of, train_in}
use Rattle.rbc_search.specs.Entries.{on_track}
use Rattle.rbc_scene.specs.ScenesOnTracks.{SceneOnTrack, IsKept, scene_on}
use Rattle.rbc_scene.specs.Steps.{StepsTo, end_cut, end_given_back, is_crowded, told_at_once}

-- the scene's empty start
pub kept_empty : (track : Track) (locks : Locks) (book : Book) → locks ≡ no_locks track → book ≡ record { track = track; trains = [] } → IsSound track → IsKept (scene_on locks book)
kept_empty track locks book l b sound =
    subst IsKept (sym (λ j. scene_on (l j) (b j))) (record { sound = sound; good = good_empty_scene track })

-- ---- locks change

module _ (locks : Locks) (book : Book) (kept : IsKept (scene_on locks book)) where
  abbrev scene : Scene
  scene = record { locks = locks; trains = book.trains }

  pub kept_lock : (new : Locks) (track : Track) (route : ℕ) (result : Result (Unit {0}) Refusal) → track ≡ book.track → ChangesAs result locks new (locked track locks route) → IsKept (scene_on new book)
  kept_lock new track route (Ok x) e h = record {
    sound = kept.sound;
    good = good_after_lock book.track scene (with_locks scene new) route kept.sound (ap (result_map_both (with_locks scene) (λ r. r)) (ap (λ t. locked t locks route) (sym e) ∙ h)) kept.good;
  }
  kept_lock new track route (Err refusal) e h = subst (λ l. IsKept (scene_on l book)) (sym h.1) kept

  free_by : (b : Bool) (section : ℕ) (o : Option Train) (free : Result Scene Refusal) → o ≡ None → cond b (unless (option_map (λ (train : Train). Busy section train.report.train) o) free) free ≡ free
  free_by true section None free e = refl
  free_by false section None free e = refl
  free_by b section (Some train) free e = cc

  pub kept_free : (new : Locks) (section : ℕ) (result : Result (Unit {0}) Refusal) → find (stands_on book.track section) book.trains ≡ None → ChangesAs result locks new (freed locks section) → IsKept (scene_on new book)
  kept_free new section (Ok x) idle h = record {
    sound = kept.sound;
    good =
        good_after_free book.track scene (with_locks scene new) section
        (free_by (is_some (row locks section)) section (find (stands_on book.track section) book.trains) (result_map_both (with_locks scene) (λ r. r) (freed locks section)) idle ∙ ap (result_map_both (with_locks scene) (λ r. r)) h)
        kept.good;
  }
  kept_free new section (Err refusal) idle h = subst (λ l. IsKept (scene_on l book)) (sym h.1) kept

  -- whether its row goes, or it has none
  abbrev going : Bool → ℕ → Result Scene Refusal
  going b section =
      let rows : Result Locks Refusal = cond b (Ok (slice_set locks section None)) (Err (NotLocked section)) in
      result_map_both (with_locks scene) (λ r. r) rows

  idle_by : (b : Bool) (section : ℕ) (o : Option Train) → result_err (cond b (unless (option_map (λ (train : Train). Busy section train.report.train) o) (going b section)) (going b section)) ≡ None → o ≡ None
  idle_by true section None h = refl
  idle_by true section (Some train) h = cc
  idle_by false section None h = refl
  idle_by false section (Some train) h = cc

  -- nobody stands on a section that can be freed
  pub idle : (now : SceneOnTrack) → scene_on locks book ≡ now → (section : ℕ) (told : Option Refusal) → told ≡ result_err (after_free now.track now.scene section) → told ≡ None → find (stands_on book.track section) book.trains ≡ None
  idle now is section told h none =
      idle_by (is_some (row locks section)) section (find (stands_on book.track section) book.trains)
      (ap (λ (s : SceneOnTrack). result_err (after_free s.track s.scene section)) is ∙ sym h ∙ none)

  -- ---- a train leaves

  pub kept_left : (new : Book) (number : ℕ) → new ≡ book_without book number → IsKept (scene_on locks new)
  kept_left new number e = subst (λ b. IsKept (scene_on locks b)) (sym e) (record { sound = kept.sound; good = good_without_train book.track scene number kept.good })

-- a train that is not there leaves none behind
stay_by : (b : Bool) (x : Train) (o : Option Train) (xs fs : List Train) → is_some (cond b (Some x) o) ≡ false → (is_some o ≡ false → fs ≡ xs) → cond (not b) (x ∷ fs) fs ≡ x ∷ xs
stay_by true x o xs fs h rest = cc
stay_by false x o xs fs h rest = ap (λ l. x ∷ l) (rest h)

all_stay : (trains : List Train) (number : ℕ) → is_some (train_numbered (scene_of trains) number) ≡ false → (without_train (scene_of trains) number).trains ≡ trains
all_stay [] number h = refl
all_stay (x ∷ xs) number h = stay_by (x.report.train == number) x (train_numbered (scene_of xs) number) xs (without_train (scene_of xs) number).trains h (λ e. all_stay xs number e)

module _ (locks : Locks) (book new : Book) (number : ℕ) (now : SceneOnTrack) (is : scene_on locks book ≡ now) (left : new ≡ book_without book number) where
  abbrev Says : Result (Unit {0}) Refusal → SceneOnTrack → Type 0
  Says result s = StepsTo result s (scene_on locks new) (after_leave s.scene number)

  pub left_known : (result : Result (Unit {0}) Refusal) → is_some (train_in book number) ≡ true → result ≡ Ok tt → StepsTo result now (scene_on locks new) (after_leave now.scene number)
  left_known result known e =
      subst (λ r. Says r now) (sym e)
      (subst (Says (Ok tt)) is (
        ap (λ b. cond b (Ok (without_train (record { locks = locks; trains = book.trains }) number)) (Err (UnknownTrain number))) known
            ∙ ap (λ (b : Book). Ok (record { locks = locks; trains = b.trains })) (sym left),
        ap (λ (b : Book). b.track) left,
      ))

  pub left_unknown : (result : Result (Unit {0}) Refusal) → is_some (train_in book number) ≡ false → result ≡ Err (UnknownTrain number) → StepsTo result now (scene_on locks new) (after_leave now.scene number)
  left_unknown result unknown e =
      subst (λ r. Says r now) (sym e)
      (subst (Says (Err (UnknownTrain number))) is (
        ap (λ b. cond b (Ok (without_train (record { locks = locks; trains = book.trains }) number)) (Err (UnknownTrain number))) unknown,
        ap (scene_on locks) (left ∙ ap (λ ts. record { track = book.track; trains = ts }) (all_stay book.trains number unknown)),
      ))

-- ---- a train reports

module _ (locks : Locks) (book : Book) (now : SceneOnTrack) (is : scene_on locks book ≡ now) (kept : IsKept (scene_on locks book)) (report : Report) (train : Train) (room : is_crowded now.scene report ≡ false)
    (h : reported now.track now.scene.locks (train_numbered now.scene report.train) report ≡ Ok train) where
  stepped : after_report now.track now.scene report ≡ Ok (with_train now.scene train)
  stepped =
      ap (λ b. cond b (Err Crowded) (result_map_both (with_train now.scene) (λ (r : Refusal). r) (reported now.track now.scene.locks (train_numbered now.scene report.train) report))) room
      ∙ ap (result_map_both (with_train now.scene) (λ (r : Refusal). r)) h

  kept_now : IsKept now
  kept_now = subst IsKept is kept

  good_then : IsGoodScene now.track (with_train now.scene train)
  good_then = let k = kept_now in good_after_report now.track now.scene (with_train now.scene train) report k.sound stepped k.good

  pub apart_then : AuthoritiesAreApart book.track (with_train (scene_of book.trains) train)
  apart_then = let g = good_then in subst (λ (s : SceneOnTrack). AuthoritiesAreApart s.track (with_train s.scene train)) (sym is) g.apart

  pub kept_placed : (new : Book) → new ≡ book_with book train → IsKept (scene_on locks new)
  kept_placed new e =
      let k = kept_now in
      subst (λ b. IsKept (scene_on locks b)) (sym e)
      (subst (λ (s : SceneOnTrack). IsKept (record { track = s.track; scene = with_train s.scene train })) (sym is) (record { sound = k.sound; good = good_then }))

  pub steps_placed : (new : Book) → new ≡ book_with book train → (after_report now.track now.scene report ≡ Ok (record { locks = locks; trains = new.trains })) × (new.track ≡ now.track)
  steps_placed new e = (
    stepped ∙ ap (λ (s : SceneOnTrack). Ok (with_train s.scene train)) (sym is) ∙ ap (λ (b : Book). Ok (record { locks = locks; trains = b.trains })) (sym e),
    ap (λ (b : Book). b.track) e ∙ ap (λ (s : SceneOnTrack). s.track) is,
  )

-- the train that a book shows is the definition's
pub known_as : (o : Option (Bor TrainOnTrack)) (track : Track) (p : Option Train) → option_copied o ≡ option_map (on_track track) p → option_map (λ (t : Bor TrainOnTrack). t.now.train) o ≡ p
known_as None track None h = refl
known_as None track (Some x) h = cc
known_as (Some t) track None h = cc
known_as (Some t) track (Some x) h = ap Some (ap (λ (k : TrainOnTrack). k.train) (the_some t.now (on_track track x) h))

-- ---- a train gives back the end of its authority

-- the train of this number may give back what its authority has from this place on
pub record GivesBack (track : Track) (scene : Scene) (number distance to : ℕ) : Type 0 where
  pub train : Train
  pub there : train_numbered scene number ≡ Some train
  pub short : to < train.to
  pub front : train.front ≤ to
  pub from : train.from ≤ to
  pub steps : after_give_back track scene number distance ≡ Ok (with_train scene (cut_at track train to))

module _ (track : Track) (scene : Scene) (number distance : ℕ) where
  gives_by : (train : Train) (to : ℕ) (b : Bool) → train_numbered scene number ≡ Some train → (nat_lt (train.origin + distance) train.to && nat_le train.front (train.origin + distance) && nat_le train.from (train.origin + distance)) ≡ b
      → option_map_or (λ (t : ℕ). let r : Result ℕ Refusal = Ok t in r) (cond b (Some (train.origin + distance)) None) (Err (YieldRange number)) ≡ Ok to → GivesBack track scene number distance to
  gives_by train to false there test h = cc
  gives_by train to true there test h =
      let at : train.origin + distance ≡ to = cc in
      let both = and_left (nat_lt (train.origin + distance) train.to && nat_le train.front (train.origin + distance)) (nat_le train.from (train.origin + distance)) test in
      subst (GivesBack track scene number distance) at (record {
        train = train;
        there = there;
        short = ltb-true (train.origin + distance) train.to (and_left (nat_lt (train.origin + distance) train.to) (nat_le train.front (train.origin + distance)) both);
        front = leb-true train.front (train.origin + distance) (and_right (nat_lt (train.origin + distance) train.to) (nat_le train.front (train.origin + distance)) both);
        from = leb-true train.from (train.origin + distance) (and_right (nat_lt (train.origin + distance) train.to && nat_le train.front (train.origin + distance)) (nat_le train.from (train.origin + distance)) test);
        steps = ap (λ o. option_map_or given o (Err (UnknownTrain number))) there ∙ ap (λ b. cond b (Ok (with_train scene (cut_at track train (train.origin + distance)))) (Err (YieldRange number))) test;
      })
    where
      given : Train → Result Scene Refusal
      given t = cond (nat_lt (t.origin + distance) t.to && nat_le t.front (t.origin + distance) && nat_le t.from (t.origin + distance)) (Ok (with_train scene (cut_at track t (t.origin + distance)))) (Err (YieldRange number))

  gives_of : (o : Option Train) (to : ℕ) → train_numbered scene number ≡ o
      → option_map_or (λ (train : Train). option_map_or (λ (t : ℕ). let r : Result ℕ Refusal = Ok t in r) (end_cut train distance) (Err (YieldRange number))) o (Err (UnknownTrain number)) ≡ Ok to → GivesBack track scene number distance to
  gives_of None to e h = cc
  gives_of (Some train) to e h = gives_by train to (nat_lt (train.origin + distance) train.to && nat_le train.front (train.origin + distance) && nat_le train.from (train.origin + distance)) e refl h

  pub gives_back : (to : ℕ) → end_given_back scene number distance ≡ Ok to → GivesBack track scene number distance to
  gives_back to h = gives_of (train_numbered scene number) to refl h

module _ (locks : Locks) (book : Book) (now : SceneOnTrack) (is : scene_on locks book ≡ now) (kept : IsKept (scene_on locks book)) (number distance to : ℕ) (h : end_given_back now.scene number distance ≡ Ok to) where
  given : GivesBack now.track now.scene number distance to
  given = gives_back now.track now.scene number distance to h

  abbrev the_train : GivesBack now.track now.scene number distance to → Train
  the_train g = g.train

  abbrev Cut : SceneOnTrack → Train → SceneOnTrack
  Cut s train = record { track = s.track; scene = with_train s.scene (cut_at s.track train to) }

  good_cut : IsGoodScene now.track (with_train now.scene (cut_at now.track (the_train given) to))
  good_cut =
      let g = given in
      let k = subst IsKept is kept in
      good_after_give_back now.track now.scene (with_train now.scene (cut_at now.track g.train to)) number distance g.steps k.good

  module _ (new : Book) (placed : HoldsOfTrain book number (λ train. new ≡ book_with book (cut_at book.track train to))) where
    as_cut : new ≡ book_with book (cut_at book.track (the_train given) to)
    as_cut = let g = given in placed g.train (ap (λ (s : SceneOnTrack). train_numbered s.scene number) is ∙ g.there)

    pub kept_cut : IsKept (scene_on locks new)
    kept_cut =
        let g = given in
        let k = subst IsKept is kept in
        subst (λ b. IsKept (scene_on locks b)) (sym as_cut) (subst (λ (s : SceneOnTrack). IsKept (Cut s g.train)) (sym is) (record { sound = k.sound; good = good_cut }))

    pub steps_cut : (after_give_back now.track now.scene number distance ≡ Ok (record { locks = locks; trains = new.trains })) × (new.track ≡ now.track)
    steps_cut =
        let g = given in (
          g.steps ∙ ap (λ (s : SceneOnTrack). Ok (with_train s.scene (cut_at s.track g.train to))) (sym is) ∙ ap (λ (b : Book). Ok (record { locks = locks; trains = b.trains })) (sym as_cut),
          ap (λ (b : Book). b.track) as_cut ∙ ap (λ (s : SceneOnTrack). s.track) is,
        )

-- ---- what is refused at once

unknown_group : (track : Track) (locks : Locks) (known : Option Train) (report : Report) → group_named track report.group ≡ None → reported track locks known report ≡ Err UnknownGroup
unknown_group track locks known report none = rw none refl

refused-err : (answer : Result Scene Refusal) → IfSome (result_err answer) (λ refusal. answer ≡ Err refusal)
refused-err (Ok _) = tt
refused-err (Err refusal) = refl

crowded-else : {G : Type 0} (crowded : Bool) (group : Option G) (answer : Result Scene Refusal) → (group ≡ None → answer ≡ Err UnknownGroup)
    → IfSome (cond crowded (Some Crowded) (cond (is_none group) (Some UnknownGroup) None)) (λ refusal. cond crowded (Err Crowded) answer ≡ Err refusal)
crowded-else true group answer h = refl
crowded-else false None answer h = h refl
crowded-else false (Some group) answer h = tt

-- what is refused at once is refused as the definition says
pub refuses_at_once : (track : Track) (scene : Scene) (told : Told) → IfSome (told_at_once track scene told) (λ refusal. after_told track scene told ≡ Err refusal)
refuses_at_once track scene (ToldReport report) =
    crowded-else (is_crowded scene report) (group_named track report.group)
    (result_map_both (with_train scene) (λ (r : Refusal). r) (reported track scene.locks (train_numbered scene report.train) report))
    (λ none. ap (result_map_both (with_train scene) (λ (r : Refusal). r)) (unknown_group track scene.locks (train_numbered scene report.train) report none))
refuses_at_once track scene (ToldLock route) = refused-err (after_lock track scene route)
refuses_at_once track scene (ToldFree section) = refused-err (after_free track scene section)
refuses_at_once track scene (ToldLeave train) = refused-err (after_leave scene train)
refuses_at_once track scene (ToldGiveBack train distance) = refused-err (after_give_back track scene train distance)
