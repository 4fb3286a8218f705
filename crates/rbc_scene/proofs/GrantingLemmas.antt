-- Grants: the line that a grant continues, and the scene after it.
use Rattle.std.proofs.Common.{◌≡◌, ℕ, ◌+◌, ◌-◌, ◌<◌, ◌≤◌, max, Bool, true, false, cond, ◌&&◌, List, [], ◌∷◌, ◌++◌, length, take, drop, Option, Some, None, Result, Ok, Err, Bor, refl, sym, ap, ◌∙◌, subst, arith, inl, inr}
use Rattle.std.specs.Prelude.{is_ok, is_some, ◌==◌, find, map, option_map, ℤ, pos, IfOk, nat_lt}
use Rattle.std.specs.Option.{option_copied, option_map_or}
use Rattle.std.specs.List.{AllByRecursion}
use Rattle.std.proofs.lemmas.Bool.{eqb-true}
use Rattle.std.proofs.lemmas.List.{take_at, take-append-drop}
use Rattle.std.proofs.lemmas.List.Elements.{recursion_from_All}
use Rattle.rbc_model.specs.declared.limits.TheConstants.{FARTHEST_END_IN_TENS}
use Rattle.rbc_model.specs.declared.places.Format.{Format}
use Rattle.rbc_model.specs.declared.places.Format.TheVariants.{Near, Far}
use Rattle.rbc_model.specs.declared.refusals.Obstacle.{Obstacle}
use Rattle.rbc_model.specs.declared.refusals.Refusal.{Refusal}
use Rattle.rbc_model.specs.declared.refusals.Refusal.TheVariants.{NotSafe, UnknownTrain}
use Rattle.rbc_model.specs.Events.{after_grant, line_to, with_authority, with_train}
use Rattle.rbc_model.specs.Histories.{AuthoritiesAreApart}
use Rattle.rbc_model.specs.Lines.{IsLine, Line, legs_begun_before, line_length}
use Rattle.rbc_model.specs.Locks.{Locks}
use Rattle.rbc_model.specs.Obstacles.{way}
use Rattle.rbc_model.specs.Scales.{farthest, is_expressible}
use Rattle.rbc_model.specs.Scenes.{Scene, train_numbered}
use Rattle.rbc_model.specs.Tracks.{Track, metres_of}
use Rattle.rbc_model.specs.Trains.{Train}
use Rattle.rbc_model.specs.Views.{is_expressible_end, is_safe, reach, start_of, stop}
use Rattle.rbc_model.proofs.EndLemmas.{IsSafe-is_safe}
use Rattle.rbc_model.proofs.ScaleLemmas.{expressible_near_enough}
use Rattle.rbc_model.proofs.ScanLemmas.{le_or_lt}
use Rattle.rbc_scene_laws.specs.Good.{IsGoodLocks, IsGoodScene, IsGoodTrain}
use Rattle.rbc_scene_laws.proofs.BasicLemmas.{and_left, and_right, the_some}
use Rattle.rbc_scene_laws.proofs.GrantingLemmas.{good_after_grant}
use Rattle.rbc_scene_laws.proofs.LengtheningLemmas.{ahead_fully}
use Rattle.rbc_scene_laws.proofs.OnLineLemmas.{IsLine-OnLine, OnLine, OnLine-IsLine, OnLine-left}
use Rattle.rbc_reach_laws.proofs.ShownLemmas.{legs_shown}
use Rattle.rbc_search.specs.OnTracks.{LineOnTrack}
use Rattle.rbc_search.specs.TrainsOnTracks.{TrainOnTrack}
use Rattle.rbc_search.specs.Books.{Book, HoldsOfTrain, book_with, scene_of, train_in}
use Rattle.rbc_search.specs.Entries.{on_track}
use Rattle.rbc_search.specs.Reaches.{BeginsWay}
use Rattle.rbc_scene.specs.declared.granting.GrantedLine.{GrantedLine}
use Rattle.rbc_scene.specs.Grants.{granted_train}
use Rattle.rbc_scene.specs.ScenesOnTracks.{SceneOnTrack, IsKept, scene_on}
use Rattle.rbc_scene.specs.Steps.{LeadTo, reach_of}
use Rattle.rbc_model.proofs.BasicLemmas.{if_in, if_past, find-passes}
use Rattle.rbc_model.proofs.MetreLemmas.{line_length-cons}

-- ---- the line that is continued

module _ (track : Track) where
  -- the legs that begin before a place of a line are legs of it
  begun_within : (line rest : Line) (to : ℕ) → to ≤ line_length track line → legs_begun_before track to (line ++ rest) ≤ length line
  begun_within [] [] to h = omega arith
  begun_within [] (leg ∷ rest) to h =
      let e : legs_begun_before track to (leg ∷ rest) ≡ 0 = if_past (1 + legs_begun_before track (to - metres_of track leg.section) rest) 0 0 to (omega arith) in
      omega arith
  begun_within (leg ∷ line) rest to h =
      let m = metres_of track leg.section in
      elim (le_or_lt to 0) [
        | inl none ↦
            let e : legs_begun_before track to (leg ∷ (line ++ rest)) ≡ 0 = if_past (1 + legs_begun_before track (to - m) (line ++ rest)) 0 0 to none in
            omega arith
        | inr some ↦
            let ih = begun_within line rest (to - m) (omega (arith, line_length-cons track leg line)) in
            let e : legs_begun_before track to (leg ∷ (line ++ rest)) ≡ 1 + legs_begun_before track (to - m) (line ++ rest) = if_in (1 + legs_begun_before track (to - m) (line ++ rest)) 0 0 to some in
            omega arith
      ]

  -- and all its legs begin before a place behind it
  begun_past : (line rest : Line) (to : ℕ) → line_length track line < to → length line ≤ legs_begun_before track to (line ++ rest)
  begun_past [] rest to h = omega arith
  begun_past (leg ∷ line) rest to h =
      let m = metres_of track leg.section in
      let long = line_length-cons track leg line in
      let ih = begun_past line rest (to - m) (omega arith) in
      let e : legs_begun_before track to (leg ∷ (line ++ rest)) ≡ 1 + legs_begun_before track (to - m) (line ++ rest) = if_in (1 + legs_begun_before track (to - m) (line ++ rest)) 0 0 to (omega arith) in
      omega arith

  pub some_begun : (line : Line) (to : ℕ) → 0 < length line → 0 < to → 0 < legs_begun_before track to line
  some_begun [] to h k = absurd (omega arith)
  some_begun (leg ∷ line) to h k =
      let e : legs_begun_before track to (leg ∷ line) ≡ 1 + legs_begun_before track (to - metres_of track leg.section) line = if_in (1 + legs_begun_before track (to - metres_of track leg.section) line) 0 0 to k in
      omega arith

  near_by : (way line rest : Line) (to : ℕ) → way ≡ line ++ rest → to ≤ line_length track line → line ≡ take (max (length line) (legs_begun_before track to way)) way
  near_by way line rest to is h =
      let within = begun_within line rest to h in
      sym (
      ap (λ (w : Line). take (max (length line) (legs_begun_before track to w)) w) is
      ∙ ap (λ n. take n (line ++ rest)) (let e : max (length line) (legs_begun_before track to (line ++ rest)) ≡ length line = omega arith in e)
      ∙ take_at line rest (length line) refl
      )

  far_by : (way line rest longer : Line) (to : ℕ) → way ≡ line ++ rest → longer ≡ take (length longer) way → line_length track line < to → to ≤ line_length track longer
      → take (legs_begun_before track to longer) longer ≡ take (max (length line) (legs_begun_before track to way)) way
  far_by way line rest longer to is begins past on =
      let more : length line ≤ legs_begun_before track to way = subst (λ (w : Line). length line ≤ legs_begun_before track to w) (sym is) (begun_past line rest to past) in
      let enough : max (length line) (legs_begun_before track to way) ≡ legs_begun_before track to way = omega arith in
      let parts : way ≡ longer ++ drop (length longer) way = sym (take-append-drop (length longer) way) ∙ ap (λ (l : Line). l ++ drop (length longer) way) (sym begins) in
      sym (
      ap (λ n. take n way) enough
      ∙ ap (λ (w : Line). take (legs_begun_before track to w) w) parts
      ∙ legs_shown track longer (drop (length longer) way) to on
      )

  module _ (scene : Scene) (train : Train) (to : ℕ) (locks : IsGoodLocks track scene.locks) (good : IsGoodTrain track train) where
    -- a place on the train's line needs no more legs
    pub line_to-near : to ≤ line_length track train.line → train.line ≡ line_to track scene train to
    line_to-near h =
        let a = ahead_fully track scene.locks locks (length track.sections) train.line (OnLine-IsLine track train.line good.line) in
        near_by (way track scene train) train.line a.more to a.is h

    -- one behind it needs those that begin before it, and a line that reaches it has them
    pub line_to-far : (longer : Line) → BeginsWay track scene train longer → line_length track train.line < to → to ≤ line_length track longer
        → take (legs_begun_before track to longer) longer ≡ line_to track scene train to
    line_to-far longer begins past on =
        let a = ahead_fully track scene.locks locks (length track.sections) train.line (OnLine-IsLine track train.line good.line) in
        far_by (way track scene train) train.line a.more longer to a.is begins past on

  -- legs that the way begins with are a line
  pub begins_line : (scene : Scene) (train : Train) (legs : Line) → IsGoodLocks track scene.locks → IsGoodTrain track train → BeginsWay track scene train legs → 0 < length legs → IsLine track legs
  begins_line scene train legs locks good begins some =
      let a = ahead_fully track scene.locks locks (length track.sections) train.line (OnLine-IsLine track train.line good.line) in
      let rest = drop (length legs) (way track scene train) in
      let parts : way track scene train ≡ legs ++ rest = sym (take-append-drop (length legs) (way track scene train)) ∙ ap (λ (l : Line). l ++ rest) (sym begins) in
      IsLine-OnLine track legs (OnLine-left track legs rest some (subst (OnLine track) parts a.on))

  some_legs : (legs : Line) (to : ℕ) → 0 < to → to ≤ line_length track legs → 0 < length legs
  some_legs [] to h on = absurd (omega arith)
  some_legs (leg ∷ legs) to h on = omega arith

-- ---- whether it is granted

module _ (track : Track) (scene : Scene) (train : Train) (distance : ℕ) where
  passed : (b : Bool) (x : Train) → b ≡ true → (let r : Result Train Refusal = cond b (Ok x) (Err NotSafe) in r) ≡ Ok x
  passed true x h = refl
  passed false x h = cc

  abbrev test : Bool
  test = is_safe track scene train (train.origin + distance) && is_expressible_end track train (train.origin + distance)

  abbrev granted : Train
  granted = with_authority train (line_to track scene train (train.origin + distance)) (start_of train) (train.origin + distance)

  pub safe : (b : Bool) (line : Line) (from to : ℕ) → b ≡ test → b ≡ true → line ≡ line_to track scene train (train.origin + distance) → from ≡ start_of train → to ≡ train.origin + distance
      → granted_train track scene train distance ≡ Ok (with_authority train line from to)
  safe b line from to is h legs start end =
      passed test granted (sym is ∙ h) ∙ sym (λ j. Ok (with_authority train (legs j) (start j) (end j)))

-- a safe end lies beyond the front
pub some_metres : (track : Track) (scene : Scene) (train : Train) (end : ℕ) → (is_safe track scene train end && is_expressible_end track train end) ≡ true → 0 < end
some_metres track scene train end h =
    let safe = IsSafe-is_safe track scene train end (and_left (is_safe track scene train end) (is_expressible_end track train end) h) in
    let beyond = safe.beyond_front in
    omega arith

-- ---- the scene after

the_there : (o : Option Train) → is_some o ≡ true → (train : Train) × (o ≡ Some train)
the_there None h = cc
the_there (Some train) h = (train, refl)

lifted : (scene : Scene) (b : Bool) (t x : Train) → (let r : Result Train Refusal = cond b (Ok t) (Err NotSafe) in r) ≡ Ok x → (let r : Result Scene Refusal = cond b (Ok (with_train scene t)) (Err NotSafe) in r) ≡ Ok (with_train scene x)
lifted scene true t x h = let e : t ≡ x = cc in ap (λ (y : Train). Ok (with_train scene y)) e
lifted scene false t x h = cc

module _ (track : Track) (scene : Scene) (number distance : ℕ) where
  abbrev grant : Train → Result Scene Refusal
  grant train =
      cond (is_safe track scene train (train.origin + distance) && is_expressible_end track train (train.origin + distance))
      (Ok (with_train scene (with_authority train (line_to track scene train (train.origin + distance)) (start_of train) (train.origin + distance)))) (Err NotSafe)

  abbrev granting : Option Train → Result Scene Refusal
  granting o = option_map_or grant o (Err (UnknownTrain number))

  pub after : (train x : Train) → train_numbered scene number ≡ Some train → granted_train track scene train distance ≡ Ok x → after_grant track scene number distance ≡ Ok (with_train scene x)
  after train x there h =
      ap granting there
      ∙ lifted scene (is_safe track scene train (train.origin + distance) && is_expressible_end track train (train.origin + distance))
      (with_authority train (line_to track scene train (train.origin + distance)) (start_of train) (train.origin + distance)) x h

  known_if : (o : Option Train) → is_ok (granting o) ≡ true → is_some o ≡ true
  known_if None h = cc
  known_if (Some train) h = refl

  -- a grant that is accepted is one to a train that is there
  pub is_known : is_ok (after_grant track scene number distance) ≡ true → is_some (train_numbered scene number) ≡ true
  is_known h = known_if (train_numbered scene number) h

  passes : (b : Bool) (s : Scene) → is_ok (cond b (Ok s) (Err NotSafe)) ≡ true → b ≡ true
  passes true s h = refl
  passes false s h = cc

  -- up to a safe end that a message can give
  pub is_accepted : (train : Train) → train_numbered scene number ≡ Some train → is_ok (after_grant track scene number distance) ≡ true
      → (is_safe track scene train (train.origin + distance) && is_expressible_end track train (train.origin + distance)) ≡ true
  is_accepted train there h =
      passes (is_safe track scene train (train.origin + distance) && is_expressible_end track train (train.origin + distance))
      (with_train scene (with_authority train (line_to track scene train (train.origin + distance)) (start_of train) (train.origin + distance)))
      (ap (λ o. is_ok (granting o)) (sym there) ∙ h)

-- the train that is put in is one of the scene's
put_in : (P : Train → Type 0) (n : ℕ) (t : Train) (xs : List Train) (known : Train) → find (λ (x : Train). x.report.train == n) xs ≡ Some known → n ≡ t.report.train
    → AllByRecursion P (map (λ (x : Train). cond (x.report.train == t.report.train) t x) xs) → P t
put_in P n t [] known there same all = cc
put_in P n t (x ∷ xs) known there same all = by (x.report.train == n) refl there all.0 (λ h. put_in P n t xs known h same all.1)
  where
    by : (b : Bool) → (x.report.train == n) ≡ b → cond b (Some x) (find (λ (y : Train). y.report.train == n) xs) ≡ Some known → P (cond (x.report.train == t.report.train) t x)
        → (find (λ (y : Train). y.report.train == n) xs ≡ Some known → P t) → P t
    by true e h here later = subst (λ b. P (cond b t x)) (ap (λ m. x.report.train == m) (sym same) ∙ e) here
    by false e h here later = later h

module _ (locks : Locks) (book : Book) (now : SceneOnTrack) (is : scene_on locks book ≡ now) (kept : IsKept (scene_on locks book)) (number distance : ℕ) (legs : Train → Line) (from to : ℕ)
    (says : (train : Train) → train_numbered now.scene number ≡ Some train → granted_train now.track now.scene train distance ≡ Ok (with_authority train (legs train) from to)) where
  abbrev put : Train → Train
  put train = with_authority train (legs train) from to

  good_then : (train : Train) → train_numbered now.scene number ≡ Some train → IsGoodScene now.track (with_train now.scene (put train))
  good_then train there =
      let k = subst IsKept is kept in
      good_after_grant now.track now.scene (with_train now.scene (put train)) number distance (after now.track now.scene number distance train (put train) there (says train there)) k.good

  in_book : (train : Train) → train_in book number ≡ Some train → train_numbered now.scene number ≡ Some train
  in_book train there = ap (λ (s : SceneOnTrack). train_numbered s.scene number) (sym is) ∙ there

  pub good_put : HoldsOfTrain book number (λ train. IsGoodTrain book.track (put train))
  good_put train there =
      let e = in_book train there in
      let good = good_then train e in
      let same : train.report.train ≡ number = eqb-true train.report.train number (find-passes (λ (x : Train). x.report.train == number) now.scene.trains train e) in
      let known : is_some (train_numbered now.scene train.report.train) ≡ true = ap (λ n. is_some (train_numbered now.scene n)) same ∙ ap is_some e in
      let all = recursion_from_All (IsGoodTrain now.track) (with_train now.scene (put train)).trains good.trains in
      subst (λ (s : SceneOnTrack). IsGoodTrain s.track (put train)) (sym is)
      (put_in (IsGoodTrain now.track) number (put train) now.scene.trains train e (sym same)
      (subst (λ b. AllByRecursion (IsGoodTrain now.track) (cond b (map (λ (x : Train). cond (x.report.train == train.report.train) (put train) x) now.scene.trains) (now.scene.trains ++ put train ∷ []))) known all))

  pub apart_put : HoldsOfTrain book number (λ train. AuthoritiesAreApart book.track (with_train (scene_of book.trains) (put train)))
  apart_put train there =
      let good = good_then train (in_book train there) in
      subst (λ (s : SceneOnTrack). AuthoritiesAreApart s.track (with_train s.scene (put train))) (sym is) good.apart

  abbrev Put : SceneOnTrack → Train → SceneOnTrack
  Put s train = record { track = s.track; scene = with_train s.scene (put train) }

  module _ (new : Book) (known : is_some (train_numbered now.scene number) ≡ true) (placed : HoldsOfTrain book number (λ train. new ≡ book_with book (put train))) where
    the : (train : Train) × (train_numbered now.scene number ≡ Some train)
    the = the_there (train_numbered now.scene number) known

    as_put : new ≡ book_with book (put the.0)
    as_put = placed the.0 (ap (λ (s : SceneOnTrack). train_numbered s.scene number) is ∙ the.1)

    pub kept_put : IsKept (scene_on locks new)
    kept_put =
        let k = subst IsKept is kept in
        subst (λ b. IsKept (scene_on locks b)) (sym as_put) (subst (λ (s : SceneOnTrack). IsKept (Put s the.0)) (sym is) (record { sound = k.sound; good = good_then the.0 the.1 }))

    pub steps_put : (after_grant now.track now.scene number distance ≡ Ok (record { locks = locks; trains = new.trains })) × (new.track ≡ now.track)
    steps_put = (
      after now.track now.scene number distance the.0 (put the.0) the.1 (says the.0 the.1)
          ∙ ap (λ (s : SceneOnTrack). Ok (with_train s.scene (put the.0))) (sym is) ∙ ap (λ (b : Book). Ok (record { locks = locks; trains = b.trains })) (sym as_put),
      ap (λ (b : Book). b.track) as_put ∙ ap (λ (s : SceneOnTrack). s.track) is,
    )

-- ---- the train that a book shows

-- it is on the book's track, and the definition's
pub record IsFound (book : Book) (number : ℕ) (known : TrainOnTrack) : Type 0 where
  pub track : known.track ≡ book.track
  pub there : train_in book number ≡ Some known.train

found_by : (book : Book) (number : ℕ) (p : Option Train) → train_in book number ≡ p → (o : Option (Bor TrainOnTrack)) → option_copied o ≡ option_map (on_track book.track) p
    → (known : Bor TrainOnTrack) → o ≡ Some known → IsFound book number known.now
found_by book number p e None h known k = cc
found_by book number None e (Some t) h known k = cc
found_by book number (Some x) e (Some t) h known k =
    let same : t.now ≡ on_track book.track x = the_some t.now (on_track book.track x) h in
    subst (λ (z : Bor TrainOnTrack). IsFound book number z.now) (the_some t known k) (record {
      track = ap (λ (z : TrainOnTrack). z.track) same;
      there = e ∙ ap (λ (z : TrainOnTrack). Some z.train) (sym same);
    })

pub found : (book : Book) (number : ℕ) (o : Option (Bor TrainOnTrack)) → option_copied o ≡ option_map (on_track book.track) (train_in book number) → (known : Bor TrainOnTrack) → o ≡ Some known → IsFound book number known.now
found book number o h known k = found_by book number (train_in book number) refl o h known k

-- a train that is there
pub known_by : {G E : Type 0} (o : Option Train) (x : G) (e : E) → (o ≡ None → (let r : Result G E = Ok x in r) ≡ Err e) → is_some o ≡ true
known_by None x e h = let z = h refl in cc
known_by (Some train) x e h = refl

-- ---- what the search tells

module _ (locks : Locks) (book : Book) (now : SceneOnTrack) (is : scene_on locks book ≡ now) (number : ℕ) (known : TrainOnTrack) (f : IsFound book number known) where
  pub reach_of-found : (o : Obstacle) (place : ℕ) (at : ℤ) → o ≡ stop book.track (scene_on locks book).scene known.train → place ≡ reach book.track (scene_on locks book).scene known.train → at ≡ pos place
      → reach_of now.track now.scene number ≡ Ok (o, at)
  reach_of-found o place at stops reaches e =
      ap (λ (s : SceneOnTrack). reach_of s.track s.scene number) (sym is)
      ∙ ap (λ (t : Option Train). option_map_or (λ (train : Train). let r : Result (Obstacle × ℤ) Refusal = Ok (stop book.track (scene_on locks book).scene train, pos (reach book.track (scene_on locks book).scene train)) in r) t (Err (UnknownTrain number))) f.there
      ∙ sym (λ j. Ok (stops j, (e ∙ ap pos reaches) j))

-- ---- on the line that the train has

module _ (track : Track) (scene : Scene) (number distance : ℕ) (train : Train) (there : train_numbered scene number ≡ Some train) (locks : IsGoodLocks track scene.locks) (good : IsGoodTrain track train)
    (accepted : is_ok (after_grant track scene number distance) ≡ true) (from to : ℕ) where
  on_line : from ≡ start_of train → to ≡ train.origin + distance → to ≤ line_length track train.line
      → (known : Train) → train_numbered scene number ≡ Some known → granted_train track scene known distance ≡ Ok (with_authority known known.line from to)
  on_line start end within known same =
      subst (λ (k : Train). granted_train track scene k distance ≡ Ok (with_authority k k.line from to)) (the_some train known (sym there ∙ same))
      (safe track scene train distance (is_safe track scene train (train.origin + distance) && is_expressible_end track train (train.origin + distance)) train.line from to refl
      (is_accepted track scene number distance train there accepted)
      (line_to-near track scene train (train.origin + distance) locks good (subst (λ n. n ≤ line_length track train.line) end within)) start end)

module _ (locks : Locks) (book : Book) (now : SceneOnTrack) (is : scene_on locks book ≡ now) (kept : IsKept (scene_on locks book)) (number distance : ℕ) (known : TrainOnTrack)
    (f : IsFound book number known) (accepted : is_ok (after_grant now.track now.scene number distance) ≡ true) where
  pub on_line_book : IsGoodTrain known.track known.train → (from to : ℕ) → from ≡ start_of known.train → to ≡ known.train.origin + distance → to ≤ line_length known.track known.train.line
      → (train : Train) → train_numbered now.scene number ≡ Some train → granted_train now.track now.scene train distance ≡ Ok (with_authority train train.line from to)
  on_line_book good from to start end within =
      let k = kept in
      subst (λ (s : SceneOnTrack). (train : Train) → train_numbered s.scene number ≡ Some train → granted_train s.track s.scene train distance ≡ Ok (with_authority train train.line from to)) is
      (on_line book.track (scene_on locks book).scene number distance known.train f.there k.good.locks (subst (λ (t : Track). IsGoodTrain t known.train) f.track good)
      (subst (λ (s : SceneOnTrack). is_ok (after_grant s.track s.scene number distance) ≡ true) (sym is) accepted) from to start end
      (subst (λ (t : Track). to ≤ line_length t known.train.line) f.track within))

-- ---- beyond it

absent_by : (track : Track) (o : Option Train) → None ≡ option_map (on_track track) o → o ≡ None
absent_by track None h = refl
absent_by track (Some train) h = cc

-- a book that has no train of this number
pub absent : (book : Book) (number : ℕ) (o : Option (Bor TrainOnTrack)) → option_copied o ≡ option_map (on_track book.track) (train_in book number) → o ≡ None → train_in book number ≡ None
absent book number o h none = absent_by book.track (train_in book number) (ap option_copied (sym none) ∙ h)

both_ways : (o : Option Train) (train : Train) → o ≡ None → o ≡ Some train → ⊥
both_ways None train h k = cc
both_ways (Some t) train h k = cc

module _ (locks : Locks) (book : Book) (now : SceneOnTrack) (is : scene_on locks book ≡ now) (number distance : ℕ) where
  abbrev Beyond : Train → Type 0
  Beyond train = line_length now.track train.line < train.origin + distance

  pub beyond_none : train_in book number ≡ None → (train : Train) → train_numbered now.scene number ≡ Some train → Beyond train
  beyond_none none train same = absurd (both_ways (train_in book number) train none (ap (λ (s : SceneOnTrack). train_numbered s.scene number) is ∙ same))

  pub beyond_book : (known : TrainOnTrack) → IsFound book number known → line_length known.track known.train.line < known.train.origin + distance
      → (train : Train) → train_numbered now.scene number ≡ Some train → Beyond train
  beyond_book known f beyond =
      subst (λ (s : SceneOnTrack). (train : Train) → train_numbered s.scene number ≡ Some train → line_length s.track train.line < train.origin + distance) is
      (λ train same.
      subst (λ (k : Train). line_length book.track k.line < k.origin + distance) (the_some known.train train (sym f.there ∙ same))
      (subst (λ (t : Track). line_length t known.train.line < known.train.origin + distance) f.track beyond))

-- ---- along legs that are known

-- the legs are a line, and the end lies on it
pub record IsAlong (track : Track) (train : Train) (distance : ℕ) (legs : Line) : Type 0 where
  pub line : IsLine track legs
  pub near : distance ≤ FARTHEST_END_IN_TENS
  pub some : 0 < train.origin + distance
  pub on_line : train.origin + distance ≤ line_length track legs

farthest_most : (format : Format) → farthest format ≤ FARTHEST_END_IN_TENS
farthest_most Near = omega arith
farthest_most Far = omega arith

pub is_along : (track : Track) (scene : Scene) (number distance : ℕ) (legs : Line) (train : Train) → train_numbered scene number ≡ Some train → IsGoodLocks track scene.locks → IsGoodTrain track train
    → is_ok (after_grant track scene number distance) ≡ true → LeadTo track scene number distance legs → IsAlong track train distance legs
is_along track scene number distance legs train there locks good accepted lead =
    let to = train.origin + distance in
    let test = is_accepted track scene number distance train there accepted in
    let some = some_metres track scene train to test in
    let told = and_right (is_safe track scene train to) (is_expressible_end track train to) test in
    let near = expressible_near_enough track.format (to - train.origin) (and_right (nat_lt train.origin to) (is_expressible track.format (to - train.origin)) told) in
    let along = lead train there in
    record {
      line = begins_line track scene train legs locks good along.0 (some_legs track legs to some along.1);
      near = omega (arith, farthest_most track.format);
      some = some;
      on_line = along.1;
    }

-- what is granted along them is the definition's
pub says_along : {E : Type 0} (track : Track) (scene : Scene) (number distance : ℕ) (train : Train) → train_numbered scene number ≡ Some train → is_ok (after_grant track scene number distance) ≡ true
    → (r : Result GrantedLine E) → IfOk r (λ g. g.line.legs ≡ line_to track scene train (train.origin + distance)) → IfOk r (λ g. g.from ≡ start_of train) → IfOk r (λ g. g.to ≡ train.origin + distance)
    → IfOk r (λ g. (known : Train) → train_numbered scene number ≡ Some known → granted_train track scene known distance ≡ Ok (with_authority known g.line.legs g.from g.to))
says_along track scene number distance train there accepted (Ok g) legs from to = λ known same.
    subst (λ (k : Train). granted_train track scene k distance ≡ Ok (with_authority k g.line.legs g.from g.to)) (the_some train known (sym there ∙ same))
    (safe track scene train distance (is_safe track scene train (train.origin + distance) && is_expressible_end track train (train.origin + distance)) g.line.legs g.from g.to refl
    (is_accepted track scene number distance train there accepted) legs from to)
says_along track scene number distance train there accepted (Err e) legs from to = tt

module _ (locks : Locks) (book : Book) (now : SceneOnTrack) (is : scene_on locks book ≡ now) (kept : IsKept (scene_on locks book)) (number distance : ℕ) (legs : Line) (known : TrainOnTrack)
    (f : IsFound book number known) (accepted : is_ok (after_grant now.track now.scene number distance) ≡ true) (lead : LeadTo now.track now.scene number distance legs) where
  abbrev scene : Scene
  scene = (scene_on locks book).scene

  accepted_here : is_ok (after_grant book.track scene number distance) ≡ true
  accepted_here = subst (λ (s : SceneOnTrack). is_ok (after_grant s.track s.scene number distance) ≡ true) (sym is) accepted

  lead_here : LeadTo book.track scene number distance legs
  lead_here = subst (λ (s : SceneOnTrack). LeadTo s.track s.scene number distance legs) (sym is) lead

  good_locks : IsGoodLocks book.track locks
  good_locks = let k = kept in k.good.locks

  pub along_book : IsGoodTrain known.track known.train → IsAlong known.track known.train distance legs
  along_book good =
      subst (λ (t : Track). IsAlong t known.train distance legs) (sym f.track)
      (is_along book.track scene number distance legs known.train f.there good_locks (subst (λ (t : Track). IsGoodTrain t known.train) f.track good) accepted_here lead_here)

  pub granted_along_book : {E : Type 0} (r : Result GrantedLine E)
      → ((s : Scene) → IsGoodLocks known.track s.locks → BeginsWay known.track s known.train legs → IfOk r (λ g. g.line.legs ≡ line_to known.track s known.train (known.train.origin + distance)))
      → IfOk r (λ g. g.from ≡ start_of known.train) → IfOk r (λ g. g.to ≡ known.train.origin + distance)
      → IfOk r (λ g. (train : Train) → train_numbered now.scene number ≡ Some train → granted_train now.track now.scene train distance ≡ Ok (with_authority train g.line.legs g.from g.to))
  granted_along_book r continued from to =
      subst (λ (s : SceneOnTrack). IfOk r (λ g. (train : Train) → train_numbered s.scene number ≡ Some train → granted_train s.track s.scene train distance ≡ Ok (with_authority train g.line.legs g.from g.to))) is
      (says_along book.track scene number distance known.train f.there accepted_here r
      (subst (λ (t : Track). IfOk r (λ g. g.line.legs ≡ line_to t scene known.train (known.train.origin + distance))) f.track
      (continued scene (subst (λ (t : Track). IsGoodLocks t locks) (sym f.track) good_locks) (subst (λ (t : Track). BeginsWay t scene known.train legs) (sym f.track) (lead_here known.train f.there).0)))
      from to)

-- ---- a line that is copied

pub copied_as : {E : Type 0} (r : Result LineOnTrack E) (known : LineOnTrack) (legs : Line) → known.legs ≡ legs → IfOk r (λ line. line ≡ known) → IfOk r (λ line. line.legs ≡ legs)
copied_as (Ok line) known legs e h = ap (λ (l : LineOnTrack). l.legs) h ∙ e
copied_as (Err x) known legs e h = tt
