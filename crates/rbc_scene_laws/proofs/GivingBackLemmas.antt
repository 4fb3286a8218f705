-- The end of an authority that is given back: the scene stays good, and authorities apart.
use Rattle.std.proofs.Common.{◌≡◌, ℕ, ◌+◌, ◌<◌, ◌≤◌, max, Bool, true, false, cond, ◌&&◌, Option, Some, None, Ok, Err, refl, ap, sym, ◌∙◌, subst, arith, nat_lt, nat_le}
use Rattle.std.specs.Prelude.{All, ◌==◌}
use Rattle.std.specs.Option.{option_map_or}
use Rattle.std.proofs.lemmas.Bool.{leb-true, ltb-true, eqb-true}
use Rattle.std.proofs.lemmas.List.Elements.{All-from_recursion, recursion_from_All}
use Rattle.rbc_model.specs.declared.refusals.Refusal.TheVariants.{UnknownTrain, YieldRange}
use Rattle.rbc_model.specs.Tracks.{Track}
use Rattle.rbc_model.specs.Lines.{Line, line_length}
use Rattle.rbc_model.specs.Trains.{Train}
use Rattle.rbc_model.specs.Placing.{through}
use Rattle.rbc_model.specs.Scenes.{Scene, train_numbered}
use Rattle.rbc_model.specs.Events.{after_give_back, with_train, with_authority, cut_at}
use Rattle.rbc_model.specs.Histories.{AuthoritiesAreApart}
use Rattle.rbc_scene_laws.specs.Good.{IsGoodScene, IsGoodTrain, IsWithin, spot}
use Rattle.rbc_scene_laws.proofs.BasicLemmas.{and_left, and_right}
use Rattle.rbc_scene_laws.proofs.SpotLemmas.{at_place-append_left}
use Rattle.rbc_scene_laws.proofs.TrainListLemmas.{find-holds}
use Rattle.rbc_scene_laws.proofs.OnLineLemmas.{OnLine, OnLine-IsLine, IsLine-OnLine, OnLine-left}
use Rattle.rbc_scene_laws.proofs.ThroughLemmas.{IsThrough, is_through}
use Rattle.rbc_scene_laws.proofs.WithinLemmas.{apart_within, good_within}
use Rattle.rbc_scene_laws.proofs.AuthorityLemmas.{Apart}
use Rattle.rbc_scene_laws.proofs.BookLemmas.{AuthoritiesAreApart-with_train, NumbersDiffer}
use Rattle.rbc_model.proofs.BasicLemmas.{find-passes}

-- what may be given back: up to here
pub record IsCut (train : Train) (to : ℕ) : Type 0 where
  pub short : to < train.to
  pub front : train.front ≤ to
  pub from : train.from ≤ to

-- a train on a part of its line, with a part of its authority
pub record IsCutTrain (track : Track) (train after : Train) : Type 0 where
  pub number : after.report.train ≡ train.report.train
  pub good : IsGoodTrain track after
  pub within : IsWithin track train after

module _ (track : Track) (train : Train) (to : ℕ) (good : IsGoodTrain track train) (c : IsCut train to) where
  abbrev line : Line
  line = through track train.report (max train.front to) train.line

  kept : IsThrough track (max train.front to) train.line line
  kept = is_through track train.report (max train.front to) train.line

  on : OnLine track line
  on = let was = OnLine-IsLine track train.line good.line in OnLine-left track line kept.rest (kept.some_leg was.some_leg) (subst (OnLine track) kept.is was)

  far : max train.front to ≤ line_length track line
  far = kept.reaches (let f = good.front in let t = good.to in let s = c.short in omega arith)

  same_spot : (i : ℕ) → i < line_length track line → spot track line i ≡ spot track train.line i
  same_spot i h = sym (ap (λ (l : Line). spot track l i) kept.is ∙ at_place-append_left (λ leg k. (leg, k)) track line kept.rest i h)

  pub cut_train : (b : Bool) → IsCutTrain track train (cond b (with_authority train line train.from to) (with_authority train line train.front train.front))
  cut_train true = record {
    number = refl;
    good = record { line = IsLine-OnLine track line on; origin = good.origin; rear = good.rear; front = let f = far in omega arith; behind = good.behind; from = c.from; to = let f = far in omega arith };
    within = λ i low high. (i, low, (let s = c.short in omega arith), same_spot i (let f = far in omega arith));
  }
  cut_train false = record {
    number = refl;
    good = record { line = IsLine-OnLine track line on; origin = good.origin; rear = good.rear; front = let f = far in omega arith; behind = good.rear; from = omega arith; to = let f = far in omega arith };
    within = λ i low high. absurd (omega arith);
  }

-- a good train of the scene before and after
record IsCutOf (track : Track) (scene : Scene) (train after : Train) : Type 0 where
  pub was : IsGoodTrain track train
  pub there : train_numbered scene after.report.train ≡ Some train
  pub good : IsGoodTrain track after
  pub within : IsWithin track train after

pub record IsGivenBack (track : Track) (scene : Scene) (number distance : ℕ) (after : Scene) : Type 0 where
  pub train : Train
  pub there : train_numbered scene number ≡ Some train
  pub cut : IsCut train (train.origin + distance)
  pub is : with_train scene (cut_at track train (train.origin + distance)) ≡ after

given_by : (b : Bool) (number : ℕ) (x y : Scene) → cond b (Ok x) (Err (YieldRange number)) ≡ Ok y → (b ≡ true) × (x ≡ y)
given_by true number x y h = (refl, cc)
given_by false number x y h = cc

pub given_back : (track : Track) (scene after : Scene) (number distance : ℕ) (o : Option Train) → train_numbered scene number ≡ o
    → option_map_or
    (λ (train : Train). cond (nat_lt (train.origin + distance) train.to && nat_le train.front (train.origin + distance) && nat_le train.from (train.origin + distance)) (Ok (with_train scene (cut_at track train (train.origin + distance)))) (Err (YieldRange number)))
    o (Err (UnknownTrain number)) ≡ Ok after
    → IsGivenBack track scene number distance after
given_back track scene after number distance None e h = cc
given_back track scene after number distance (Some train) e h =
    let to = train.origin + distance in
    let p = given_by (nat_lt to train.to && nat_le train.front to && nat_le train.from to) number (with_train scene (cut_at track train to)) after h in
    let q = and_left (nat_lt to train.to && nat_le train.front to) (nat_le train.from to) p.0 in
    record {
      train = train;
      there = e;
      cut = record {
        short = ltb-true to train.to (and_left (nat_lt to train.to) (nat_le train.front to) q);
        front = leb-true train.front to (and_right (nat_lt to train.to) (nat_le train.front to) q);
        from = leb-true train.from to (and_right (nat_lt to train.to && nat_le train.front to) (nat_le train.from to) p.0);
      };
      is = p.1;
    }

-- the train of a number, found among good trains, with its authority cut
cut_of : (track : Track) (scene : Scene) (number : ℕ) (train : Train) (to : ℕ) → train_numbered scene number ≡ Some train → IsCut train to → All (IsGoodTrain track) scene.trains → IsCutOf track scene train (cut_at track train to)
cut_of track scene number train to there c trains =
    let is_it = λ (t : Train). t.report.train == number in
    let was = find-holds (IsGoodTrain track) is_it scene.trains train there (recursion_from_All (IsGoodTrain track) scene.trains trains) in
    let same : train.report.train ≡ number = eqb-true train.report.train number (find-passes is_it scene.trains train there) in
    let cut = cut_train track train to was c (nat_lt train.from to) in
    record { was = was; there = ap (train_numbered scene) (cut.number ∙ same) ∙ there; good = cut.good; within = cut.within }

-- the others' authorities are apart from it
pub AuthoritiesAreApart-cut_at : (track : Track) (scene : Scene) (number : ℕ) (train : Train) (to : ℕ) → train_numbered scene number ≡ Some train → IsCut train to → All (IsGoodTrain track) scene.trains → NumbersDiffer scene
    → AuthoritiesAreApart track scene → AuthoritiesAreApart track (with_train scene (cut_at track train to))
AuthoritiesAreApart-cut_at track scene number train to there c trains differ apart =
    let after = cut_at track train to in
    let cut = cut_of track scene number train to there c trains in
    AuthoritiesAreApart-with_train track scene after differ apart
    (All-from_recursion (λ (other : Train). (other.report.train == after.report.train) ≡ false → Apart track after other) scene.trains (apart_within track scene train after cut.there cut.was apart cut.within))

pub good_after_give_back : (track : Track) (scene after : Scene) (number distance : ℕ) → after_give_back track scene number distance ≡ Ok after → IsGoodScene track scene → IsGoodScene track after
good_after_give_back track scene after number distance h good =
    let g = given_back track scene after number distance (train_numbered scene number) refl h in
    let to = g.train.origin + distance in
    let cut = cut_of track scene number g.train to g.there g.cut good.trains in
    subst (IsGoodScene track) g.is (good_within track scene g.train (cut_at track g.train to) cut.there good cut.good cut.within)
