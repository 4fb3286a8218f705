-- A whole history, shown to be legal and best: its grant is the best one at its place, and no metre is held twice.
use Rattle.std.proofs.Common.{subst, Bool, nat_le, length, ◌≡◌, ℕ, ◌<◌, ◌≤◌, List, [], ◌∷◌, ◌++◌, true, Option, Some, None, refl, arith, lit≤, lit<, zero-add, ℤ, pos, negsuc}
use Rattle.rbc_model.specs.declared.refusals.Obstacle.TheVariants.{NoLink, Limit}
use Rattle.rbc_model.specs.declared.refusals.Obstacle.{Obstacle}
use Rattle.rbc_model.specs.Obstacles.{obstacle, way}
use Rattle.rbc_model.specs.Views.{IsSafe}
use Rattle.rbc_model.specs.Trains.{Train}
use Rattle.rbc_model.specs.Scenes.{train_numbered}
use Rattle.rbc_model.specs.Reports.{Report}
use Rattle.rbc_model.specs.declared.reports.Told.TheVariants.{Report as ToldReport, Lock as ToldLock}
use Rattle.rbc_model.specs.Histories.{Beginning, MayFollow, IsBest, Stops, scene_at, IsBestHistory, Entry, Heard, Granted, Grants, IsBestFor, IsLegal, empty_on, replay}
use Rattle.rbc_model.proofs.EndLemmas.{IsSafe-is_safe}
use Rattle.rbc_model.proofs.LegalLemmas.{IsBestHistory-legal, AuthoritiesAreApart-one_train, IsLegal-empty, IsLegal-append}
use Rattle.rbc_model.specs.Levels.{speed_levels, grade_levels}
use Rattle.rbc_model.specs.Profiles.{IsBestProfile}
use Rattle.rbc_model.specs.Lines.{speeds_from, grades_from}
use Rattle.rbc_model.proofs.CountingLemmas.{all_below-holds}
use Rattle.std.proofs.lemmas.Bool.{leb-true}
use Rattle.std.proofs.lemmas.Option.{same_Some}
use Rattle.std.specs.Prelude.{is_ok}
use Rattle.rbc_model.specs.Events.{step}
use Rattle.rbc_model.specs.declared.reports.Told.{Told}
use Rattle.rbc_model.specs.declared.reports.Event.TheVariants.{Tell}
use Rattle.rbc_model.proofs.TableLemmas.{fits_by_tests, best_of_no_loss}
use Rattle.rbc_examples.specs.Places.{single, plus}

-- the history begins with the empty scene
abbrev begin : Beginning
begin = empty_on single

abbrev pub report : Report
report = record { train = 1; group = record { country = 5; number = 17 }; nominal = true; distance = 300; over = 5; under = 5; length = 200; time = 1000 }

-- the route is locked and the train reports
abbrev before : List Entry
before = Heard (ToldLock 0) ∷ Heard (ToldReport report) ∷ []

abbrev pub grant : Grants
grant =
    record {
      train = 1;
      from = pos 305;
      authority = record { time = 1000; group = record { country = 5; number = 17 }; nominal = true; end = 1000; speeds = (0, 100) ∷ []; grades = (0, negsuc 4) ∷ [] };
      obstacle = NoLink (plus 0);
    }

-- the train in the scene
abbrev train : Train
train = record { report = report; line = plus 0 ∷ []; origin = 0; rear = 95; front = 305; from = 305; to = 305 }

-- its line ends 1,000 metres from the group
stands_there : obstacle single (replay begin before) train 1000 ≡ Some (NoLink (plus 0))
stands_there = refl

safe_there : IsSafe single (replay begin before) train 1000
safe_there = IsSafe-is_safe single (replay begin before) train 1000 refl

not_both : (o : Option Obstacle) (x : Obstacle) → o ≡ Some x → o ≡ None → ⊥
not_both o x some none = cc

none_beyond : (farther : ℕ) → 1000 < farther → IsSafe single (replay begin before) train farther → ⊥
none_beyond farther beyond s = not_both (obstacle single (replay begin before) train 1000) (NoLink (plus 0)) stands_there (s.clear 1000 (lit≤ tt) beyond)

-- the speeds and gradients from the group on
abbrev speeds_ahead : ℕ → Option ℕ
speeds_ahead = speeds_from single (way single (replay begin before) train) 0

abbrev grades_ahead : ℕ → Option ℤ
grades_ahead = grades_from single (way single (replay begin before) train) 0

-- they are the same all along, so one step each loses nothing
speeds_best : IsBestProfile speed_levels 1 31 1000 speeds_ahead ((0, 100) ∷ [])
speeds_best = best_of_no_loss speed_levels 1 31 1000 speeds_ahead _ (fits_by_tests speed_levels 1 31 1000 speeds_ahead _ refl refl refl (lit≤ tt) refl refl) refl

grades_best : IsBestProfile grade_levels 1 31 1000 grades_ahead ((0, negsuc 4) ∷ [])
grades_best = best_of_no_loss grade_levels 1 31 1000 grades_ahead _ (fits_by_tests grade_levels 1 31 1000 grades_ahead _ refl refl refl (lit≤ tt) refl refl) refl

-- it is the first obstacle
stopped_there : Stops single (replay begin before) train 1000 (NoLink (plus 0)) 1000
stopped_there = record { beyond = lit≤ tt; on_way = lit≤ tt; real = stands_there; first = λ i low high. safe_there.clear i low high }

grant_is_best : IsBestFor single (replay begin before) grant train
grant_is_best =
    record {
      time = refl;
      group = refl;
      direction = refl;
      from = refl;
      ends = record {
        expressible = refl;
        safe = safe_there;
        farthest = λ farther told beyond s. none_beyond farther beyond (let t : IsSafe single (replay begin before) train farther = rw zero-add at s in t);
        place = 1000;
        stopped = stopped_there;
      };
      profiles = record { speeds = speeds_best; grades = grades_best };
    }

abbrev pub entries : List Entry
entries = before ++ Granted grant ∷ []

-- ---- grants that are not the best: an end that is too near, another obstacle, another start

not_best : (wrong : Grants) → (IsBestFor single (replay begin before) wrong train → ⊥)
    → IsBest single (replay begin before) wrong
    → train_numbered (replay begin before) wrong.train ≡ Some train → ⊥
not_best wrong refused h there = refused (h.best train there)

pub too_near : IsBest single (replay begin before) (record grant { authority = record grant.authority { end = 900 } }) → ⊥
too_near h = not_best _ (λ b. b.ends.farthest 1000 refl (lit≤ tt) safe_there) h refl

other_obstacle : NoLink (plus 0) ≡ Limit → ⊥
other_obstacle e = cc

pub stopped_by_another : IsBest single (replay begin before) (record grant { obstacle = Limit }) → ⊥
stopped_by_another h = not_best _ (λ b. let s = b.ends.stopped in other_obstacle (the_obstacle (NoLink (plus 0)) Limit (at_end b.ends.place s.beyond s.on_way s.real))) h refl
  where
    at_end : (place : ℕ) → 1000 ≤ place → place ≤ 1000 → obstacle single (replay begin before) train place ≡ Some Limit → obstacle single (replay begin before) train 1000 ≡ Some Limit
    at_end place beyond near = subst (λ i. obstacle single (replay begin before) train i ≡ Some Limit) (let e : place ≡ 1000 = omega arith in e)

    the_obstacle : (a b : Obstacle) → Some a ≡ Some b → a ≡ b
    the_obstacle a b e = cc

other_start : (a b : ℕ) → pos a ≡ pos b → a < b → ⊥
other_start a b e below = let same = the_number a b e in omega arith
  where
    the_number : (a b : ℕ) → pos a ≡ pos b → a ≡ b
    the_number a b e = cc

pub from_behind : IsBest single (replay begin before) (record grant { from = pos 304 }) → ⊥
from_behind h = not_best _ (λ b. other_start 304 305 b.from (lit< tt)) h refl

-- ---- the whole history

-- what is told may always follow, where it is accepted
told_may_follow : (earlier : List Entry) (told : Told) → is_ok (step single (replay begin earlier) (Tell told)) ≡ true → MayFollow begin earlier (Heard told)
told_may_follow earlier told accepted = record { accepted = accepted; best = λ g e. absurd cc }

-- and so may the grant
grant_may_follow : MayFollow begin before (Granted grant)
grant_may_follow =
    record {
      accepted = refl;
      best = λ g e. subst (IsBest single (replay begin before)) (the_grant grant g e) (record { train_is_there = refl; best = λ t there. subst (IsBestFor single (replay begin before) grant) (same_Some train t there) grant_is_best });
    }
  where
    the_grant : (g h : Grants) → Granted g ≡ Granted h → g ≡ h
    the_grant g h e = cc

pub history_is_legal : IsLegal begin entries
history_is_legal =
    IsLegal-append begin before (Granted grant)
    (IsLegal-append begin (Heard (ToldLock 0) ∷ []) (Heard (ToldReport report))
    (IsLegal-append begin [] (Heard (ToldLock 0)) (IsLegal-empty begin) (told_may_follow [] (ToldLock 0) refl))
    (told_may_follow (Heard (ToldLock 0) ∷ []) (ToldReport report) refl))
    grant_may_follow

-- at no moment is there more than one train
abbrev few_trains : ℕ → Bool
few_trains moment = nat_le (length (scene_at begin entries moment).trains) 1

pub history_is_best : IsBestHistory begin entries
history_is_best =
    IsBestHistory-legal begin entries history_is_legal
    (λ moment within. AuthoritiesAreApart-one_train single (scene_at begin entries moment)
    (leb-true (length (scene_at begin entries moment).trains) 1 (all_below-holds 4 few_trains refl moment (omega arith))))
