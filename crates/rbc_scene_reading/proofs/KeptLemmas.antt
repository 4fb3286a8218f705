-- What is read stays a good scene, line by line.
use Rattle.std.proofs.Common.{◌≡◌, ℕ, ◌+◌, ◌<◌, ◌^◌, Bool, true, false, ◌&&◌, cond, List, [], length, nat_le, nat_lt, Option, Some, None, Result, Ok, Err, ℤ, refl, sym, ap, ◌∙◌, subst, arith}
use Rattle.std.specs.Prelude.{◌==◌, is_none, is_some, IsTrue}
use Rattle.std.specs.Option.{ok_or, option_and_then}
use Rattle.std.specs.Result.{result_map_both}
use Rattle.std.proofs.lemmas.List.Elements.{All-from_recursion, recursion_from_All}
use Rattle.rbc_model.specs.declared.limits.TheConstants.{MOST_TRAINS}
use Rattle.rbc_model.specs.declared.places.Leg.{Leg}
use Rattle.rbc_model.specs.Results.{demand, unless, ◌>>=◌, ◌>>◌}
use Rattle.rbc_model.specs.Reports.{Report, IsReport}
use Rattle.rbc_model.specs.Scales.{farthest}
use Rattle.rbc_model.specs.Tracks.{Track, group_named}
use Rattle.rbc_model.specs.Lines.{Line}
use Rattle.rbc_model.specs.Locks.{Locks}
use Rattle.rbc_model.specs.Trains.{Train}
use Rattle.rbc_model.specs.Scenes.{Scene, train_numbered}
use Rattle.rbc_model.specs.Events.{with_authority, with_locks, with_train}
use Rattle.rbc_model.specs.SceneLines.{IsTellable}
use Rattle.rbc_model.proofs.SaidLineLemmas.{bound}
use Rattle.rbc_scene_laws.specs.Good.{IsGoodLocks, IsGoodScene, IsGoodTrain}
use Rattle.rbc_scene_laws.proofs.BasicLemmas.{and_left, and_right, the_some}
use Rattle.rbc_scene_laws.proofs.LockingLemmas.{the_lock}
use Rattle.rbc_scene_laws.proofs.TrainListLemmas.{each_with_train}
use Rattle.rbc_good_laws.specs.Good.{is_good_line, is_good_train}
use Rattle.rbc_good_laws.specs.Told.{IsToldScene, StandsAsTold, is_needed, stands_as_told}
use Rattle.rbc_good_laws.proofs.GoodLemmas.{train_is}
use Rattle.rbc_good_laws.proofs.ToldLemmas.{told_trains_decided}
use Rattle.rbc_scene.specs.Added.{added}
use Rattle.rbc_scene.specs.Entries.{on_track}
use Rattle.rbc_scene_words.specs.SceneLine.{SceneLine, Version, Locked, Reported, Along, More, Stands, Holds, Next, Done}
use Rattle.rbc_scene_reading.specs.Pieces.{fits, is_full, with_legs}
use Rattle.rbc_scene_reading.specs.Running.{Running}
use Rattle.rbc_scene_reading.specs.Stages.{is_between, is_held, is_start, may_be_of, running_in, standing_in, told_in}
use Rattle.rbc_scene_reading.specs.Readings.{FitsStage, IsNew, IsSoFar, Reading}
use Rattle.rbc_scene_reading.specs.Reading.{at_stage, held_fault, holding, if_good, if_stands, locks_with, place_at, report_fault, row_fault, standing_at, stands_on_line, where_held, where_told, with_end, with_extent, with_held, with_line, with_next, with_piece, with_report, with_row_told, with_said, with_version}
use Rattle.rbc_scene_reading.specs.declared.fault.SceneFault.{SceneFault}
use Rattle.rbc_scene_reading.specs.declared.fault.SceneFault.TheVariants.{Order, NotOfRoute, Crowded, TwiceTold, UnknownGroup, TooFar, NoLine, NotAsTold, OffLine}
use Rattle.rbc_scene_reading.specs.declared.stage.Stage.{Stage}
use Rattle.rbc_scene_reading.specs.declared.stage.Stage.TheVariants.{Start, Rows, Told, Running as RunningTrain, Standing, Held, Between, Ended}
use Rattle.rbc_scene_reading.proofs.RowLemmas.{each_row, good_with_row, row_of}
use Rattle.rbc_scene_reading.proofs.TrainLemmas.{count_with, good_with_held}

-- ---- steps that did not fail

pub demanded : {B : Type 0} (b : Bool) (fault : SceneFault) (r : Result B SceneFault) (y : B) → (demand b fault >> r) ≡ Ok y → (b ≡ true) × (r ≡ Ok y)
demanded true fault r y h = (refl, h)
demanded false fault r y h = absurd (let never : ⊥ = cc in never)

pub found : {A : Type 0} (o : Option A) (fault : SceneFault) (x : A) → ok_or o fault ≡ Ok x → o ≡ Some x
found None fault x h = absurd (let never : ⊥ = cc in never)
found (Some y) fault x h = let e : y ≡ x = cc in ap Some e

pub unrefused : {A : Type 0} (o : Option SceneFault) (r : Result A SceneFault) (y : A) → unless o r ≡ Ok y → (o ≡ None) × (r ≡ Ok y)
unrefused None r y h = (refl, h)
unrefused (Some fault) r y h = absurd (let never : ⊥ = cc in never)

pub the_ok : {A : Type 0} (x y : A) → (let r : Result A SceneFault = Ok x in r) ≡ Ok y → x ≡ y
the_ok x y h = cc

pub kept_ok : {A E : Type 0} (f : E → SceneFault) (r : Result A E) (y : A) → result_map_both (λ x. x) f r ≡ Ok y → r ≡ Ok y
kept_ok f (Ok x) y h = let e : x ≡ y = cc in ap Ok e
kept_ok f (Err fault) y h = absurd (let never : ⊥ = cc in never)

-- ---- what is kept

-- the report of the train that is being told is one, and it stands where that tells
abbrev pub IsTold : Track → Stage → Type 0
IsTold track (Told report) = IsReport report
IsTold track (RunningTrain running) = IsReport running.report
IsTold track (Standing standing) = IsReport standing.train.report × StandsAsTold track standing.train
IsTold track _ = Unit {0}

-- the report that a line tells is one, and a version has at most ten digits
abbrev pub IsSaid : SceneLine → Type 0
IsSaid (Version version) = version < 10 ^ 10
IsSaid (Reported report) = IsReport report
IsSaid _ = Unit {0}

pub record IsRead (on : Track) (reading : Reading) : Type 0 where
  pub of_track : reading.track ≡ on
  pub so : IsSoFar reading
  pub told : IsToldScene reading.track reading.scene
  pub tellable : IsTellable reading.track reading.scene
  pub train : IsTold reading.track reading.stage

-- ---- scenes and trains

-- good locks alone make a good scene
pub good_without_trains : (track : Track) (scene : Scene) → IsGoodLocks track scene.locks → scene.trains ≡ [] → IsGoodScene track scene
good_without_trains track scene locks none =
    subst (λ (trains : List Train). IsGoodScene track (record { locks = scene.locks; trains = trains })) (sym none)
    (record {
      locks = locks;
      trains = λ k d h. absurd (omega arith);
      numbers_differ = λ i j d h k. absurd (omega arith);
      apart = λ i j d h k. absurd (omega arith);
      locked = λ k d h. absurd (omega arith);
    })

pub and_then_found : {A B : Type 0} (o : Option A) (f : A → Option B) (y : B) → option_and_then f o ≡ Some y → (x : A) × (o ≡ Some x) × (f x ≡ Some y)
and_then_found None f y h = absurd (let never : ⊥ = cc in never)
and_then_found (Some x) f y h = (x, refl, h)

pub if_found : {A : Type 0} (test : Bool) (x y : A) → cond test (Some x) None ≡ Some y → (test ≡ true) × (x ≡ y)
if_found true x y h = (refl, the_some x y h)
if_found false x y h = absurd (let never : ⊥ = cc in never)

-- a train that was found to stand on its line
pub record IsFoundAt (track : Track) (told_by : Report) (standing : Train) : Type 0 where
  pub report : told_by ≡ standing.report
  pub good : IsGoodTrain track standing
  pub told : StandsAsTold track standing

pub standing_found : (track : Track) (running : Running) (rear front : ℤ) (standing : Train) → stands_on_line track running rear front ≡ Ok standing → IsFoundAt track running.report standing
standing_found track running rear front standing h =
    let a = demanded (is_good_line track running.legs) (NoLine running.report.train) (ok_or (where_told track running rear front) (NotAsTold running.report.train)) standing h in
    let b = and_then_found (place_at running.origin rear) (λ rear. option_and_then (λ front. if_stands track (standing_at running rear front)) (place_at running.origin front)) standing
    (found (where_told track running rear front) (NotAsTold running.report.train) standing a.1) in
    let c = and_then_found (place_at running.origin front) (λ front. if_stands track (standing_at running b.0 front)) standing b.2 in
    let train = standing_at running b.0 c.0 in
    let d = if_found (is_good_train track train && stands_as_told track train) train standing c.2 in
    record {
      report = ap (λ (t : Train). t.report) d.1;
      good = subst (IsGoodTrain track) d.1 ((train_is track train).0 (and_left (is_good_train track train) (stands_as_told track train) d.0));
      told = subst (StandsAsTold track) d.1 ((told_trains_decided track train).0 (and_right (is_good_train track train) (stands_as_told track train) d.0));
    }

-- what a train holds changes nothing of where it stands
still_told : (track : Track) (train : Train) (from to : ℕ) → StandsAsTold track train → StandsAsTold track (with_authority train train.line from to)
still_told track train from to told = (told.0, told.1, record { origin = told.2.origin; front = told.2.front; rear = told.2.rear; near = told.2.near })

-- a train that was found to hold something
record IsFoundHolding (track : Track) (scene : Scene) (standing held : Train) : Type 0 where
  report : standing.report ≡ held.report
  good : IsGoodTrain track held
  may : held_fault track scene held ≡ None
  told : StandsAsTold track standing → StandsAsTold track held

held_found : (track : Track) (scene : Scene) (standing : Train) (from to : ℤ) (held : Train) → holding track scene standing from to ≡ Ok held → IsFoundHolding track scene standing held
held_found track scene standing from to held h =
    let a = bound (ok_or (where_held track standing from to) (OffLine standing.report.train)) (λ held. unless (held_fault track scene held) (Ok held)) held h in
    let b = unrefused (held_fault track scene a.0) (Ok a.0) held a.2 in
    let c = and_then_found (place_at standing.origin from) (λ from. option_and_then (λ to. if_good track (with_authority standing standing.line from to)) (place_at standing.origin to)) a.0
    (found (where_held track standing from to) (OffLine standing.report.train) a.0 a.1) in
    let d = and_then_found (place_at standing.origin to) (λ to. if_good track (with_authority standing standing.line c.0 to)) a.0 c.2 in
    let train = with_authority standing standing.line c.0 d.0 in
    let e = if_found (is_good_train track train) train a.0 d.2 in
    let same : train ≡ held = e.1 ∙ the_ok a.0 held b.1 in
    record {
      report = ap (λ (t : Train). t.report) same;
      good = subst (IsGoodTrain track) same ((train_is track train).0 e.0);
      may = subst (λ (t : Train). held_fault track scene t ≡ None) (the_ok a.0 held b.1) b.0;
      told = λ told. subst (StandsAsTold track) same (still_told track standing c.0 d.0 told);
    }

pub at_rows : (track : Track) (scene : Scene) (stage : Stage) (section : ℕ) → may_be_of section stage ≡ true → FitsStage track scene stage → scene.trains ≡ []
at_rows track scene Start section e fit = fit
at_rows track scene (Rows n) section e fit = fit
at_rows track scene (Told report) section e fit = absurd (let never : ⊥ = cc in never)
at_rows track scene (RunningTrain running) section e fit = absurd (let never : ⊥ = cc in never)
at_rows track scene (Standing standing) section e fit = absurd (let never : ⊥ = cc in never)
at_rows track scene Held section e fit = absurd (let never : ⊥ = cc in never)
at_rows track scene Between section e fit = absurd (let never : ⊥ = cc in never)
at_rows track scene Ended section e fit = absurd (let never : ⊥ = cc in never)

module _ (on : Track) (reading next : Reading) (now : IsRead on reading) where
  abbrev track : Track
  track = reading.track

  abbrev scene : Scene
  scene = reading.scene

  -- the scene at another stage
  staged : (stage : Stage) → FitsStage track scene stage → IsTold track stage → at_stage reading stage ≡ next → IsRead on next
  staged stage fit told is =
      subst (IsRead on) is (record { of_track = now.of_track; so = record { sound = now.so.sound; good = now.so.good; stage = fit }; told = now.told; tellable = now.tellable; train = told })

  -- ---- the version and the rows

  at_start : (stage : Stage) → is_start stage ≡ true → FitsStage track scene stage → scene.trains ≡ []
  at_start Start e fit = fit
  at_start (Rows first) e fit = fit
  at_start (Told report) e fit = absurd (let never : ⊥ = cc in never)
  at_start (RunningTrain running) e fit = absurd (let never : ⊥ = cc in never)
  at_start (Standing standing) e fit = absurd (let never : ⊥ = cc in never)
  at_start Held e fit = absurd (let never : ⊥ = cc in never)
  at_start Between e fit = absurd (let never : ⊥ = cc in never)
  at_start Ended e fit = absurd (let never : ⊥ = cc in never)

  kept_version : (version : ℕ) → with_version version reading ≡ Ok next → IsRead on next
  kept_version version h =
      let after : Reading = record { track = track; version = version; scene = scene; stage = Rows 0 } in
      let d = demanded (is_start reading.stage) Order (Ok after) next h in
      subst (IsRead on) (the_ok after next d.1)
      (record {
        of_track = now.of_track;
        so = record { sound = now.so.sound; good = now.so.good; stage = at_start reading.stage d.0 now.so.stage };
        told = now.told;
        tellable = now.tellable;
        train = tt;
      })

  -- the scene with a row more
  pub row_kept : (leg : Leg) (route : ℕ) (before : Option Leg) (locks : Locks) → scene.trains ≡ [] → is_needed track leg.section (the_lock route (leg, before)) ≡ true
      → added scene.locks route leg before ≡ Ok locks → IsRead on (record { track = track; version = reading.version; scene = with_locks scene locks; stage = Rows (leg.section + 1) })
  row_kept leg route before locks none needed is =
      let of = row_of track now.so.sound leg route before needed in
      record {
        of_track = now.of_track;
        so = record {
          sound = now.so.sound;
          good = good_without_trains track (with_locks scene locks) (good_with_row scene.locks locks leg route before is track now.so.good.locks of) none;
          stage = none;
        };
        told = record {
          rows = each_row scene.locks locks leg route before is (λ section lock. IsTrue (is_needed track section lock)) now.told.rows needed;
          trains = now.told.trains;
          few = now.told.few;
        };
        tellable = record {
          routes = each_row scene.locks locks leg route before is (λ section lock. lock.route < length track.routes) now.tellable.routes of.route;
          reports = now.tellable.reports;
        };
        train = tt;
      }

  kept_row : (leg : Leg) (route : ℕ) (before : Option Leg) → with_row_told leg route before reading ≡ Ok next → IsRead on next
  kept_row leg route before h =
      let after : Locks → Reading = λ locks. record { track = track; version = reading.version; scene = with_locks scene locks; stage = Rows (leg.section + 1) } in
      let b = demanded (may_be_of leg.section reading.stage) Order (locks_with track scene.locks leg route before >>= (λ locks. Ok (after locks))) next h in
      let c = bound (locks_with track scene.locks leg route before) (λ locks. Ok (after locks)) next b.1 in
      let d = demanded (is_needed track leg.section (the_lock route (leg, before))) (NotOfRoute leg.section route)
      (result_map_both (λ locks. locks) row_fault (added scene.locks route leg before)) c.0 c.1 in
      subst (IsRead on) (the_ok (after c.0) next c.2)
      (row_kept leg route before c.0 (at_rows track scene reading.stage leg.section b.0 now.so.stage) d.0 (kept_ok row_fault (added scene.locks route leg before) c.0 d.1))

  -- ---- a train's lines

  new_report : (report : Report) → report_fault track scene report ≡ None → IsNew scene report
  new_report report h =
      by_tests (nat_le MOST_TRAINS (length scene.trains)) refl (is_some (train_numbered scene report.train)) refl h
    where
      rest : Option SceneFault
      rest =
          cond (is_none (group_named track report.group)) (Some (UnknownGroup report.train))
          (cond (nat_lt (farthest track.format) (report.distance + report.under)) (Some (TooFar report.train)) None)

      none_there : (o : Option Train) → is_some o ≡ false → o ≡ None
      none_there None e = refl
      none_there (Some train) e = absurd (let never : ⊥ = cc in never)

      by_tests : (full : Bool) → nat_le MOST_TRAINS (length scene.trains) ≡ full → (there : Bool) → is_some (train_numbered scene report.train) ≡ there
          → cond full (Some (Crowded report.train)) (cond there (Some (TwiceTold report.train)) rest) ≡ None → IsNew scene report
      by_tests true e there f h = absurd (let never : ⊥ = cc in never)
      by_tests false e true f h = absurd (let never : ⊥ = cc in never)
      by_tests false e false f h = record { few = grind arith; new = none_there (train_numbered scene report.train) f }

  kept_report : (report : Report) → IsReport report → with_report report reading ≡ Ok next → IsRead on next
  kept_report report is h =
      let after : Result Reading SceneFault = Ok (at_stage reading (Told report)) in
      let a = demanded (is_between reading.stage) Order (unless (report_fault track scene report) after) next h in
      let b = unrefused (report_fault track scene report) after next a.1 in
      staged (Told report) (new_report report b.0) is (the_ok (at_stage reading (Told report)) next b.1)

  at_told : (stage : Stage) (report : Report) → told_in stage ≡ Some report → FitsStage track scene stage → IsTold track stage → IsNew scene report × IsReport report
  at_told (Told other) report e fit told = let same : other ≡ report = cc in (subst (IsNew scene) same fit, subst IsReport same told)
  at_told Start report e fit told = absurd (let never : ⊥ = cc in never)
  at_told (Rows n) report e fit told = absurd (let never : ⊥ = cc in never)
  at_told (RunningTrain running) report e fit told = absurd (let never : ⊥ = cc in never)
  at_told (Standing standing) report e fit told = absurd (let never : ⊥ = cc in never)
  at_told Held report e fit told = absurd (let never : ⊥ = cc in never)
  at_told Between report e fit told = absurd (let never : ⊥ = cc in never)
  at_told Ended report e fit told = absurd (let never : ⊥ = cc in never)

  kept_line : (train origin : ℕ) (legs : Line) → with_line train origin legs reading ≡ Ok next → IsRead on next
  kept_line train origin legs h =
      let running : Report → Running = λ report. record { report = report; origin = origin; legs = legs; full = is_full legs } in
      let a = bound (ok_or (told_in reading.stage) Order) (λ report. demand (train == report.train && fits legs) Order >> Ok (at_stage reading (RunningTrain (running report)))) next h in
      let b = demanded (train == a.0.train && fits legs) Order (Ok (at_stage reading (RunningTrain (running a.0)))) next a.2 in
      let t = at_told reading.stage a.0 (found (told_in reading.stage) Order a.0 a.1) now.so.stage now.train in
      staged (RunningTrain (running a.0)) t.0 t.1 (the_ok (at_stage reading (RunningTrain (running a.0))) next b.1)

  at_running : (stage : Stage) (running : Running) → running_in stage ≡ Some running → FitsStage track scene stage → IsTold track stage → IsNew scene running.report × IsReport running.report
  at_running (RunningTrain other) running e fit told = let same : other ≡ running = cc in (subst (λ (r : Running). IsNew scene r.report) same fit, subst (λ (r : Running). IsReport r.report) same told)
  at_running Start running e fit told = absurd (let never : ⊥ = cc in never)
  at_running (Rows n) running e fit told = absurd (let never : ⊥ = cc in never)
  at_running (Told report) running e fit told = absurd (let never : ⊥ = cc in never)
  at_running (Standing standing) running e fit told = absurd (let never : ⊥ = cc in never)
  at_running Held running e fit told = absurd (let never : ⊥ = cc in never)
  at_running Between running e fit told = absurd (let never : ⊥ = cc in never)
  at_running Ended running e fit told = absurd (let never : ⊥ = cc in never)

  kept_piece : (train : ℕ) (legs : Line) → with_piece train legs reading ≡ Ok next → IsRead on next
  kept_piece train legs h =
      let a = bound (ok_or (running_in reading.stage) Order)
      (λ (running : Running). demand (train == running.report.train && running.full && nat_lt 0 (length legs) && fits legs) Order >> Ok (at_stage reading (RunningTrain (with_legs running legs)))) next h in
      let b = demanded (train == a.0.report.train && a.0.full && nat_lt 0 (length legs) && fits legs) Order (Ok (at_stage reading (RunningTrain (with_legs a.0 legs)))) next a.2 in
      let t = at_running reading.stage a.0 (found (running_in reading.stage) Order a.0 a.1) now.so.stage now.train in
      staged (RunningTrain (with_legs a.0 legs)) t.0 t.1 (the_ok (at_stage reading (RunningTrain (with_legs a.0 legs))) next b.1)

  -- ---- where it stands

  kept_extent : (train : ℕ) (rear front : ℤ) → with_extent train rear front reading ≡ Ok next → IsRead on next
  kept_extent train rear front h =
      let after : Train → Result Reading SceneFault = λ standing. Ok (at_stage reading (Standing (on_track track standing))) in
      let a = bound (ok_or (running_in reading.stage) Order) (λ (running : Running). demand (train == running.report.train) Order >> (stands_on_line track running rear front >>= after)) next h in
      let b = demanded (train == a.0.report.train) Order (stands_on_line track a.0 rear front >>= after) next a.2 in
      let c = bound (stands_on_line track a.0 rear front) after next b.1 in
      let s = standing_found track a.0 rear front c.0 c.1 in
      let t = at_running reading.stage a.0 (found (running_in reading.stage) Order a.0 a.1) now.so.stage now.train in
      staged (Standing (on_track track c.0)) (subst (IsNew scene) s.report t.0, refl) (subst IsReport s.report t.1, s.told) (the_ok (at_stage reading (Standing (on_track track c.0))) next c.2)

  -- ---- what it holds

  record IsStanding (standing : Train) : Type 0 where
    new : IsNew scene standing.report
    report : IsReport standing.report
    told : StandsAsTold track standing

  at_standing : (stage : Stage) (standing : Train) → standing_in stage ≡ Some standing → FitsStage track scene stage → IsTold track stage → IsStanding standing
  at_standing (Standing other) standing e fit told =
      let same : other.train ≡ standing = cc in subst IsStanding same (record { new = fit.0; report = told.0; told = told.1 })
  at_standing Start standing e fit told = absurd (let never : ⊥ = cc in never)
  at_standing (Rows n) standing e fit told = absurd (let never : ⊥ = cc in never)
  at_standing (Told report) standing e fit told = absurd (let never : ⊥ = cc in never)
  at_standing (RunningTrain running) standing e fit told = absurd (let never : ⊥ = cc in never)
  at_standing Held standing e fit told = absurd (let never : ⊥ = cc in never)
  at_standing Between standing e fit told = absurd (let never : ⊥ = cc in never)
  at_standing Ended standing e fit told = absurd (let never : ⊥ = cc in never)

  train_kept : (held : Train) → IsGoodTrain track held → held_fault track scene held ≡ None → IsNew scene held.report → IsReport held.report → StandsAsTold track held
      → IsRead on (record { track = track; version = reading.version; scene = with_train scene held; stage = Held })
  train_kept held good may new report told = record {
    of_track = now.of_track;
    so = record { sound = now.so.sound; good = good_with_held track scene held may now.so.good good; stage = tt };
    told = record {
      rows = now.told.rows;
      trains = All-from_recursion (StandsAsTold track) (with_train scene held).trains (each_with_train (StandsAsTold track) scene held (recursion_from_All (StandsAsTold track) scene.trains now.told.trains) told);
      few = count_with scene held new;
    };
    tellable = record {
      routes = now.tellable.routes;
      reports = All-from_recursion (λ (t : Train). IsReport t.report) (with_train scene held).trains
          (each_with_train (λ (t : Train). IsReport t.report) scene held (recursion_from_All (λ (t : Train). IsReport t.report) scene.trains now.tellable.reports) report);
    };
    train = tt;
  }

  kept_held : (train : ℕ) (from to : ℤ) → with_held train from to reading ≡ Ok next → IsRead on next
  kept_held train from to h =
      let after : Train → Reading = λ held. record { track = track; version = reading.version; scene = with_train scene held; stage = Held } in
      let a = bound (ok_or (standing_in reading.stage) Order) (λ (standing : Train). demand (train == standing.report.train) Order >> (holding track scene standing from to >>= (λ held. Ok (after held)))) next h in
      let b = demanded (train == a.0.report.train) Order (holding track scene a.0 from to >>= (λ held. Ok (after held))) next a.2 in
      let c = bound (holding track scene a.0 from to) (λ held. Ok (after held)) next b.1 in
      let s = at_standing reading.stage a.0 (found (standing_in reading.stage) Order a.0 a.1) now.so.stage now.train in
      let held = held_found track scene a.0 from to c.0 c.1 in
      subst (IsRead on) (the_ok (after c.0) next c.2) (train_kept c.0 held.good held.may (subst (IsNew scene) held.report s.new) (subst IsReport held.report s.report) (held.told s.told))

  -- ---- any line

  kept_next : with_next reading ≡ Ok next → IsRead on next
  kept_next h =
      let a = demanded (is_held reading.stage) Order (Ok (at_stage reading Between)) next h in
      staged Between tt tt (the_ok (at_stage reading Between) next a.1)

  kept_end : with_end reading ≡ Ok next → IsRead on next
  kept_end h =
      let a = demanded (is_between reading.stage) Order (Ok (at_stage reading Ended)) next h in
      staged Ended tt tt (the_ok (at_stage reading Ended) next a.1)

  pub kept_said : (said : SceneLine) → IsSaid said → with_said said reading ≡ Ok next → IsRead on next
  kept_said (Version version) is h = kept_version version h
  kept_said (Locked leg route before) is h = kept_row leg route before h
  kept_said (Reported report) is h = kept_report report is h
  kept_said (Along train origin legs) is h = kept_line train origin legs h
  kept_said (More train legs) is h = kept_piece train legs h
  kept_said (Stands train rear front) is h = kept_extent train rear front h
  kept_said (Holds train from to) is h = kept_held train from to h
  kept_said Next is h = kept_next h
  kept_said Done is h = kept_end h
