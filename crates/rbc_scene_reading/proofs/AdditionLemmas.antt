-- What is kept while lines are added.
use Rattle.std.proofs.Common.{◌≡◌, ℕ, ◌<◌, Bool, true, false, not, [], Option, Some, None, Result, Ok, Err, ℤ, refl, sym, ap, ◌∙◌, subst, arith}
use Rattle.std.specs.Prelude.{◌==◌}
use Rattle.std.specs.Cmp.{unsigned_Decides}
use Rattle.std.proofs.lemmas.Bool.{eqb-true}
use Rattle.std.specs.Option.{ok_or, option_and_then}
use Rattle.std.specs.Result.{result_map_both}
use Rattle.rbc_model.specs.declared.places.Leg.{Leg}
use Rattle.rbc_model.specs.declared.memory.OrMemory.{OrMemory}
use Rattle.rbc_model.specs.declared.memory.OrMemory.TheVariants.{Refused, Memory}
use Rattle.rbc_model.specs.Answers.{RefusesOrMemory}
use Rattle.rbc_model.specs.SoundTracks.{IsSound}
use Rattle.rbc_model.specs.Tracks.{Track}
use Rattle.rbc_model.specs.Locks.{Locks, no_locks}
use Rattle.rbc_model.specs.Trains.{Train}
use Rattle.rbc_model.specs.Events.{with_authority, with_locks, with_train}
use Rattle.rbc_model.specs.Results.{demand, unless, ◌>>=◌, ◌>>◌}
use Rattle.rbc_model.specs.Scenes.{Scene}
use Rattle.rbc_model.specs.Histories.{AuthoritiesAreApart}
use Rattle.rbc_scene_laws.specs.Good.{IsGoodTrain}
use Rattle.rbc_scene_laws.proofs.KeptLemmas.{good_empty_scene}
use Rattle.rbc_scene_laws.proofs.LockingLemmas.{the_lock}
use Rattle.rbc_good_laws.specs.Told.{is_needed}
use Rattle.rbc_good_laws.proofs.GoodLemmas.{train_is}
use Rattle.rbc_scene.specs.Added.{added}
use Rattle.rbc_good_laws.specs.Good.{is_good_train}
use Rattle.rbc_scene.specs.Books.{Book, book_with}
use Rattle.rbc_scene.specs.Entries.{on_track}
use Rattle.rbc_scene.specs.TrainsOnTracks.{TrainOnTrack}
use Rattle.rbc_scene_reading.specs.Readings.{FitsStage, IsNew, IsSoFar, Reading, reading_of}
use Rattle.rbc_scene_reading.specs.Running.{Running}
use Rattle.rbc_scene_reading.specs.Reading.{held_fault, holding, if_good, locks_with, place_at, row_fault, stands_on_line, where_held, with_extent, with_held}
use Rattle.rbc_scene_reading.specs.Stages.{may_be_of, running_in, standing_in}
use Rattle.rbc_scene_reading.specs.declared.fault.SceneFault.{SceneFault}
use Rattle.rbc_scene_reading.specs.declared.fault.SceneFault.TheVariants.{NotOfRoute, OffLine, Order}
use Rattle.rbc_scene_reading.specs.declared.stage.Stage.{Stage}
use Rattle.rbc_scene_reading.specs.declared.stage.Stage.TheVariants.{Start, Rows, Running as RunningTrain, Standing, Held}
use Rattle.rbc_scene_reading.proofs.KeptLemmas.{and_then_found, at_rows, demanded, good_without_trains, if_found, kept_ok, standing_found}
use Rattle.rbc_scene_reading.proofs.RowLemmas.{good_with_row, row_of}
use Rattle.rbc_scene_reading.proofs.TrainLemmas.{good_with_held}

pub so_begun : (track : Track) (locks : Locks) (book : Book) → locks ≡ no_locks track → book ≡ record { track = track; trains = [] } → IsSound track → IsSoFar (reading_of 0 locks book Start)
so_begun track locks book l b sound = subst IsSoFar (sym (λ j. reading_of 0 (l j) (b j) Start)) (record { sound = sound; good = good_empty_scene track; stage = refl })

-- a line is of the train that is being told
pub same_train : (other : Bool) (said train known : ℕ) → other ≡ not (said == train) → other ≡ false → said ≡ known → (train == known) ≡ true
same_train other said train known e f g = (unsigned_Decides train known).1 (sym (eqb-true said train (by_test (said == train) (sym e ∙ f))) ∙ g)
  where
    by_test : (b : Bool) → not b ≡ false → b ≡ true
    by_test true h = refl
    by_test false h = absurd (let never : ⊥ = cc in never)

-- where a train stands, and what it holds, by the same numbers
pub stands_as : (P : Result Train SceneFault → Type 0) (known track : Track) (running : Running) (low rear high front : ℤ) → known ≡ track → low ≡ rear → high ≡ front → P (stands_on_line known running low high)
    → P (stands_on_line track running rear front)
stands_as P known track running low rear high front a b d h =
    subst (λ z. P (stands_on_line track running rear z)) d (subst (λ z. P (stands_on_line track running z high)) b (subst (λ t. P (stands_on_line t running low high)) a h))

pub holds_as : (track : Track) (standing : Train) (low from high to : ℤ) (held : Train) → low ≡ from → high ≡ to → where_held track standing low high ≡ Some held → where_held track standing from to ≡ Some held
holds_as track standing low from high to held a b h = subst (λ z. where_held track standing from z ≡ Some held) b (subst (λ z. where_held track standing z high ≡ Some held) a h)

-- the sections of a track are few
pub row_small : (track : Track) (locks new : Locks) (leg : Leg) (route : ℕ) (before : Option Leg) → IsSound track → locks_with track locks leg route before ≡ Ok new → leg.section < 4096
row_small track locks new leg route before sound is =
    let d = demanded (is_needed track leg.section (the_lock route (leg, before))) (NotOfRoute leg.section route) (result_map_both (λ locks. locks) row_fault (added locks route leg before)) new is in
    let w = (row_of track sound leg route before d.0).within in
    let few = sound.few_sections in
    omega (arith, w, few)

module _ (version : ℕ) (locks : Locks) (book : Book) (stage : Stage) (so : IsSoFar (reading_of version locks book stage)) where
  abbrev scene : Scene
  scene = record { locks = locks; trains = book.trains }

  pub so_row : (new : Locks) (leg : Leg) (route : ℕ) (before : Option Leg) (first : ℕ) → may_be_of leg.section stage ≡ true → locks_with book.track locks leg route before ≡ Ok new → IsSoFar (reading_of version new book (Rows first))
  so_row new leg route before first may is =
      let d = demanded (is_needed book.track leg.section (the_lock route (leg, before))) (NotOfRoute leg.section route) (result_map_both (λ locks. locks) row_fault (added locks route leg before)) new is in
      let none = at_rows book.track scene stage leg.section may so.stage in
      record {
        sound = so.sound;
        good = good_without_trains book.track (with_locks scene new)
            (good_with_row locks new leg route before (kept_ok row_fault (added locks route leg before) new d.1) book.track so.good.locks (row_of book.track so.sound leg route before d.0)) none;
        stage = none;
      }

  pub so_held : (new : Book) (held : Train) → IsGoodTrain book.track held → held_fault book.track scene held ≡ None → new ≡ book_with book held → IsSoFar (reading_of version locks new Held)
  so_held new held good may is =
      subst (λ (b : Book). IsSoFar (reading_of version locks b Held)) (sym is)
      (record { sound = so.sound; good = good_with_held book.track scene held may so.good good; stage = tt })

  -- ---- where a train stands

  module _ (running : Running) (is_running : stage ≡ RunningTrain running) where
    running_new : IsNew scene running.report
    running_new = subst (FitsStage book.track scene) is_running so.stage

    module _ (train : ℕ) (same : (train == running.report.train) ≡ true) (rear front : ℤ) where
      abbrev stood : Train → Result Reading SceneFault
      stood standing = Ok (reading_of version locks book (Standing (on_track book.track standing)))

      abbrev at_running : Stage → Result Reading SceneFault
      at_running s = ok_or (running_in s) Order >>= (λ (r : Running). demand (train == r.report.train) Order >> (stands_on_line book.track r rear front >>= stood))

      extent_is : with_extent train rear front (reading_of version locks book stage) ≡ (stands_on_line book.track running rear front >>= stood)
      extent_is = ap at_running is_running ∙ ap (λ b. demand b Order >> (stands_on_line book.track running rear front >>= stood)) same

      pub extent_refused : (fault : SceneFault) → stands_on_line book.track running rear front ≡ Err fault → with_extent train rear front (reading_of version locks book stage) ≡ Err fault
      extent_refused fault e = extent_is ∙ ap (λ (r : Result Train SceneFault). r >>= stood) e

      pub extent_refuses : (fault : OrMemory SceneFault) → RefusesOrMemory fault (stands_on_line book.track running rear front) → RefusesOrMemory fault (with_extent train rear front (reading_of version locks book stage))
      extent_refuses (Refused fault) e = extent_refused fault e
      extent_refuses Memory e = tt

      module _ (standing : TrainOnTrack) (on_book : standing.track ≡ book.track) (found_it : stands_on_line book.track running rear front ≡ Ok standing.train) where
        itself : on_track book.track standing.train ≡ standing
        itself = ap (λ t. let s : TrainOnTrack = record { track = t; train = standing.train } in s) (sym on_book)

        pub extent_added : with_extent train rear front (reading_of version locks book stage) ≡ Ok (reading_of version locks book (Standing standing))
        extent_added = extent_is ∙ ap (λ (r : Result Train SceneFault). r >>= stood) found_it ∙ ap (λ (s : TrainOnTrack). let r : Result Reading SceneFault = Ok (reading_of version locks book (Standing s)) in r) itself

        pub so_standing : IsSoFar (reading_of version locks book (Standing standing))
        so_standing =
            record { sound = so.sound; good = so.good; stage = (subst (IsNew scene) (standing_found book.track running rear front standing.train found_it).report running_new, on_book) }

  -- ---- what a train holds

  module _ (standing : TrainOnTrack) (is_standing : stage ≡ Standing standing) where
    standing_fits : IsNew scene standing.train.report × (standing.track ≡ book.track)
    standing_fits = subst (FitsStage book.track scene) is_standing so.stage

    module _ (from to : ℤ) (held : Train) (found_it : where_held standing.track standing.train from to ≡ Some held) where
      on_book : where_held book.track standing.train from to ≡ Some held
      on_book = subst (λ t. where_held t standing.train from to ≡ Some held) standing_fits.1 found_it

      record IsHeldTrain : Type 0 where
        report : standing.train.report ≡ held.report
        good : IsGoodTrain book.track held

      is_held_train : IsHeldTrain
      is_held_train =
          let a = and_then_found (place_at standing.train.origin from)
          (λ from. option_and_then (λ to. if_good book.track (with_authority standing.train standing.train.line from to)) (place_at standing.train.origin to)) held on_book in
          let b = and_then_found (place_at standing.train.origin to) (λ to. if_good book.track (with_authority standing.train standing.train.line a.0 to)) held a.2 in
          let train = with_authority standing.train standing.train.line a.0 b.0 in
          let e = if_found (is_good_train book.track train) train held b.2 in
          record { report = ap (λ (t : Train). t.report) e.1; good = subst (IsGoodTrain book.track) e.1 ((train_is book.track train).0 e.0) }

      pub held_new : IsNew scene held.report
      held_new = subst (IsNew scene) is_held_train.report standing_fits.0

      pub held_good : IsGoodTrain book.track held
      held_good = is_held_train.good

      pub held_apart : held_fault book.track scene held ≡ None → AuthoritiesAreApart book.track (with_train scene held)
      held_apart may = (good_with_held book.track scene held may so.good held_good).apart

      module _ (train : ℕ) (same : (train == standing.train.report.train) ≡ true) where
        abbrev put : Train → Result Reading SceneFault
        put h = Ok (record { track = book.track; version = version; scene = with_train scene h; stage = Held })

        abbrev at_standing : Stage → Result Reading SceneFault
        at_standing s = ok_or (standing_in s) Order >>= (λ (t : Train). demand (train == t.report.train) Order >> (holding book.track scene t from to >>= put))

        held_is : with_held train from to (reading_of version locks book stage) ≡ (unless (held_fault book.track scene held) (Ok held) >>= put)
        held_is =
            ap at_standing is_standing
            ∙ ap (λ b. demand b Order >> (holding book.track scene standing.train from to >>= put)) same
            ∙ ap (λ (o : Option Train). ok_or o (OffLine standing.train.report.train) >>= (λ h. unless (held_fault book.track scene h) (Ok h)) >>= put) on_book

        pub held_refused : (fault : SceneFault) → held_fault book.track scene held ≡ Some fault → with_held train from to (reading_of version locks book stage) ≡ Err fault
        held_refused fault e = held_is ∙ ap (λ (o : Option SceneFault). unless o (let r : Result Train SceneFault = Ok held in r) >>= put) e

        pub held_added : held_fault book.track scene held ≡ None → with_held train from to (reading_of version locks book stage) ≡ Ok (reading_of version locks (book_with book held) Held)
        held_added e = held_is ∙ ap (λ (o : Option SceneFault). unless o (let r : Result Train SceneFault = Ok held in r) >>= put) e
