-- The trains that are written are read back.
use Rattle.std.proofs.Common.{◌≡◌, ℕ, ◌+◌, ◌<◌, ◌≤◌, Bool, true, false, ◌&&◌, cond, List, [], ◌∷◌, ◌++◌, length, map, nat_le, nat_lt, Option, Some, None, Result, Ok, refl, sym, ap, ◌∙◌, subst, arith, append_assoc, append-nil, length-append}
use Rattle.std.specs.Prelude.{◌==◌, pos, All, IsTrue, find, is_none, is_some, flat_map, option_map}
use Rattle.std.specs.List.{AllByRecursion, list_any}
use Rattle.std.specs.Option.{ok_or, option_and_then, option_or}
use Rattle.std.proofs.Math.IntN.{ -ℤ-+ℤ_cancel}
use Rattle.std.proofs.lemmas.Bool.{eqb-true, le-leb, or_parts}
use Rattle.std.proofs.lemmas.List.Elements.{recursion_from_All}
use Rattle.rbc_model.specs.declared.limits.TheConstants.{MOST_TRAINS}
use Rattle.rbc_model.specs.declared.places.Leg.{Leg}
use Rattle.rbc_model.specs.declared.places.Metre.{Metre}
use Rattle.rbc_model.specs.declared.tracks.BaliseGroup.{BaliseGroup}
use Rattle.rbc_model.specs.Results.{demand, unless, ◌>>=◌, ◌>>◌}
use Rattle.rbc_model.specs.Scales.{farthest}
use Rattle.rbc_model.specs.Tracks.{Track, IsMetreOf, group_named}
use Rattle.rbc_model.specs.Lines.{Line, leg_at}
use Rattle.rbc_model.specs.Trains.{Train}
use Rattle.rbc_model.specs.Obstacles.{is_locked}
use Rattle.rbc_model.specs.Scenes.{Scene, authority_has, train_numbered}
use Rattle.rbc_model.specs.Events.{with_train}
use Rattle.rbc_model.specs.SceneLines.{pieces_of, place_in}
use Rattle.rbc_model.specs.Views.{from_group}
use Rattle.rbc_scene_laws.specs.Good.{IsGoodScene, IsGoodTrain}
use Rattle.rbc_scene_laws.proofs.BasicLemmas.{EachPair, recursion_from_AllPairs}
use Rattle.rbc_scene_laws.proofs.TrainListLemmas.{Differ}
use Rattle.rbc_good_laws.specs.Good.{is_good_train}
use Rattle.rbc_good_laws.specs.Tests.{hold_both, share_metre}
use Rattle.rbc_good_laws.specs.Told.{IsToldScene, StandsAsTold, stands_as_told}
use Rattle.rbc_good_laws.proofs.GoodLemmas.{line_is, train_is}
use Rattle.rbc_good_laws.proofs.TestLemmas.{apart_pair, held_locked_by_legs}
use Rattle.rbc_good_laws.proofs.ToldLemmas.{told_trains_decided}
use Rattle.rbc_scene.specs.Entries.{on_track}
use Rattle.rbc_scene_words.specs.SceneLine.{SceneLine, More, Stands, Holds, Next, Done}
use Rattle.rbc_scene_words.specs.SaidScenes.{said_train, said_way}
use Rattle.rbc_scene_reading.specs.Pieces.{fits, is_full}
use Rattle.rbc_scene_reading.specs.Running.{Running}
use Rattle.rbc_scene_reading.specs.Stages.{is_between}
use Rattle.rbc_scene_reading.specs.Readings.{Reading}
use Rattle.rbc_scene_reading.specs.Reading.{first_shared, held_fault, holding, if_good, if_stands, place_at, report_fault, standing_at, stands_on_line, where_held, where_told, with_extent, with_held, with_report}
use Rattle.rbc_scene_reading.specs.declared.fault.SceneFault.{SceneFault}
use Rattle.rbc_scene_reading.specs.declared.fault.SceneFault.TheVariants.{Order, Crowded, TwiceTold, UnknownGroup, TooFar, NoLine, NotAsTold, OffLine, NotLocked, Held as HeldTwice}
use Rattle.rbc_scene_reading.specs.declared.stage.Stage.{Stage}
use Rattle.rbc_scene_reading.specs.declared.stage.Stage.TheVariants.{Rows, Told, Running as RunningTrain, Standing, Held, Between, Ended}
use Rattle.rbc_scene_reading.proofs.PieceLemmas.{Fill, fill-pieces_of, together, together-pieces_of}
use Rattle.rbc_scene_reading.proofs.StepLemmas.{Ends}
use Rattle.rbc_scene_reading.proofs.TrainLemmas.{none_unlocked}

-- ---- one train among the others

-- what holds of each pair holds of those before one, with it
beside : (R : Train → Train → Type 0) (before later : List Train) (train : Train) → EachPair R (before ++ train ∷ later) → AllByRecursion (λ other. R other train) before
beside R [] later train pairs = tt
beside R (first ∷ before) later train pairs = (one (R first) before pairs.0, beside R before later train pairs.1)
  where
    one : (P : Train → Type 0) (before : List Train) → AllByRecursion P (before ++ train ∷ later) → P train
    one P [] each = each.0
    one P (other ∷ before) each = one P before each.1

-- and what holds of each holds of one
among : (P : Train → Type 0) (before later : List Train) (train : Train) → AllByRecursion P (before ++ train ∷ later) → P train
among P [] later train each = each.0
among P (other ∷ before) later train each = among P before later train each.1

not_found : {X : Type 0} (test : X → Bool) (xs : List X) → AllByRecursion (λ x. test x ≡ false) xs → find test xs ≡ None
not_found test [] each = refl
not_found test (x ∷ xs) each = ap (λ b. cond b (Some x) (find test xs)) each.0 ∙ not_found test xs each.1

false_unless : (b : Bool) → (b ≡ true → ⊥) → b ≡ false
false_unless true h = absurd (h refl)
false_unless false h = refl

each_so : (P Q : Train → Type 0) (trains : List Train) → ((train : Train) → P train → Q train) → AllByRecursion P trains → AllByRecursion Q trains
each_so P Q [] f each = tt
each_so P Q (train ∷ trains) f each = (f train each.0, each_so P Q trains f each.1)

none_shared : (track : Track) (trains : List Train) (train : Train) (line : Line) → AllByRecursion (λ other. list_any (λ leg. hold_both track leg.section train other) line ≡ false) trains
    → first_shared track trains train line ≡ None
none_shared track trains train [] each = refl
none_shared track trains train (leg ∷ line) each =
    let parts = λ (other : Train) (e : list_any (λ leg. hold_both track leg.section train other) (leg ∷ line) ≡ false).
    or_parts (hold_both track leg.section train other) (list_any (λ leg. hold_both track leg.section train other) line) e in
    let here = each_so (λ other. list_any (λ leg. hold_both track leg.section train other) (leg ∷ line) ≡ false) (λ other. hold_both track leg.section train other ≡ false) trains (λ other e. (parts other e).0) each in
    let later = each_so (λ other. list_any (λ leg. hold_both track leg.section train other) (leg ∷ line) ≡ false) (λ other. list_any (λ leg. hold_both track leg.section train other) line ≡ false) trains (λ other e. (parts other e).1) each in
    ap (λ (o : Option Train). option_or (option_map (λ other. (other, leg.section)) (option_map (λ (other : Train). other.report.train) o)) (first_shared track trains train line))
    (not_found (hold_both track leg.section train) trains here)
    ∙ none_shared track trains train line later

module _ (track : Track) (version : ℕ) (scene : Scene) (good : IsGoodScene track scene) (told : IsToldScene track scene) where
  -- once the first trains were read
  abbrev pub trains_read : List Train → Stage → Reading
  trains_read trains stage = record { track = track; version = version; scene = record { locks = scene.locks; trains = trains }; stage = stage }

  abbrev End : Reading → List SceneLine → Type 0
  End = Ends track version scene

  module _ (before later : List Train) (train : Train) (is : before ++ train ∷ later ≡ scene.trains) where
    abbrev number : ℕ
    number = train.report.train

    abbrev so_far : Scene
    so_far = record { locks = scene.locks; trains = before }

    of_all : (P : Train → Type 0) → All P scene.trains → P train
    of_all P each = among P before later train (subst (AllByRecursion P) (sym is) (recursion_from_All P scene.trains each))

    well : IsGoodTrain track train
    well = of_all (IsGoodTrain track) good.trains

    stands : StandsAsTold track train
    stands = of_all (StandsAsTold track) told.trains

    new : train_numbered so_far number ≡ None
    new =
        not_found (λ (other : Train). other.report.train == number) before
        (each_so (λ other. Differ other train) (λ other. (other.report.train == number) ≡ false) before
        (λ other differ. false_unless (other.report.train == number) (λ e. differ (eqb-true other.report.train number e)))
        (beside Differ before later train (subst (EachPair Differ) (sym is) (recursion_from_AllPairs Differ scene.trains good.numbers_differ))))

    few : length before < 1024
    few =
        let all = told.few in
        let e : length (before ++ train ∷ later) ≡ length scene.trains = ap length is in
        let more = length-append before (train ∷ later) in
        omega (arith, all, e, more)

    -- ---- its report

    no_fault : report_fault track so_far train.report ≡ None
    no_fault =
        ap (λ b. cond b (Some (Crowded number)) (twice (is_some (train_numbered so_far number)))) (let f = few in let t : nat_le MOST_TRAINS (length before) ≡ false = grind arith in t)
        ∙ ap (λ (o : Option Train). twice (is_some o)) new
        ∙ ap (λ (o : Option BaliseGroup). unknown (is_none o)) stands.1
        ∙ ap (λ b. cond b (Some (TooFar number)) None) (let near = stands.2.near in let t : nat_lt (farthest track.format) (train.report.distance + train.report.under) ≡ false = grind arith in t)
      where
        unknown : Bool → Option SceneFault
        unknown b = cond b (Some (UnknownGroup number)) (cond (nat_lt (farthest track.format) (train.report.distance + train.report.under)) (Some (TooFar number)) None)

        twice : Bool → Option SceneFault
        twice b = cond b (Some (TwiceTold number)) (unknown (is_none (group_named track train.report.group)))

    report_read : (stage : Stage) → is_between stage ≡ true → with_report train.report (trains_read before stage) ≡ Ok (trains_read before (Told train.report))
    report_read stage between =
        ap (λ b. demand b Order >> unless (report_fault track so_far train.report) (Ok (trains_read before (Told train.report)))) between
        ∙ ap (λ (o : Option SceneFault). unless o (let r : Result Reading SceneFault = Ok (trains_read before (Told train.report)) in r)) no_fault

    -- ---- its line

    abbrev running : Line → Bool → Running
    running legs full = record { report = train.report; origin = train.origin; legs = legs; full = full }

    itself : (number == number) ≡ true
    itself = grind arith

    pieces_read : (legs last : Line) (pieces : List Line) (rest : List SceneLine) → Fill 64 (last ∷ pieces)
        → ((full : Bool) → End (trains_read before (RunningTrain (running (legs ++ together pieces) full))) rest)
        → End (trains_read before (RunningTrain (running legs (is_full last)))) (map (More number) pieces ++ rest)
    pieces_read legs last [] rest fill behind = subst (λ (l : Line). End (trains_read before (RunningTrain (running l (is_full last)))) rest) (append-nil legs) (behind (is_full last))
    pieces_read legs last (piece ∷ pieces) rest fill behind = (
      trains_read before (RunningTrain (running (legs ++ piece) (is_full piece))),
      ap (λ b. demand b Order >> after) tests,
      refl,
      pieces_read (legs ++ piece) piece pieces rest fill.2
          (λ full. subst (λ (l : Line). End (trains_read before (RunningTrain (running l full))) rest) (sym (append_assoc legs piece (together pieces))) (behind full)),
    )
      where
        after : Result Reading SceneFault
        after = Ok (trains_read before (RunningTrain (running (legs ++ piece) (is_full piece))))

        short : (pieces : List Line) → Fill 64 (piece ∷ pieces) → length piece ≤ 64
        short [] h = h
        short (next ∷ pieces) h = let e = h.0 in omega arith

        all_four : (a b c d : Bool) → a ≡ true → b ≡ true → c ≡ true → d ≡ true → (a && b && c && d) ≡ true
        all_four true true true true e f g h = refl
        all_four false b c d e f g h = absurd (let never : ⊥ = cc in never)
        all_four true false c d e f g h = absurd (let never : ⊥ = cc in never)
        all_four true true false d e f g h = absurd (let never : ⊥ = cc in never)
        all_four true true true false e f g h = absurd (let never : ⊥ = cc in never)

        tests : (number == number && is_full last && nat_lt 0 (length piece) && fits piece) ≡ true
        tests =
            all_four (number == number) (is_full last) (nat_lt 0 (length piece)) (fits piece) itself
            (let e = fill.0 in let t : (length last == 64) ≡ true = grind arith in t)
            (let e = fill.1 in let t : nat_lt 0 (length piece) ≡ true = grind arith in t)
            (le-leb (length piece) 64 (short pieces fill.2))

    way_read : (pieces : List Line) (rest : List SceneLine) → Fill 64 pieces → ((full : Bool) → End (trains_read before (RunningTrain (running (together pieces) full))) rest)
        → End (trains_read before (Told train.report)) (said_way train pieces ++ rest)
    way_read [] rest fill behind = absurd fill
    way_read (first ∷ later) rest fill behind = (
      trains_read before (RunningTrain (running first (is_full first))),
      ap (λ b. demand b Order >> after) (both_true (number == number) (fits first) itself (le-leb (length first) 64 (short later fill))),
      refl,
      pieces_read first first later rest fill behind,
    )
      where
        after : Result Reading SceneFault
        after = Ok (trains_read before (RunningTrain (running first (is_full first))))

        short : (later : List Line) → Fill 64 (first ∷ later) → length first ≤ 64
        short [] h = h
        short (next ∷ later) h = let e = h.0 in omega arith

        both_true : (a b : Bool) → a ≡ true → b ≡ true → (a && b) ≡ true
        both_true true true e f = refl
        both_true false b e f = absurd (let never : ⊥ = cc in never)
        both_true true false e f = absurd (let never : ⊥ = cc in never)

    -- ---- where it stands

    back : (place : ℕ) → place_at train.origin (from_group train place) ≡ Some place
    back place = ap place_in (-ℤ-+ℤ_cancel (pos place) (pos train.origin))

    abbrev standing : Train
    standing = standing_at (running train.line false) train.rear train.front

    standing_good : is_good_train track standing ≡ true
    standing_good =
        (train_is track standing).1
        (record {
          line = well.line;
          origin = well.origin;
          rear = well.rear;
          front = well.front;
          behind = well.rear;
          from = omega arith;
          to = well.front;
        })

    standing_told : stands_as_told track standing ≡ true
    standing_told =
        (told_trains_decided track standing).1
        (stands.0, stands.1, record { origin = stands.2.origin; front = stands.2.front; rear = stands.2.rear; near = stands.2.near })

    found_there : (full : Bool) → where_told track (running train.line full) (from_group train train.rear) (from_group train train.front) ≡ Some standing
    found_there full =
        ap (λ (o : Option ℕ). option_and_then (λ rear. option_and_then (λ front. if_stands track (standing_at (running train.line full) rear front)) (place_at train.origin (from_group train train.front))) o) (back train.rear)
        ∙ ap (λ (o : Option ℕ). option_and_then (λ front. if_stands track (standing_at (running train.line full) train.rear front)) o) (back train.front)
        ∙ ap (λ b. cond (b && stands_as_told track standing) (Some standing) None) standing_good
        ∙ ap (λ b. cond b (Some standing) None) standing_told

    line_there : (full : Bool) → stands_on_line track (running train.line full) (from_group train train.rear) (from_group train train.front) ≡ Ok standing
    line_there full =
        ap (λ b. demand b (NoLine number) >> ok_or (where_told track (running train.line full) (from_group train train.rear) (from_group train train.front)) (NotAsTold number)) ((line_is track train.line).1 well.line)
        ∙ ap (λ (o : Option Train). ok_or o (NotAsTold number)) (found_there full)

    extent_read : (full : Bool) → with_extent number (from_group train train.rear) (from_group train train.front) (trains_read before (RunningTrain (running train.line full)))
        ≡ Ok (trains_read before (Standing (on_track track standing)))
    extent_read full =
        ap (λ b. demand b Order >> (stands_on_line track (running train.line full) (from_group train train.rear) (from_group train train.front) >>= after)) itself
        ∙ ap (λ (r : Result Train SceneFault). r >>= after) (line_there full)
      where
        after : Train → Result Reading SceneFault
        after standing = Ok (trains_read before (Standing (on_track track standing)))

    -- ---- what it holds

    held_there : where_held track standing (from_group train train.from) (from_group train train.to) ≡ Some train
    held_there =
        ap (λ (o : Option ℕ). option_and_then (λ from. option_and_then (λ to. if_good track (record { report = train.report; line = train.line; origin = train.origin; rear = train.rear; front = train.front; from = from; to = to })) (place_at train.origin (from_group train train.to))) o) (back train.from)
        ∙ ap (λ (o : Option ℕ). option_and_then (λ to. if_good track (record { report = train.report; line = train.line; origin = train.origin; rear = train.rear; front = train.front; from = train.from; to = to })) o) (back train.to)
        ∙ ap (λ b. cond b (Some train) None) ((train_is track train).1 well)

    may_hold : held_fault track so_far train ≡ None
    may_hold =
        ap (λ (o : Option ℕ). option_or (option_map (NotLocked number) o) (option_map (λ both. HeldTwice number both.0 both.1) (first_shared track before train train.line)))
        (none_unlocked track scene.locks train.from train.to 0 train.line ((held_locked_by_legs track scene.locks train).1 (of_all HeldIsLocked good.locked)))
        ∙ ap (λ (o : Option (ℕ × ℕ)). option_map (λ (both : ℕ × ℕ). HeldTwice number both.0 both.1) o)
        (none_shared track before train train.line
        (each_so (λ other. ApartFrom other train) (λ other. share_metre track train other ≡ false) before (λ other apart. apart_pair track train other (λ metre inside a b. apart metre inside b a))
        (beside ApartFrom before later train (subst (EachPair ApartFrom) (sym is) (recursion_from_AllPairs ApartFrom scene.trains good.apart)))))
      where
        HeldIsLocked : Train → Type 0
        HeldIsLocked train = (i : ℕ) (leg : Leg) → train.from ≤ i → i < train.to → leg_at track train.line i ≡ Some leg → IsTrue (is_locked scene.locks None leg)

        ApartFrom : Train → Train → Type 0
        ApartFrom a b = (metre : Metre) → IsMetreOf track metre → IsTrue (authority_has track metre a) → IsTrue (authority_has track metre b) → ⊥

    behind_others : with_train so_far train ≡ record { locks = scene.locks; trains = before ++ train ∷ [] }
    behind_others =
        ap (λ (o : Option Train). let trains : List Train = cond (is_some o) (map (λ (other : Train). cond (other.report.train == number) train other) before) (before ++ train ∷ []) in
        let scene : Scene = record { locks = scene.locks; trains = trains } in scene) new

    held_read : with_held number (from_group train train.from) (from_group train train.to) (trains_read before (Standing (on_track track standing))) ≡ Ok (trains_read (before ++ train ∷ []) Held)
    held_read =
        ap (λ b. demand b Order >> (holding track so_far standing (from_group train train.from) (from_group train train.to) >>= after)) itself
        ∙ ap (λ (o : Option Train). ok_or o (OffLine number) >>= (λ held. unless (held_fault track so_far held) (Ok held)) >>= after) held_there
        ∙ ap (λ (o : Option SceneFault). unless o (let r : Result Train SceneFault = Ok train in r) >>= after) may_hold
        ∙ ap (λ (s : Scene). let r : Result Reading SceneFault = Ok (record { track = track; version = version; scene = s; stage = Held }) in r) behind_others
      where
        after : Train → Result Reading SceneFault
        after held = Ok (record { track = track; version = version; scene = with_train so_far held; stage = Held })

    -- ---- all its lines

    abbrev last_lines : List SceneLine
    last_lines =
        Stands number (from_group train train.rear) (from_group train train.front)
        ∷ Holds number (from_group train train.from) (from_group train train.to)
        ∷ Next
        ∷ []

    train_read : (stage : Stage) (rest : List SceneLine) → is_between stage ≡ true → End (trains_read (before ++ train ∷ []) Between) rest → End (trains_read before stage) (said_train train ++ rest)
    train_read stage rest between behind = (
      trains_read before (Told train.report),
      report_read stage between,
      refl,
      subst (End (trains_read before (Told train.report))) (sym (append_assoc (said_way train (pieces_of 64 train.line)) last_lines rest))
          (way_read (pieces_of 64 train.line) (last_lines ++ rest) (fill-pieces_of 64 train.line)
          (λ full. subst (λ (l : Line). End (trains_read before (RunningTrain (running l full))) (last_lines ++ rest)) (sym (together-pieces_of 64 train.line)) (
            trains_read before (Standing (on_track track standing)),
            extent_read full,
            refl,
            (
              trains_read (before ++ train ∷ []) Held,
              held_read,
              refl,
              (trains_read (before ++ train ∷ []) Between, refl, refl, behind),
            ),
          ))),
    )

  all_read : (before later : List Train) (stage : Stage) → before ++ later ≡ scene.trains → is_between stage ≡ true → End (trains_read before stage) (flat_map said_train later ++ Done ∷ [])
  all_read before [] stage is between =
      let all : before ≡ scene.trains = sym (append-nil before) ∙ is in (
        trains_read before Ended,
        ap (λ b. demand b Order >> ended before) between,
        refl,
        ap (λ (trains : List Train). trains_read trains Ended) all,
      )
    where
      ended : List Train → Result Reading SceneFault
      ended trains = Ok (trains_read trains Ended)
  all_read before (train ∷ later) stage is between =
      subst (End (trains_read before stage)) (sym (append_assoc (said_train train) (flat_map said_train later) (Done ∷ [])))
      (train_read before later train is stage (flat_map said_train later ++ Done ∷ []) between (all_read (before ++ train ∷ []) later Between (append_assoc before (train ∷ []) later ∙ is) refl))

  -- what the trains lead to, from none on
  pub trains_end : (first : ℕ) → End (trains_read [] (Rows first)) (flat_map said_train scene.trains ++ Done ∷ [])
  trains_end first = all_read [] scene.trains (Rows first) refl refl
