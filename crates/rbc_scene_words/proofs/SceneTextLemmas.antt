-- The lines of a good scene are read one by one as what they say.
use Rattle.std.proofs.Common.{◌≡◌, ℕ, suc, ◌+◌, ◌<◌, ◌≤◌, ◌^◌, List, [], ◌∷◌, ◌++◌, length, map, Option, Some, None, Result, Ok, nat_abs, refl, sym, ap, ap₂, ◌∙◌, subst, arith, codes}
use Rattle.std.specs.Prelude.{IfSome, decimal, flat_map}
use Rattle.std.specs.List.{AllByRecursion}
use Rattle.std.proofs.lemmas.List.Elements.{All-from_recursion, recursion_from_All}
use Rattle.rbc_model.specs.declared.places.Leg.{Leg}
use Rattle.rbc_model.specs.declared.refusals.LineFault.{LineFault}
use Rattle.rbc_model.specs.declared.tracks.Lock.{Lock}
use Rattle.rbc_model.specs.Reports.{IsReport}
use Rattle.rbc_model.specs.Rows.{Row, rows_text}
use Rattle.rbc_model.specs.SessionReply.{leg_word}
use Rattle.rbc_model.specs.SoundTracks.{IsInForm, IsSound}
use Rattle.rbc_model.specs.Tracks.{Track}
use Rattle.rbc_model.specs.TrackLines.{HasNames}
use Rattle.rbc_model.specs.Lines.{Line}
use Rattle.rbc_model.specs.Locks.{Locks, row}
use Rattle.rbc_model.specs.Trains.{Train}
use Rattle.rbc_model.specs.Scenes.{Scene}
use Rattle.rbc_model.specs.Sessions.{lines_of}
use Rattle.rbc_model.specs.Views.{from_group}
use Rattle.rbc_model.specs.SceneLines.{holds_line, locked_lines, next_line, pieces_of, scene_body, stands_line, train_line, train_lines, way_lines, IsTellable}
use Rattle.rbc_scene_laws.specs.Good.{IsGoodScene, IsGoodTrain}
use Rattle.rbc_scene_laws.proofs.BoundLemmas.{line_length-small}
use Rattle.rbc_scene_laws.proofs.LengtheningLemmas.{linked_from_below}
use Rattle.rbc_text_laws.proofs.NextRowLemmas.{few_next_words, next_are_words}
use Rattle.rbc_text_laws.proofs.RowReadLemmas.{IsLineRow, distance_small, line_text, lines_are}
use Rattle.rbc_text_laws.proofs.TrainReadLemmas.{AreShort, IsShort, each_piece, pieces_are_short, together, together-pieces_of}
use Rattle.rbc_scene_words.specs.Laws.{AreLegsOf, IsLegOf, IsNumber, ScenesAreParsedBack}
use Rattle.rbc_scene_words.specs.SaidScenes.{said_locks, said_scene, said_train, said_way}
use Rattle.rbc_scene_words.specs.SceneLine.{SceneLine, Version, Locked, Reported, Along, More, Stands, Holds, Next, Done, parse_scene_line, scene_line_in}
use Rattle.rbc_scene_words.proofs.SaidLemmas.{read_as, row_said}

module _ (track : Track) where
  -- the rows say these lines, one by one
  abbrev Say : List Row → List SceneLine → Type 0
  Say [] [] = Unit {0}
  Say [] (line ∷ lines) = ⊥
  Say (row ∷ rows) [] = ⊥
  Say (row ∷ rows) (line ∷ lines) = IsLineRow row × (scene_line_in track row ≡ Ok line) × Say rows lines

  say_then : (rows more : List Row) (lines later : List SceneLine) → Say rows lines → Say more later → Say (rows ++ more) (lines ++ later)
  say_then [] more [] later say next = next
  say_then [] more (line ∷ lines) later say next = absurd say
  say_then (row ∷ rows) more [] later say next = absurd say
  say_then (row ∷ rows) more (line ∷ lines) later say next = (say.0, say.1, say_then rows more lines later say.2 next)

  rows_are : (rows : List Row) (lines : List SceneLine) → Say rows lines → AllByRecursion IsLineRow rows
  rows_are [] lines say = tt
  rows_are (row ∷ rows) [] say = absurd say
  rows_are (row ∷ rows) (line ∷ lines) say = (say.0, rows_are rows lines say.2)

  all_read : (rows : List Row) (lines : List SceneLine) → Say rows lines → map (parse_scene_line track) (map line_text rows) ≡ map Ok lines
  all_read [] [] say = refl
  all_read [] (line ∷ lines) say = absurd say
  all_read (row ∷ rows) [] say = absurd say
  all_read (row ∷ rows) (line ∷ lines) say =
      ap₂ (λ (read : Result SceneLine LineFault) (rest : List (Result SceneLine LineFault)). read ∷ rest) (row_said track row line say.0 say.1) (all_read rows lines say.2)

module _ (track : Track) (form : IsInForm track) (sound : IsSound track) (names : HasNames track) where
  -- ---- locks

  -- the row names what the track has
  abbrev IsRowOn : Option Lock → Type 0
  IsRowOn None = Unit {0}
  IsRowOn (Some lock) = (lock.route < length track.routes) × IfSome lock.before (IsLegOf track)

  rows_on : (locks : Locks) → ((section : ℕ) (lock : Lock) → row locks section ≡ Some lock → IsRowOn (Some lock)) → AllByRecursion IsRowOn locks
  rows_on [] each = tt
  rows_on (None ∷ locks) each = (tt, rows_on locks (λ section lock here. each (suc section) lock here))
  rows_on (Some lock ∷ locks) each = (each 0 lock refl, rows_on locks (λ section lock here. each (suc section) lock here))

  locks_say : (section : ℕ) (locks : Locks) → section + length locks ≤ length track.sections → AllByRecursion IsRowOn locks → Say track (locked_lines track section locks) (said_locks section locks)
  locks_say section [] few on = tt
  locks_say section (None ∷ locks) few on = locks_say (section + 1) locks (omega arith) on.1
  locks_say section (Some lock ∷ locks) few on =
      let r = read_as track sound names (Locked (record { section = section; direction = lock.direction }) lock.route lock.before) (omega arith, on.0.0, on.0.1) in
      (r.words, r.read, locks_say (section + 1) locks (omega arith) on.1)

  -- ---- a train

  module _ (train : Train) (report : IsReport train.report) (of : AllByRecursion (IsLegOf track) train.line) (small : train.origin < 10 ^ 10) where
    abbrev number : ℕ
    number = train.report.train

    is_number : IsNumber number
    is_number = (report.some_train, report.train)

    are_legs : (piece : Line) → AllByRecursion (IsLegOf track) piece → IsShort piece → AreLegsOf track piece
    are_legs piece of short = (All-from_recursion (IsLegOf track) piece of, short)

    later_say : (pieces : List Line) → AllByRecursion (IsLegOf track) (together pieces) → AllByRecursion IsShort pieces
        → Say track (map (λ piece. train_line (codes "along") train (map (leg_word track) piece)) pieces) (map (More number) pieces)
    later_say [] of short = tt
    later_say (piece ∷ pieces) of short =
        let each = each_piece (IsLegOf track) piece (together pieces) of in
        let r = read_as track sound names (More number piece) (is_number, are_legs piece each.0 short.0) in
        (r.words, r.read, later_say pieces each.1 short.1)

    first_says : (first : Line) (later : List Line) → length first ≤ 64 → AllByRecursion IsShort later → AllByRecursion (IsLegOf track) (together (first ∷ later))
        → Say track (way_lines track train (first ∷ later)) (said_way train (first ∷ later))
    first_says first later fits short of =
        let each = each_piece (IsLegOf track) first (together later) of in
        let r = read_as track sound names (Along number train.origin first) (is_number, small, are_legs first each.0 fits) in
        (r.words, r.read, later_say later each.1 short)

    way_says : (pieces : List Line) → AreShort 64 pieces → AllByRecursion (IsLegOf track) (together pieces) → Say track (way_lines track train pieces) (said_way train pieces)
    way_says pieces are of =
        subst (λ (p : List Line). Say track (way_lines track train p) (said_way train p)) (sym are.is)
        (first_says are.first are.later are.fits are.short (subst (λ (p : List Line). AllByRecursion (IsLegOf track) (together p)) are.is of))

    module _ (scene : Scene) (rear : train.rear < 10 ^ 10) (front : train.front < 10 ^ 10) (from : train.from < 10 ^ 10) (to : train.to < 10 ^ 10) (next : IsLineRow (next_line track scene train)) where
      abbrev last_rows : List Row
      last_rows = stands_line train ∷ holds_line train ∷ next_line track scene train ∷ []

      abbrev last_lines : List SceneLine
      last_lines =
          Stands number (from_group train train.rear) (from_group train train.front)
          ∷ Holds number (from_group train train.from) (from_group train train.to)
          ∷ Next
          ∷ []

      last_say : Say track last_rows last_lines
      last_say =
          let near : (place : ℕ) → place < 10 ^ 10 → nat_abs (from_group train place) < 10 ^ 10 = λ place little. distance_small place train.origin little small in
          let stands = read_as track sound names (Stands number (from_group train train.rear) (from_group train train.front)) (is_number, near train.rear rear, near train.front front) in
          let holds = read_as track sound names (Holds number (from_group train train.from) (from_group train train.to)) (is_number, near train.from from, near train.to to) in
          (stands.words, stands.read, (holds.words, holds.read, (next, refl, tt)))

      train_says : Say track (train_lines track scene train) (said_train train)
      train_says =
          let whole = together-pieces_of 64 train.line in
          let r = read_as track sound names (Reported train.report) report in (
            r.words,
            r.read,
            say_then track (way_lines track train (pieces_of 64 train.line)) last_rows (said_way train (pieces_of 64 train.line)) last_lines
                (way_says (pieces_of 64 train.line) (pieces_are_short 64 train.line) (subst (AllByRecursion (IsLegOf track)) (sym whole) of))
                last_say,
          )

  -- ---- the scene

  module _ (scene : Scene) (good : IsGoodScene track scene) (tellable : IsTellable track scene) where
    row_on : (section : ℕ) (lock : Lock) → row scene.locks section ≡ Some lock → IsRowOn (Some lock)
    row_on section lock here = (tellable.routes section lock here, by_leg lock.before refl)
      where
        by_leg : (o : Option Leg) → lock.before ≡ o → IfSome o (IsLegOf track)
        by_leg None e = tt
        by_leg (Some leg) e = linked_from_below track leg (record { section = section; direction = lock.direction }) sound (good.locks.linked section lock leg here e)

    -- what is known of a train of the scene
    record IsKnown (train : Train) : Type 0 where
      stands : IsGoodTrain track train
      report : IsReport train.report

    both_known : (trains : List Train) → AllByRecursion (IsGoodTrain track) trains → AllByRecursion (λ (t : Train). IsReport t.report) trains → AllByRecursion IsKnown trains
    both_known [] a b = tt
    both_known (train ∷ trains) a b = (record { stands = a.0; report = b.0 }, both_known trains a.1 b.1)

    numbers_small : (trains : List Train) → AllByRecursion (λ (t : Train). IsReport t.report) trains → AllByRecursion (λ (t : Train). t.report.train < 10 ^ 10) trains
    numbers_small [] all = tt
    numbers_small (train ∷ trains) all = (let high = all.0.train in omega arith, numbers_small trains all.1)

    reports : AllByRecursion (λ (t : Train). IsReport t.report) scene.trains
    reports = recursion_from_All (λ (t : Train). IsReport t.report) scene.trains tellable.reports

    one_says : (train : Train) → IsKnown train → Say track (train_lines track scene train) (said_train train)
    one_says train known =
        let well = known.stands in
        let number = known.report.train in
        let small : train.report.train < 10 ^ 10 = omega arith in
        let long = line_length-small track train.line sound form well.line in
        let origin = well.origin in
        let front = well.front in
        let rear = well.rear in
        let from = well.from in
        let to = well.to in
        let numbers = numbers_small scene.trains reports in
        let few = few_next_words track sound names form scene train good well small numbers in
        train_says train known.report (recursion_from_All (IsLegOf track) train.line well.line.of_track) (omega arith) scene (omega arith) (omega arith) (omega arith) (omega arith)
        (next_are_words track sound names form scene train good well small numbers, refl, omega (arith, few))

    trains_say : (trains : List Train) → AllByRecursion IsKnown trains → Say track (flat_map (train_lines track scene) trains) (flat_map said_train trains)
    trains_say [] known = tt
    trains_say (train ∷ trains) known =
        say_then track (train_lines track scene train) (flat_map (train_lines track scene) trains) (said_train train) (flat_map said_train trains) (one_says train known.0) (trains_say trains known.1)

    module _ (version : ℕ) (small : version < 10 ^ 10) where
      abbrev rows : List Row
      rows = (codes "scene" ∷ decimal version ∷ []) ∷ (scene_body track scene ++ (codes "done" ∷ []) ∷ [])

      all_say : Say track rows (said_scene version scene)
      all_say =
          let as_many = good.locks.as_many in
          let first = read_as track sound names (Version version) small in
          let last = read_as track sound names Done tt in
          let locks = locks_say 0 scene.locks (omega (arith, as_many)) (rows_on scene.locks row_on) in
          let trains = trains_say scene.trains (both_known scene.trains (recursion_from_All (IsGoodTrain track) scene.trains good.trains) reports) in (
            first.words,
            first.read,
            say_then track (scene_body track scene) ((codes "done" ∷ []) ∷ []) (said_locks 0 scene.locks ++ flat_map said_train scene.trains) (Done ∷ [])
                (say_then track (locked_lines track 0 scene.locks) (flat_map (train_lines track scene) scene.trains) (said_locks 0 scene.locks) (flat_map said_train scene.trains) locks trains)
                (last.words, last.read, tt),
          )

      scene_read : map (parse_scene_line track) (lines_of (rows_text rows)) ≡ map Ok (said_scene version scene)
      scene_read =
          ap (map (parse_scene_line track)) (lines_are rows (rows_are track rows (said_scene version scene) all_say)) ∙ all_read track rows (said_scene version scene) all_say

pub scenes_parsed_back : ScenesAreParsedBack
scenes_parsed_back track version scene form sound names good tellable small = scene_read track form sound names scene good tellable version small
