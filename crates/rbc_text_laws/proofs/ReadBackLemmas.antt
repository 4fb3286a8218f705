-- The lines of a scene are read back as this scene.
use Rattle.std.proofs.Common.{◌≡◌, ℕ, suc, ◌+◌, ◌<◌, ◌≤◌, ◌^◌, List, [], ◌∷◌, ◌++◌, length, map, Option, Some, None, Result, Ok, Err, refl, sym, ap, ◌∙◌, subst, arith, append_assoc, append-nil, codes, lit≤, lit<}
use Rattle.std.specs.Prelude.{decimal, flat_map, IfSome, IsTrue, All, slice_get}
use Rattle.std.specs.List.{AllByRecursion}
use Rattle.std.specs.Option.{ok_or}
use Rattle.std.specs.Result.{result_ok}
use Rattle.std.proofs.lemmas.List.{map-append, length-map}
use Rattle.std.proofs.lemmas.List.Elements.{recursion_from_All}
use Rattle.rbc_model.specs.declared.places.Leg.{Leg}
use Rattle.rbc_model.specs.declared.refusals.LineFault.{LineFault}
use Rattle.rbc_model.specs.declared.refusals.LineFault.TheVariants.{Number}
use Rattle.rbc_model.specs.declared.tracks.Lock.{Lock}
use Rattle.rbc_model.specs.Reports.{IsReport}
use Rattle.rbc_model.specs.Results.{◌>>=◌}
use Rattle.rbc_model.specs.Rows.{Row, rows_text}
use Rattle.rbc_model.specs.Sessions.{lines_of}
use Rattle.rbc_model.specs.SoundTracks.{IsInForm, IsSound}
use Rattle.rbc_model.specs.Tracks.{Track, Section}
use Rattle.rbc_model.specs.TrackLines.{HasNames}
use Rattle.rbc_model.specs.Lines.{Line}
use Rattle.rbc_model.specs.Locks.{Locks, row, no_locks}
use Rattle.rbc_model.specs.Trains.{Train}
use Rattle.rbc_model.specs.Scenes.{Scene, empty_scene}
use Rattle.rbc_model.specs.SceneLines.{locked_lines, read_all, read_lines, row_in, scene_body, train_lines, version_in, IsTellable}
use Rattle.rbc_model.proofs.WordLemmas.{number_is_word, number_in-decimal}
use Rattle.rbc_scene_laws.specs.Good.{IsGoodLocks, IsGoodScene, IsGoodTrain}
use Rattle.rbc_scene_laws.proofs.BoundLemmas.{line_length-small}
use Rattle.rbc_scene_laws.proofs.LengtheningLemmas.{linked_from_below}
use Rattle.rbc_text_laws.specs.ToldScenes.{SceneLinesAreReadBack}
use Rattle.rbc_text_laws.proofs.RowReadLemmas.{IsLineRow, Tells, lines_are, line_text, row_in-read, rows_are, rows_read, tells_then}
use Rattle.rbc_text_laws.proofs.SceneReadLemmas.{IsRowOfTrack, RowIsOfTrack, locks_told}
use Rattle.rbc_text_laws.proofs.TrainReadLemmas.{train_told}
use Rattle.rbc_text_laws.proofs.NextRowLemmas.{next_are_words, few_next_words}

-- lists of one length have as many rows that are not told
same_untold : {X Y : Type 0} (xs : List X) (ys : List Y) → length xs ≡ length ys → map (λ _. let none : Option Lock = None in none) xs ≡ map (λ _. let none : Option Lock = None in none) ys
same_untold [] [] e = refl
same_untold [] (y ∷ ys) e = absurd (omega (arith, e))
same_untold (x ∷ xs) [] e = absurd (omega (arith, e))
same_untold (x ∷ xs) (y ∷ ys) e = ap (λ l. None ∷ l) (same_untold xs ys (omega (arith, e)))

module _ (track : Track) (form : IsInForm track) (sound : IsSound track) (names : HasNames track) where
  -- the rows of good locks name what the track has
  rows_of_track : (locks : Locks) → ((section : ℕ) (lock : Lock) → row locks section ≡ Some lock → IsRowOfTrack track sound names lock) → AllByRecursion (RowIsOfTrack track sound names) locks
  rows_of_track [] each = tt
  rows_of_track (None ∷ locks) each = (tt, rows_of_track locks (λ section lock here. each (suc section) lock here))
  rows_of_track (Some lock ∷ locks) each = (each 0 lock refl, rows_of_track locks (λ section lock here. each (suc section) lock here))

  module _ (scene : Scene) (good : IsGoodScene track scene) (tellable : IsTellable track scene) where
    row_of_track : (section : ℕ) (lock : Lock) → row scene.locks section ≡ Some lock → IsRowOfTrack track sound names lock
    row_of_track section lock here = record { route = tellable.routes section lock here; before = by_leg lock.before refl }
      where
        by_leg : (o : Option Leg) → lock.before ≡ o → IfSome o (λ (leg : Leg). leg.section < length track.sections)
        by_leg None e = tt
        by_leg (Some leg) e = linked_from_below track leg (record { section = section; direction = lock.direction }) sound (good.locks.linked section lock leg here e)

    abbrev told : List Train → Scene
    told trains = record { locks = scene.locks; trains = trains }

    locks_lead : Tells track (empty_scene track) (locked_lines track 0 scene.locks) (told [])
    locks_lead =
        let as_many = good.locks.as_many in
        subst (λ (l : Locks). Tells track (record { locks = l; trains = [] }) (locked_lines track 0 scene.locks) (told [])) (same_untold scene.locks track.sections as_many)
        (locks_told track sound names [] scene.locks [] (omega (arith, as_many)) (rows_of_track scene.locks row_of_track))

    -- what is known of a train of the scene
    record IsKnown (train : Train) : Type 0 where
      stands : IsGoodTrain track train
      report : IsReport train.report

    known_small : (trains : List Train) → AllByRecursion (λ (t : Train). IsReport t.report) trains → AllByRecursion (λ (t : Train). t.report.train < 10 ^ 10) trains
    known_small [] all = tt
    known_small (train ∷ trains) all = (let high = all.0.train in omega arith, known_small trains all.1)

    one_leads : (before : List Train) (train : Train) → IsKnown train → Tells track (told before) (train_lines track scene train) (told (before ++ train ∷ []))
    one_leads before train known =
        let well = known.stands in
        let number = known.report.train in
        let small : train.report.train < 10 ^ 10 = omega arith in
        let long = line_length-small track train.line sound form well.line in
        let origin = well.origin in
        let front = well.front in
        let rear = well.rear in
        let from = well.from in
        let to = well.to in
        let reports = recursion_from_All (λ (t : Train). IsReport t.report) scene.trains tellable.reports in
        let numbers = known_small scene.trains reports in
        train_told track sound names scene.locks before scene train known.report
        (recursion_from_All (λ (leg : Leg). leg.section < length track.sections) train.line well.line.of_track)
        (omega arith) (omega arith) (omega arith) (omega arith) (omega arith)
        (next_are_words track sound names form scene train good well small numbers)
        (few_next_words track sound names form scene train good well small numbers)

    trains_lead : (before trains : List Train) → AllByRecursion IsKnown trains → Tells track (told before) (flat_map (train_lines track scene) trains) (told (before ++ trains))
    trains_lead before [] known = ap told (sym (append-nil before))
    trains_lead before (train ∷ trains) known =
        subst (λ (l : List Train). Tells track (told before) (flat_map (train_lines track scene) (train ∷ trains)) (told l)) (append_assoc before (train ∷ []) trains)
        (tells_then track (told before) (told (before ++ train ∷ [])) (told ((before ++ train ∷ []) ++ trains)) (train_lines track scene train) (flat_map (train_lines track scene) trains)
        (one_leads before train known.0) (trains_lead (before ++ train ∷ []) trains known.1))

    both_known : (trains : List Train) → AllByRecursion (IsGoodTrain track) trains → AllByRecursion (λ (t : Train). IsReport t.report) trains → AllByRecursion IsKnown trains
    both_known [] a b = tt
    both_known (train ∷ trains) a b = (record { stands = a.0; report = b.0 }, both_known trains a.1 b.1)

    body_leads : Tells track (empty_scene track) (scene_body track scene) scene
    body_leads =
        tells_then track (empty_scene track) (told []) scene (locked_lines track 0 scene.locks) (flat_map (train_lines track scene) scene.trains) locks_lead
        (trains_lead [] scene.trains
        (both_known scene.trains (recursion_from_All (IsGoodTrain track) scene.trains good.trains) (recursion_from_All (λ (t : Train). IsReport t.report) scene.trains tellable.reports)))

    -- ---- the whole text

    module _ (version : ℕ) (small : version < 10 ^ 10) where
      abbrev first : Row
      first = codes "scene" ∷ decimal version ∷ []

      first_is_row : IsLineRow first
      first_is_row = ((record { some = lit< tt; short = lit≤ tt; visible = refl }, (number_is_word version small, tt)), refl, lit≤ tt)

      last_is_row : IsLineRow (codes "done" ∷ [])
      last_is_row = ((record { some = lit< tt; short = lit≤ tt; visible = refl }, tt), refl, lit≤ tt)

      each_then : (rows : List Row) → AllByRecursion IsLineRow rows → AllByRecursion IsLineRow (rows ++ (codes "done" ∷ []) ∷ [])
      each_then [] are = (last_is_row, tt)
      each_then (row ∷ rows) are = (are.0, each_then rows are.1)

      read : read_all track (map line_text (first ∷ (scene_body track scene ++ (codes "done" ∷ []) ∷ []))) ≡ Ok (version, scene)
      read =
          let rest = map line_text (scene_body track scene ++ (codes "done" ∷ []) ∷ []) in
          let behind : ℕ → Result (ℕ × Scene) LineFault = λ v. read_lines track v (empty_scene track) rest in
          let started : Result Row LineFault → Result (ℕ × Scene) LineFault = λ words. words >>= (λ words. version_in words >>= behind) in
          let numbered : Option ℕ → Result (ℕ × Scene) LineFault = λ n. ok_or n (Number 2) >>= behind in
          ap started (row_in-read first first_is_row)
          ∙ ap numbered (number_in-decimal version small)
          ∙ ap (read_lines track version (empty_scene track)) (map-append line_text (scene_body track scene) ((codes "done" ∷ []) ∷ []))
          ∙ rows_read track version (empty_scene track) scene (scene_body track scene) body_leads

      all_read : read_all track (lines_of (rows_text (first ∷ (scene_body track scene ++ (codes "done" ∷ []) ∷ [])))) ≡ Ok (version, scene)
      all_read =
          ap (read_all track) (lines_are (first ∷ (scene_body track scene ++ (codes "done" ∷ []) ∷ []))
          (first_is_row, each_then (scene_body track scene) (rows_are track (empty_scene track) scene (scene_body track scene) body_leads)))
          ∙ read

pub scene_lines_are_read_back : SceneLinesAreReadBack
scene_lines_are_read_back track version scene form sound names good tellable small = ap result_ok (all_read track form sound names scene good tellable version small)
