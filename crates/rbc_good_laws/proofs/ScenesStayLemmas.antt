-- Whatever happens to a scene, it stays as what was told leaves it.
use Rattle.std.proofs.Common.{◌≡◌, ℕ, ◌+◌, ◌≤◌, List, [], ◌∷◌, Result, Err, length, Option, Some, None, Ok, refl, ap, ◌∙◌, subst, arith, not}
use Rattle.std.specs.Prelude.{◌==◌, is_some, slice_get, option_map, fold}
use Rattle.std.specs.Result.{result_unwrap_or}
use Rattle.std.specs.List.{AllByRecursion}
use Rattle.std.proofs.lemmas.Bool.{eqb-true}
use Rattle.std.proofs.lemmas.List.Elements.{All-from_recursion, recursion_from_All}
use Rattle.std.proofs.lemmas.List.Sums.{length-filter, count_by-le-length}
use Rattle.rbc_model.specs.declared.limits.TheConstants.{MOST_TRAINS}
use Rattle.rbc_model.specs.declared.refusals.Refusal.{Refusal}
use Rattle.rbc_model.specs.declared.refusals.Refusal.TheVariants.{UnknownTrain}
use Rattle.rbc_model.specs.declared.reports.Event.{Event}
use Rattle.rbc_model.specs.declared.reports.Event.TheVariants.{Tell, Grant}
use Rattle.rbc_model.specs.declared.reports.Told.{Told}
use Rattle.rbc_model.specs.declared.reports.Told.TheVariants.{Report as ToldReport, Lock as ToldLock, Free as ToldFree, Leave as ToldLeave, GiveBack as ToldGiveBack}
use Rattle.rbc_model.specs.Reports.{Report}
use Rattle.rbc_model.specs.SoundTracks.{IsSound}
use Rattle.rbc_model.specs.Tracks.{Track}
use Rattle.rbc_model.specs.Lines.{Line}
use Rattle.rbc_model.specs.Locks.{locked}
use Rattle.rbc_model.specs.Trains.{Train}
use Rattle.rbc_model.specs.Placing.{train_after}
use Rattle.rbc_model.specs.Scenes.{Scene, train_numbered}
use Rattle.rbc_model.specs.Events.{cut_at, step, with_authority, with_train, without_train}
use Rattle.rbc_model.specs.Views.{start_of}
use Rattle.rbc_model.specs.Histories.{Entry, event_of, scene_after}
use Rattle.rbc_model.proofs.BasicLemmas.{find-passes}
use Rattle.rbc_scene_laws.specs.Good.{IsGoodScene, IsGoodTrain}
use Rattle.rbc_scene_laws.proofs.BasicLemmas.{each_filter, the_some}
use Rattle.rbc_scene_laws.proofs.FreeingLemmas.{is_freed, row-set_none}
use Rattle.rbc_scene_laws.proofs.GivingBackLemmas.{given_back}
use Rattle.rbc_scene_laws.proofs.GrantingLemmas.{granted_to, line_for}
use Rattle.rbc_scene_laws.proofs.KeptLemmas.{good_after_step, no_row}
use Rattle.rbc_scene_laws.proofs.LeavingLemmas.{only_ok}
use Rattle.rbc_scene_laws.proofs.LockingLemmas.{mapped}
use Rattle.rbc_scene_laws.proofs.OnLineLemmas.{OnLine, OnLine-IsLine}
use Rattle.rbc_scene_laws.proofs.ReportingLemmas.{is_reported}
use Rattle.rbc_scene_laws.proofs.TrainListLemmas.{each_with_train, find-holds}
use Rattle.rbc_good_laws.specs.Told.{IsToldScene, StandsAsTold}
use Rattle.rbc_good_laws.specs.Laws.{ScenesStayTold, EmptyScenesAreTold, HistoriesLeadToScenesThatPass}
use Rattle.rbc_good_laws.proofs.GoodLemmas.{good_scenes_decided}
use Rattle.rbc_good_laws.proofs.ToldLemmas.{told_scenes_decided}
use Rattle.rbc_good_laws.proofs.StayLemmas.{RowsAreNeeded, after_told, count_replaced, count_reported, cut_report, cut_told, granted_told, last_report, rows_locked}

module _ (track : Track) (sound : IsSound track) where
  -- the scene stands as told, with the trains by recursion
  record Stands (scene : Scene) : Type 0 where
    rows : RowsAreNeeded track scene.locks
    trains : AllByRecursion (StandsAsTold track) scene.trains
    few : length scene.trains ≤ MOST_TRAINS

  module _ (scene after : Scene) (good : IsGoodScene track scene) (now : Stands scene) where
    train_there : (number : ℕ) (train : Train) → train_numbered scene number ≡ Some train → StandsAsTold track train × IsGoodTrain track train × (train.report.train ≡ number)
    train_there number train there =
        let is_it = λ (t : Train). t.report.train == number in (
          find-holds (StandsAsTold track) is_it scene.trains train there now.trains,
          find-holds (IsGoodTrain track) is_it scene.trains train there (recursion_from_All (IsGoodTrain track) scene.trains good.trains),
          eqb-true train.report.train number (find-passes is_it scene.trains train there),
        )

    -- a train of the scene with what is told of it now
    replaced : (number : ℕ) (known train : Train) → train_numbered scene number ≡ Some known → train.report ≡ known.report → with_train scene train ≡ after → StandsAsTold track train → Stands after
    replaced number known train there same is told =
        let number_is = (train_there number known there).2 in
        let there_too : train_numbered scene train.report.train ≡ Some known = ap (λ (r : Report). train_numbered scene r.train) same ∙ ap (train_numbered scene) number_is ∙ there in
        subst Stands is
        (record {
          rows = now.rows;
          trains = each_with_train (StandsAsTold track) scene train now.trains told;
          few = let count = count_replaced scene train known there_too in let few = now.few in omega (arith, count, few);
        })

    by_report : (report : Report) → step track scene (Tell (ToldReport report)) ≡ Ok after → Stands after
    by_report report h =
        let known = train_numbered scene report.train in
        let r = is_reported track scene after report h in
        let is_it = λ (t : Train). t.report.train == report.train in
        let lines = λ (line : Line) (e : option_map (λ (t : Train). t.line) known ≡ Some line). known_line known line refl e in
        let train = train_after track scene.locks known report r.placed in
        let told = after_told track scene.locks (option_map (λ (t : Train). t.line) known) report r.placed sound good.locks lines r.there known in
        subst Stands r.is
        (record {
          rows = now.rows;
          trains = each_with_train (StandsAsTold track) scene train now.trains told;
          few = count_reported track scene after report train (last_report track report r.placed known scene.locks) h now.few;
        })
      where
        known_line : (o : Option Train) (line : Line) → train_numbered scene report.train ≡ o → option_map (λ (t : Train). t.line) o ≡ Some line → OnLine track line
        known_line None line e f = cc
        known_line (Some train) line e f =
            let g : IsGoodTrain track train = (train_there report.train train e).1 in
            subst (OnLine track) (the_some train.line line f) (OnLine-IsLine track train.line g.line)

    by_told : (told : Told) → step track scene (Tell told) ≡ Ok after → Stands after
    by_told (ToldReport report) h = by_report report h
    by_told (ToldLock route) h =
        let m = mapped scene after (locked track scene.locks route) h in
        subst Stands m.2 (record { rows = rows_locked track route scene.locks m.0 (slice_get track.routes route) refl now.rows m.1; trains = now.trains; few = now.few })
    by_told (ToldFree section) h =
        let f = is_freed track scene section after h in
        subst Stands f.is (record { rows = λ s lock there. now.rows s lock (row-set_none scene.locks section s lock there); trains = now.trains; few = now.few })
    by_told (ToldLeave train) h =
        let stays = λ (t : Train). not (t.report.train == train) in
        subst Stands (only_ok (is_some (train_numbered scene train)) (without_train scene train) after (UnknownTrain train) h)
        (record {
          rows = now.rows;
          trains = each_filter (StandsAsTold track) stays scene.trains now.trains;
          few = let few = now.few in let count = length-filter stays scene.trains in let less = count_by-le-length stays scene.trains in omega (arith, few, count, less);
        })
    by_told (ToldGiveBack train distance) h =
        let g = given_back track scene after train distance (train_numbered scene train) refl h in
        let was = train_there train g.train g.there in
        replaced train g.train (cut_at track g.train (g.train.origin + distance)) g.there (cut_report track g.train (g.train.origin + distance)) g.is (cut_told track g.train (g.train.origin + distance) was.0)

    by_event : (event : Event) → step track scene event ≡ Ok after → Stands after
    by_event (Tell told) h = by_told told h
    by_event (Grant train distance) h =
        let g = granted_to track scene after train distance (train_numbered scene train) refl h in
        let was = train_there train g.train g.there in
        let to = g.train.origin + distance in
        replaced train g.train (with_authority g.train (line_for track scene g.train to) (start_of g.train) to) g.there refl g.is
        (granted_told track scene g.train (start_of g.train) to good.locks was.1 was.0)

pub scenes_stay_told : ScenesStayTold
scenes_stay_told track scene after event sound h good told =
    let s = by_event track sound scene after good (record { rows = told.rows; trains = recursion_from_All (StandsAsTold track) scene.trains told.trains; few = told.few }) event h in
    record { rows = s.rows; trains = All-from_recursion (StandsAsTold track) after.trains s.trains; few = s.few }

pub empty_scenes_are_told : EmptyScenesAreTold
empty_scenes_are_told track =
    record { rows = λ section lock there. absurd (no_row track.sections section lock there); trains = λ k d h. absurd (omega arith); few = omega arith }

-- ---- histories, refused events among them

-- a good scene that is as what was told leaves it
abbrev May : Track → Scene → Type 0
May track scene = IsGoodScene track scene × IsToldScene track scene

after_entry : (track : Track) (scene : Scene) (entry : Entry) → IsSound track → May track scene → May track (scene_after track scene entry)
after_entry track scene entry sound may = by_step (step track scene (event_of entry)) refl
  where
    by_step : (r : Result Scene Refusal) → step track scene (event_of entry) ≡ r → May track (result_unwrap_or r scene)
    by_step (Ok after) e = (good_after_step track scene after (event_of entry) sound e may.0, scenes_stay_told track scene after (event_of entry) sound e may.0 may.1)
    by_step (Err refusal) e = may

after_entries : (track : Track) (entries : List Entry) (scene : Scene) → IsSound track → May track scene → May track (fold (scene_after track) scene entries)
after_entries track [] scene sound may = may
after_entries track (entry ∷ entries) scene sound may = after_entries track entries (scene_after track scene entry) sound (after_entry track scene entry sound may)

pub led_scenes_pass : HistoriesLeadToScenesThatPass
led_scenes_pass track scene entries sound good told =
    let may = after_entries track entries scene sound (good, told) in
    let after = fold (scene_after track) scene entries in
    ((good_scenes_decided track after).1 may.0, (told_scenes_decided track after).1 may.1)
