-- The scenes of histories are ones that lines can tell.
use Rattle.std.proofs.Common.{◌≡◌, ℕ, ◌+◌, ◌<◌, max, Bool, true, false, cond, List, [], ◌∷◌, Option, Some, None, Result, Ok, Err, inl, inr, length, refl, sym, subst, not, codes}
use Rattle.std.specs.Prelude.{◌==◌, fold, slice_get, is_some, nat_lt, option_map}
use Rattle.std.specs.List.{AllByRecursion}
use Rattle.std.specs.Option.{option_map_or}
use Rattle.std.specs.Result.{result_unwrap_or}
use Rattle.std.proofs.lemmas.List.Elements.{All-nil, All-from_recursion, recursion_from_All}
use Rattle.std.proofs.lemmas.Option.{slice_get_within}
use Rattle.rbc_model.specs.declared.refusals.Refusal.{Refusal}
use Rattle.rbc_model.specs.declared.refusals.Refusal.TheVariants.{Clash, LinkTaken, UnknownTrain}
use Rattle.rbc_model.specs.declared.reports.Told.{Told}
use Rattle.rbc_model.specs.declared.reports.Told.TheVariants.{Report as ToldReport, Lock as ToldLock, Free as ToldFree, Leave as ToldLeave, GiveBack as ToldGiveBack}
use Rattle.rbc_model.specs.declared.reports.Event.TheVariants.{Tell}
use Rattle.rbc_model.specs.declared.tracks.Lock.{Lock}
use Rattle.rbc_model.specs.Results.{unless}
use Rattle.rbc_model.specs.Reports.{Report, IsReport}
use Rattle.rbc_model.specs.Tracks.{Track, Route}
use Rattle.rbc_model.specs.Locks.{Locks, row, clash, taken_link, locked, needed_rows, with_row}
use Rattle.rbc_model.specs.Trains.{Train}
use Rattle.rbc_model.specs.Scenes.{Scene, empty_scene, train_numbered}
use Rattle.rbc_model.specs.Placing.{Placed, through, train_with, train_after, renumbered, old_origin}
use Rattle.rbc_model.specs.Events.{after_grant, cut_at, step, with_authority, with_train, without_train}
use Rattle.rbc_model.specs.Histories.{Beginning, Entry, Heard, Granted, event_of, replay, scene_after}
use Rattle.rbc_model.specs.SceneLines.{distance_word, end_word, train_line, IsTellable}
use Rattle.rbc_model.specs.SessionReply.{obstacle_words}
use Rattle.rbc_model.specs.Views.{greatest_end, reach, shown_up_to, stop}
use Rattle.rbc_text_laws.specs.ToldScenes.{EmptyScenesAreTellable, next_shown, IsReportIfTold, NextIsWhatIsShown, ScenesOfHistoriesAreReadBack}
use Rattle.rbc_scene_laws.proofs.BasicLemmas.{each_filter}
use Rattle.rbc_scene_laws.proofs.FreeingLemmas.{is_freed, row-set_none}
use Rattle.rbc_scene_laws.proofs.GivingBackLemmas.{given_back}
use Rattle.rbc_scene_laws.proofs.GrantingLemmas.{granted_to}
use Rattle.rbc_scene_laws.proofs.KeptLemmas.{good_replay, no_row}
use Rattle.rbc_scene_laws.proofs.LeavingLemmas.{only_ok}
use Rattle.rbc_scene_laws.proofs.LockingLemmas.{Need, mapped, the_lock, the_ok, unless_none}
use Rattle.rbc_text_laws.proofs.ReadBackLemmas.{scene_lines_are_read_back}
use Rattle.rbc_scene_laws.proofs.ReportingLemmas.{is_reported}
use Rattle.rbc_scene_laws.proofs.RowLemmas.{row-set_cases}
use Rattle.rbc_scene_laws.proofs.TrainListLemmas.{each_with_train, find-holds}

-- ---- reports

choose : (P : Train → Type 0) (b : Bool) (x y : Train) → P x → P y → P (cond b x y)
choose P true x y h k = h
choose P false x y h k = k

module _ (track : Track) (report : Report) (placed : Placed) where
  abbrev holding : ℕ → ℕ → Train
  holding a b = record {
    report = report;
    line = through track report (max placed.front b) placed.line;
    origin = placed.origin;
    rear = placed.rear;
    front = placed.front;
    from = a;
    to = b;
  }

  placed_report : (from to : ℕ) → (train_with track report placed from to).report ≡ report
  placed_report from to = choose (λ t. t.report ≡ report) (nat_lt from to) (holding from to) (holding placed.front placed.front) refl refl

  -- a train's report is the last one
  last_report : (known : Option Train) (locks : Locks) → (train_after track locks known report placed).report ≡ report
  last_report None locks = placed_report placed.front placed.front
  last_report (Some train) locks =
      let now_at : ℕ → ℕ = λ place. renumbered (old_origin track locks report train.line) placed.origin place in
      choose (λ t. t.report ≡ report) (nat_lt train.from train.to) (train_with track report placed (max (now_at train.from) placed.rear) (now_at train.to)) (train_with track report placed placed.front placed.front)
      (placed_report (max (now_at train.from) placed.rear) (now_at train.to)) (placed_report placed.front placed.front)

cut_report : (track : Track) (train : Train) (to : ℕ) → (cut_at track train to).report ≡ train.report
cut_report track train to =
    let line = through track train.report (max train.front to) train.line in
    choose (λ t. t.report ≡ train.report) (nat_lt train.from to) (with_authority train line train.from to) (with_authority train line train.front train.front) refl refl

-- ---- locks

module _ (begin : Beginning) where
  abbrev RoutesAreOfTrack : Locks → Type 0
  RoutesAreOfTrack locks = (section : ℕ) (lock : Lock) → row locks section ≡ Some lock → lock.route < length begin.track.routes

  rows_of_route : (number : ℕ) → number < length begin.track.routes → (needs : List Need) (locks : Locks) → RoutesAreOfTrack locks → RoutesAreOfTrack (fold (with_row number) locks needs)
  rows_of_route number inside [] locks of = of
  rows_of_route number inside (need ∷ needs) locks of =
      rows_of_route number inside needs (with_row number locks need)
      (λ section lock there.
      elim (row-set_cases locks need.0.section section (Some (the_lock number need)) lock there) [
        | inl e ↦ subst (λ (l : Lock). l.route < length begin.track.routes) (let same : the_lock number need ≡ lock = cc e.1 in same) inside
        | inr e ↦ of section lock e.1
      ])

  rows_locked : (number : ℕ) (locks after : Locks) (o : Option Route) → slice_get begin.track.routes number ≡ o → RoutesAreOfTrack locks
      → option_map_or (λ (route : Route). unless (option_map Clash (clash locks route)) (unless (option_map LinkTaken (taken_link locks route)) (Ok (fold (with_row number) locks (needed_rows route))))) o (Ok locks) ≡ Ok after
      → RoutesAreOfTrack after
  rows_locked number locks after None e of h = subst RoutesAreOfTrack (the_ok {E = Refusal} locks after h) of
  rows_locked number locks after (Some route) e of h =
      let one = unless_none Clash (clash locks route) (unless (option_map LinkTaken (taken_link locks route)) (Ok (fold (with_row number) locks (needed_rows route)))) after h in
      let two = unless_none LinkTaken (taken_link locks route) (Ok (fold (with_row number) locks (needed_rows route))) after one.1 in
      subst RoutesAreOfTrack (the_ok {E = Refusal} (fold (with_row number) locks (needed_rows route)) after two.1)
      (rows_of_route number (slice_get_within begin.track.routes number route e) (needed_rows route) locks of)

  -- ---- events

  abbrev HasReport : Train → Type 0
  HasReport train = IsReport train.report

  -- what lines can tell
  record CanBeTold (scene : Scene) : Type 0 where
    routes : RoutesAreOfTrack scene.locks
    reports : AllByRecursion HasReport scene.trains

  train_there : (scene : Scene) (number : ℕ) (train : Train) → train_numbered scene number ≡ Some train → CanBeTold scene → IsReport train.report
  train_there scene number train there can = find-holds HasReport (λ (t : Train). t.report.train == number) scene.trains train there can.reports

  replaced : (scene after : Scene) (train : Train) → with_train scene train ≡ after → CanBeTold scene → IsReport train.report → CanBeTold after
  replaced scene after train is can report = subst CanBeTold is (record { routes = can.routes; reports = each_with_train HasReport scene train can.reports report })

  after_told : (scene after : Scene) (told : Told) → IsReportIfTold (Heard told) → step begin.track scene (Tell told) ≡ Ok after → CanBeTold scene → CanBeTold after
  after_told scene after (ToldReport report) is h can =
      let known = train_numbered scene report.train in
      let r = is_reported begin.track scene after report h in
      replaced scene after (train_after begin.track scene.locks known report r.placed) r.is can (subst IsReport (sym (last_report begin.track report r.placed known scene.locks)) is)
  after_told scene after (ToldLock route) is h can =
      let m = mapped scene after (locked begin.track scene.locks route) h in
      subst CanBeTold m.2 (record { routes = rows_locked route scene.locks m.0 (slice_get begin.track.routes route) refl can.routes m.1; reports = can.reports })
  after_told scene after (ToldFree section) is h can =
      let f = is_freed begin.track scene section after h in
      subst CanBeTold f.is (record { routes = λ s lock there. can.routes s lock (row-set_none scene.locks section s lock there); reports = can.reports })
  after_told scene after (ToldLeave train) is h can =
      subst CanBeTold (only_ok (is_some (train_numbered scene train)) (without_train scene train) after (UnknownTrain train) h)
      (record { routes = can.routes; reports = each_filter HasReport (λ (t : Train). not (t.report.train == train)) scene.trains can.reports })
  after_told scene after (ToldGiveBack train distance) is h can =
      let g = given_back begin.track scene after train distance (train_numbered scene train) refl h in
      replaced scene after (cut_at begin.track g.train (g.train.origin + distance)) g.is can (subst IsReport (sym (cut_report begin.track g.train (g.train.origin + distance))) (train_there scene train g.train g.there can))

  after_granted : (scene after : Scene) (train distance : ℕ) → after_grant begin.track scene train distance ≡ Ok after → CanBeTold scene → CanBeTold after
  after_granted scene after train distance h can =
      let g = granted_to begin.track scene after train distance (train_numbered scene train) refl h in
      replaced scene after _ g.is can (train_there scene train g.train g.there can)

  -- ---- histories

  after_entry : (scene : Scene) (entry : Entry) → IsReportIfTold entry → CanBeTold scene → CanBeTold (scene_after begin.track scene entry)
  after_entry scene (Heard told) is can = by_step (step begin.track scene (event_of (Heard told))) refl
    where
      by_step : (r : Result Scene Refusal) → step begin.track scene (event_of (Heard told)) ≡ r → CanBeTold (result_unwrap_or r scene)
      by_step (Ok after) e = after_told scene after told is e can
      by_step (Err refusal) e = can
  after_entry scene (Granted grant) is can = by_step (step begin.track scene (event_of (Granted grant))) refl
    where
      by_step : (r : Result Scene Refusal) → step begin.track scene (event_of (Granted grant)) ≡ r → CanBeTold (result_unwrap_or r scene)
      by_step (Ok after) e = after_granted scene after grant.train grant.authority.end e can
      by_step (Err refusal) e = can

  after_entries : (entries : List Entry) (scene : Scene) → AllByRecursion IsReportIfTold entries → CanBeTold scene → CanBeTold (fold (scene_after begin.track) scene entries)
  after_entries [] scene are can = can
  after_entries (entry ∷ entries) scene are can = after_entries entries (scene_after begin.track scene entry) are.1 (after_entry scene entry are.0 can)

  tellable_replay : (entries : List Entry) → IsTellable begin.track begin.scene → AllByRecursion IsReportIfTold entries → IsTellable begin.track (replay begin entries)
  tellable_replay entries told are =
      let can = after_entries entries begin.scene are (record { routes = told.routes; reports = recursion_from_All HasReport begin.scene.trains told.reports }) in
      record { routes = can.routes; reports = All-from_recursion HasReport (replay begin entries).trains can.reports }

pub scenes_of_histories_are_read_back : ScenesOfHistoriesAreReadBack
scenes_of_histories_are_read_back begin version entries form sound names good told are small =
    scene_lines_are_read_back begin.track version (replay begin entries) form sound names (good_replay begin entries sound good)
    (tellable_replay begin entries told (recursion_from_All IsReportIfTold entries are)) small

pub empty_scenes_are_tellable : EmptyScenesAreTellable
empty_scenes_are_tellable track = record {
  routes = λ section lock there. absurd (no_row track.sections section lock there);
  reports = All-nil (λ (train : Train). IsReport train.report);
}

-- ---- what would be granted next

pub next_is_what_is_shown : NextIsWhatIsShown
next_is_what_is_shown track scene train = by_end (greatest_end track scene train)
  where
    by_end : (end : Option ℕ)
        → train_line (codes "next") train (end_word train end ∷ distance_word train (reach track scene train) ∷ obstacle_words track (stop track scene train))
        ≡ next_shown track train (shown_up_to track scene train end)
    by_end None = refl
    by_end (Some end) = refl
