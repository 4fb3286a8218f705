-- The sections that an obstacle or a refusal names are the track's.
use Rattle.std.proofs.Common.{◌≡◌, ℕ, ◌+◌, ◌-◌, ◌<◌, Bool, true, false, cond, ◌&&◌, not, List, [], ◌∷◌, map, length, Option, Some, None, Result, Ok, Err, refl, subst}
use Rattle.std.specs.Prelude.{option_map, find, filter_map, is_some, slice_get, slice_set, fold, nat_lt, nat_le, ◌==◌, if◌then◌else◌}
use Rattle.std.specs.Option.{option_map_or}
use Rattle.std.specs.Result.{result_map_both}
use Rattle.std.specs.List.{AllByRecursion, list_all, list_any}
use Rattle.std.proofs.lemmas.Bool.{ltb-true}
use Rattle.std.proofs.lemmas.List.Elements.{recursion_from_All}
use Rattle.rbc_model.specs.declared.places.Leg.{Leg}
use Rattle.rbc_model.specs.declared.refusals.Refusal.{Refusal}
use Rattle.rbc_model.specs.declared.refusals.Refusal.TheVariants.{Crowded, UnknownGroup, Offline, Unplaced, TooFar, Clash, LinkTaken, NotLocked, Busy, UnknownTrain, YieldRange}
use Rattle.rbc_model.specs.declared.refusals.ViewFault.{ViewFault}
use Rattle.rbc_model.specs.declared.refusals.ViewFault.TheVariants.{UnknownTrain as NoSuchTrain, Blocked}
use Rattle.rbc_model.specs.declared.reports.Told.{Told}
use Rattle.rbc_model.specs.declared.reports.Told.TheVariants.{Report as ToldReport, Lock as ToldLock, Free as ToldFree, Leave as ToldLeave, GiveBack as ToldGiveBack}
use Rattle.rbc_model.specs.declared.reports.Event.TheVariants.{Tell}
use Rattle.rbc_model.specs.Results.{unless}
use Rattle.rbc_model.specs.Reports.{Report}
use Rattle.rbc_model.specs.declared.tracks.BaliseGroup.{BaliseGroup}
use Rattle.rbc_model.specs.Tracks.{Track, Route, group_named, is_linked, leg_eq}
use Rattle.rbc_model.specs.SoundTracks.{IsSound, is_leg_of, is_good_route, is_good_entry, but_last}
use Rattle.rbc_model.specs.Lines.{Line}
use Rattle.rbc_model.specs.Locks.{Locks, row, next, clash, taken_link, needed_rows, with_leg_before, freed, with_row}
use Rattle.rbc_model.specs.Trains.{Train}
use Rattle.rbc_model.specs.Scenes.{Scene, train_numbered}
use Rattle.rbc_model.specs.Placing.{place, placed_on, Placed, located, covered, leg_told, without_legs_behind}
use Rattle.rbc_model.specs.Views.{View, view, view_of, shown_up_to, greatest_end}
use Rattle.rbc_model.specs.Events.{step, after_report, after_lock, after_free, after_give_back, with_locks, with_train, without_train, cut_at, stands_on}
use Rattle.rbc_scene_laws.specs.Good.{IsGoodScene, IsGoodTrain}
use Rattle.rbc_scene_laws.proofs.BasicLemmas.{and_left, and_right}
use Rattle.rbc_scene_laws.proofs.LengtheningLemmas.{linked_from_below}
use Rattle.rbc_scene_laws.proofs.LockingLemmas.{all_got, good_route}
use Rattle.rbc_scene_laws.proofs.TrainListLemmas.{find-holds}
use Rattle.rbc_lines.proofs.StopOfTrackLemmas.{stop_of_track}
use Rattle.rbc_replies.specs.Replies.{ObstacleIsOfTrack, EventIsOfTrack}
use Rattle.rbc_model.specs.HistoryText.{IsToldOfTrack}

module _ (track : Track) where
  abbrev IsOfTrack : Leg → Type 0
  IsOfTrack leg = leg.section < length track.sections

  -- what a train that asks is shown, or what stands in its way
  abbrev pub IsNamedIn : Result View ViewFault → Type 0
  IsNamedIn (Ok shown) = ObstacleIsOfTrack track shown.obstacle
  IsNamedIn (Err NoSuchTrain) = Unit {0}
  IsNamedIn (Err (Blocked named at)) = ObstacleIsOfTrack track named

  named_view_of : (scene : Scene) (train : Train) → IsGoodScene track scene → IsGoodTrain track train → IsNamedIn (view_of track scene train)
  named_view_of scene train good well = by_end (greatest_end track scene train)
    where
      by_end : (o : Option ℕ) → IsNamedIn (shown_up_to track scene train o)
      by_end None = stop_of_track track scene train good well
      by_end (Some end) = stop_of_track track scene train good well

  pub named_view : (scene : Scene) (number : ℕ) → IsGoodScene track scene → IsNamedIn (view track scene number)
  named_view scene number good = by_train (train_numbered scene number) refl
    where
      by_train : (o : Option Train) → train_numbered scene number ≡ o → IsNamedIn (option_map_or (view_of track scene) o (Err NoSuchTrain))
      by_train None e = tt
      by_train (Some train) e =
          named_view_of scene train good (find-holds (IsGoodTrain track) (λ t. t.report.train == number) scene.trains train e (recursion_from_All (IsGoodTrain track) scene.trains good.trains))

  -- ---- refusals

  -- a refusal, if there is one, names what the track has
  abbrev pub RefusalIsNamed : {A : Type 0} → Result A Refusal → Type 0
  RefusalIsNamed (Ok x) = Unit {0}
  RefusalIsNamed (Err refusal) = EventIsOfTrack track refusal

  named_mapped : {A B : Type 0} (f : A → B) (r : Result A Refusal) → RefusalIsNamed r → RefusalIsNamed (result_map_both f (λ e. e) r)
  named_mapped f (Ok x) h = tt
  named_mapped f (Err e) h = h

  named_unless : {A X : Type 0} (f : X → Refusal) (o : Option X) (r : Result A Refusal) → ((x : X) → o ≡ Some x → EventIsOfTrack track (f x)) → RefusalIsNamed r → RefusalIsNamed (unless (option_map f o) r)
  named_unless f None r h k = k
  named_unless f (Some x) r h k = h x refl

  named_placed_on : (b : Bool) (placed : Placed) → RefusalIsNamed (cond b (Err TooFar) (Ok placed))
  named_placed_on true placed = tt
  named_placed_on false placed = tt

  named_place : (locks : Locks) (known : Option Line) (report : Report) → RefusalIsNamed (place track locks known report)
  named_place locks known report = by_group (group_named track report.group)
    where
      covering : BaliseGroup → Option Line → Result Placed Refusal
      covering group None = Err Unplaced
      covering group (Some line) = placed_on track group report line

      by_covering : (group : BaliseGroup) (o : Option Line) → RefusalIsNamed (covering group o)
      by_covering group None = tt
      by_covering group (Some line) = named_placed_on _ _

      locating : BaliseGroup → Option Line → Result Placed Refusal
      locating group None = Err Offline
      locating group (Some line) = covering group (covered track locks group report (without_legs_behind track group report line))

      by_locating : (group : BaliseGroup) (o : Option Line) → RefusalIsNamed (locating group o)
      by_locating group None = tt
      by_locating group (Some line) = by_covering group (covered track locks group report (without_legs_behind track group report line))

      by_group : (o : Option BaliseGroup) → RefusalIsNamed (elim o [ None ↦ Err UnknownGroup | Some group ↦ locating group (located track locks (leg_told group report) known) ])
      by_group None = tt
      by_group (Some group) = by_locating group (located track locks (leg_told group report) known)

  named_crowded : {A : Type 0} (b : Bool) (r : Result A Refusal) → RefusalIsNamed r → RefusalIsNamed (cond b (Err Crowded) r)
  named_crowded true r h = tt
  named_crowded false r h = h

  named_report : (scene : Scene) (report : Report) → RefusalIsNamed (after_report track scene report)
  named_report scene report =
      named_crowded _ _ (named_mapped _ _ (named_mapped _ _ (named_place scene.locks (option_map (λ (t : Train). t.line) (train_numbered scene report.train)) report)))

  -- the legs of a route, and those before them
  sections_below : (legs : List Leg) → AllByRecursion IsOfTrack legs → AllByRecursion (λ section. section < length track.sections) (map (λ (leg : Leg). leg.section) legs)
  sections_below [] h = tt
  sections_below (leg ∷ legs) h = (h.0, sections_below legs h.1)

  legs_below : (legs : List Leg) → list_all (is_leg_of track) legs ≡ true → AllByRecursion IsOfTrack legs
  legs_below [] h = tt
  legs_below (leg ∷ legs) h =
      (ltb-true leg.section (length track.sections) (and_left (is_leg_of track leg) (list_all (is_leg_of track) legs) h), legs_below legs (and_right (is_leg_of track leg) (list_all (is_leg_of track) legs) h))

  abbrev befores : Option Leg → List Leg → List Leg
  befores before legs = filter_map (λ (need : Leg × Option Leg). need.1) (with_leg_before before legs)

  befores_below : (before : Option Leg) (legs : List Leg) → ((leg : Leg) → before ≡ Some leg → IsOfTrack leg) → AllByRecursion IsOfTrack legs → AllByRecursion IsOfTrack (befores before legs)
  befores_below before [] h k = tt
  befores_below None (leg ∷ legs) h k = befores_below (Some leg) legs (λ a e. subst IsOfTrack (let same : leg ≡ a = cc in same) k.0) k.1
  befores_below (Some before) (leg ∷ legs) h k = (h before refl, befores_below (Some leg) legs (λ a e. subst IsOfTrack (let same : leg ≡ a = cc in same) k.0) k.1)

  entry_below : IsSound track → (after : Option Leg) (legs : List Leg) → option_map_or (is_good_entry track legs) after true ≡ true → (leg : Leg) → after ≡ Some leg → IsOfTrack leg
  entry_below sound None legs h leg e = cc
  entry_below sound (Some after) [] h leg e = cc
  entry_below sound (Some after) (first ∷ legs) h leg e =
      subst IsOfTrack (let same : after ≡ leg = cc in same)
      (linked_from_below track after first sound (and_left (is_linked track after first) (not (list_any (leg_eq after) (but_last (first ∷ legs)))) h))

  named_lock : (scene : Scene) (route : ℕ) → IsSound track → RefusalIsNamed (after_lock track scene route)
  named_lock scene number sound = named_mapped _ _ (by_route (slice_get track.routes number) refl)
    where
      locking : Route → Result Locks Refusal
      locking route =
          unless (option_map Clash (clash scene.locks route))
          (unless (option_map LinkTaken (taken_link scene.locks route)) (Ok (fold (with_row number) scene.locks (needed_rows route))))

      by_route : (o : Option Route) → slice_get track.routes number ≡ o → RefusalIsNamed (option_map_or locking o (Ok scene.locks))
      by_route None e = tt
      by_route (Some route) e =
          let good = good_route track route (all_got (is_good_route track) track.routes number route sound.routes e) in
          let legs = legs_below route.legs good.of_track in
          named_unless Clash (clash scene.locks route) _
          (λ section f. find-holds (λ s. s < length track.sections) (λ s. is_some (row scene.locks s)) (map (λ (leg : Leg). leg.section) route.legs) section f (sections_below route.legs legs))
          (named_unless LinkTaken (taken_link scene.locks route) _
          (λ leg f. find-holds IsOfTrack (λ l. is_some (next scene.locks l)) (befores route.after route.legs) leg f (befores_below route.after route.legs (entry_below sound route.after route.legs good.entry) legs))
          tt)

  named_freed : (scene : Scene) (section : ℕ) (b : Bool) → section < length track.sections → RefusalIsNamed (cond b (Ok (slice_set scene.locks section None)) (Err (NotLocked section)))
  named_freed scene section true within = tt
  named_freed scene section false within = within

  named_free : (scene : Scene) (section : ℕ) → section < length track.sections → RefusalIsNamed (after_free track scene section)
  named_free scene section within = by_test (is_some (row scene.locks section))
    where
      freeing : Result Scene Refusal
      freeing = result_map_both (with_locks scene) (λ refusal. refusal) (freed scene.locks section)

      freed_named : RefusalIsNamed freeing
      freed_named = named_mapped (with_locks scene) (freed scene.locks section) (named_freed scene section (is_some (row scene.locks section)) within)

      by_test : (b : Bool) → RefusalIsNamed (cond b (unless (option_map (λ (train : Train). Busy section train.report.train) (find (stands_on track section) scene.trains)) freeing) freeing)
      by_test true = named_unless (λ (train : Train). Busy section train.report.train) (find (stands_on track section) scene.trains) freeing (λ train e. within) freed_named
      by_test false = freed_named

  named_leave : (scene : Scene) (number : ℕ) (b : Bool) → RefusalIsNamed (cond b (Ok scene) (Err (UnknownTrain number)))
  named_leave scene number true = tt
  named_leave scene number false = tt

  named_cut : {A : Type 0} (b : Bool) (x : A) (number : ℕ) → RefusalIsNamed (cond b (Ok x) (Err (YieldRange number)))
  named_cut true x number = tt
  named_cut false x number = tt

  named_give_back : (scene : Scene) (number distance : ℕ) → RefusalIsNamed (after_give_back track scene number distance)
  named_give_back scene number distance = by_train (train_numbered scene number)
    where
      cut : Train → Result Scene Refusal
      cut train =
          let to = train.origin + distance in
          if nat_lt to train.to && nat_le train.front to && nat_le train.from to then Ok (with_train scene (cut_at track train to)) else Err (YieldRange number)

      by_train : (o : Option Train) → RefusalIsNamed (option_map_or cut o (Err (UnknownTrain number)))
      by_train None = tt
      by_train (Some train) = named_cut (nat_lt (train.origin + distance) train.to && nat_le train.front (train.origin + distance) && nat_le train.from (train.origin + distance)) (with_train scene (cut_at track train (train.origin + distance))) number

  pub named_told : (scene : Scene) (told : Told) → IsSound track → IsToldOfTrack track told → RefusalIsNamed (step track scene (Tell told))
  named_told scene (ToldReport report) sound within = named_report scene report
  named_told scene (ToldLock route) sound within = named_lock scene route sound
  named_told scene (ToldFree section) sound within = named_free scene section within
  named_told scene (ToldLeave train) sound within = named_leave (without_train scene train) train (is_some (train_numbered scene train))
  named_told scene (ToldGiveBack train distance) sound within = named_give_back scene train distance
