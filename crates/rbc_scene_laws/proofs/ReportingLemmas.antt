-- A report: its train keeps no metre of authority that it did not have, so the scene stays good.
use Rattle.std.proofs.Common.{◌≡◌, ℕ, ◌+◌, ◌-◌, ◌<◌, ◌≤◌, max, Bool, true, false, cond, ◌&&◌, not, ◌++◌, length, Option, Some, None, Result, Ok, Err, refl, ap, ap₂, sym, ◌∙◌, subst, arith, ◌⊎◌, inl, inr, nat_lt, nat_le}
use Rattle.std.specs.Prelude.{◌==◌, is_some, option_map}
use Rattle.std.specs.Option.{option_map_or}
use Rattle.std.specs.Result.{result_map_both}
use Rattle.std.proofs.lemmas.Bool.{ltb-true}
use Rattle.std.proofs.lemmas.List.Elements.{recursion_from_All}
use Rattle.rbc_model.specs.Reports.{Report}
use Rattle.rbc_model.specs.declared.tracks.BaliseGroup.{BaliseGroup}
use Rattle.rbc_model.specs.declared.places.Leg.{Leg}
use Rattle.rbc_model.specs.declared.refusals.Refusal.{Refusal}
use Rattle.rbc_model.specs.declared.refusals.Refusal.TheVariants.{Crowded}
use Rattle.rbc_model.specs.declared.limits.TheConstants.{MOST_TRAINS}
use Rattle.rbc_model.specs.Tracks.{Track}
use Rattle.rbc_model.specs.SoundTracks.{IsSound}
use Rattle.rbc_model.specs.Lines.{Line, line_length}
use Rattle.rbc_model.specs.Locks.{Locks}
use Rattle.rbc_model.specs.Trains.{Train}
use Rattle.rbc_model.specs.Placing.{Placed, leg_told, located, place, origin_on, through, old_origin, renumbered, train_after, reported}
use Rattle.rbc_model.specs.Scenes.{Scene, train_numbered}
use Rattle.rbc_model.specs.Events.{after_report, with_train}
use Rattle.rbc_scene_laws.specs.Good.{IsGoodScene, IsGoodTrain, IsGoodLocks, IsWithin, spot}
use Rattle.rbc_scene_laws.proofs.SpotLemmas.{at_place-append_left, at_place-append_right, line_length-append}
use Rattle.rbc_scene_laws.proofs.TrainListLemmas.{find-holds}
use Rattle.rbc_scene_laws.proofs.OnLineLemmas.{OnLine, OnLine-IsLine, IsLine-OnLine, OnLine-left}
use Rattle.rbc_scene_laws.proofs.LengtheningLemmas.{IsAhead}
use Rattle.rbc_scene_laws.proofs.ThroughLemmas.{IsThrough, is_through}
use Rattle.rbc_scene_laws.proofs.PlacingLemmas.{IsFound, is_found, IsStart, is_start, IsMoved, is_moved, HaveOrigins, origins}
use Rattle.rbc_scene_laws.proofs.WithinLemmas.{good_within, good_empty}

-- ---- a spot, counted on the line after and on the line before

module _ (track : Track) (group : BaliseGroup) (report : Report) (known start line : Line) (a : IsAhead track known start) (m : IsMoved track group report start line) where
  abbrev gone : ℕ
  gone = line_length track m.gone

  abbrev added : ℕ
  added = line_length track m.added

  start_metres : line_length track start ≡ gone + line_length track m.stays
  start_metres = ap (line_length track) m.is_start ∙ line_length-append track m.gone m.stays

  known_metres : line_length track start ≡ line_length track known + line_length track a.more
  known_metres = ap (line_length track) a.is ∙ line_length-append track known a.more

  stay_metres : line_length track (m.added ++ m.stays) ≡ added + line_length track m.stays
  stay_metres = line_length-append track m.added m.stays

  line_metres_are : line_length track line ≡ line_length track (m.added ++ m.stays) + line_length track m.ahead
  line_metres_are = ap (line_length track) m.is_line ∙ line_length-append track (m.added ++ m.stays) m.ahead

  pub spot_moved : (i j : ℕ) → added ≤ i → gone ≤ j → i - added ≡ j - gone → j < line_length track known → spot track line i ≡ spot track known j
  spot_moved i j low from same there =
      let e = start_metres in
      let f = known_metres in
      let g = stay_metres in
      let say : Leg → ℕ → Leg × ℕ = λ leg k. (leg, k) in
      let on_stays : i < line_length track (m.added ++ m.stays) = omega arith in
      ap (λ (l : Line). spot track l i) m.is_line
      ∙ at_place-append_left say track (m.added ++ m.stays) m.ahead i on_stays
      ∙ at_place-append_right say track m.added m.stays i low
      ∙ ap (spot track m.stays) same
      ∙ sym (at_place-append_right say track m.gone m.stays j from)
      ∙ sym (ap (λ (l : Line). spot track l j) m.is_start)
      ∙ ap (λ (l : Line). spot track l j) a.is
      ∙ at_place-append_left say track known a.more j there

  -- a place of the line before, counted on the line after, lies on it
  pub moved_on_line : (stay to : ℕ) → to ≤ line_length track known → renumbered (gone + stay) (added + stay) to ≤ line_length track line
  moved_on_line stay to h =
      let e = start_metres in
      let f = known_metres in
      let g = stay_metres in
      let k = line_metres_are in
      omega arith

-- numbers alone: a place between the renumbered bounds was one between the bounds
record WasBetween (gone added from to i : ℕ) : Type 0 where
  was : ℕ
  enough : added ≤ i
  low : from ≤ was
  high : was < to
  past : gone ≤ was
  same : i - added ≡ was - gone

was_between : (gone added stay from to i : ℕ) → (gone ≡ 0) ⊎ (added ≡ 0) → renumbered (gone + stay) (added + stay) from ≤ i → i < renumbered (gone + stay) (added + stay) to → WasBetween gone added from to i
was_between gone added stay from to i (inl e) low high = record { was = i - added + gone; enough = omega arith; low = omega arith; high = omega arith; past = omega arith; same = omega arith }
was_between gone added stay from to i (inr e) low high = record { was = i - added + gone; enough = omega arith; low = omega arith; high = omega arith; past = omega arith; same = omega arith }

-- ---- the train where it is placed

abbrev pub placed_train : Track → Report → Placed → ℕ → ℕ → Train
placed_train track report placed from to = record {
  report = report;
  line = through track report (max placed.front to) placed.line;
  origin = placed.origin;
  rear = placed.rear;
  front = placed.front;
  from = from;
  to = to;
}

-- what was placed stands on its line
pub record IsOn (track : Track) (placed : Placed) : Type 0 where
  pub on : OnLine track placed.line
  pub origin : placed.origin ≤ placed.front
  pub rear : placed.rear ≤ placed.front
  pub front : placed.front ≤ line_length track placed.line

module _ (track : Track) (report : Report) (placed : Placed) (p : IsOn track placed) (from to : ℕ) (behind : placed.rear ≤ from) (order : from ≤ to) (there : to ≤ line_length track placed.line) where
  kept : IsThrough track (max placed.front to) placed.line (through track report (max placed.front to) placed.line)
  kept = is_through track report (max placed.front to) placed.line

  far : max placed.front to ≤ line_length track (through track report (max placed.front to) placed.line)
  far = kept.reaches (let f = p.front in omega arith)

  good_placed : IsGoodTrain track (placed_train track report placed from to)
  good_placed = record {
    line = IsLine-OnLine track (through track report (max placed.front to) placed.line)
        (OnLine-left track (through track report (max placed.front to) placed.line) kept.rest (kept.some_leg (let o = p.on in o.some_leg)) (subst (OnLine track) kept.is p.on));
    origin = p.origin;
    rear = p.rear;
    front = let f = far in omega arith;
    behind = behind;
    from = order;
    to = let f = far in omega arith;
  }

  same_spot : (i : ℕ) → i < to → spot track (through track report (max placed.front to) placed.line) i ≡ spot track placed.line i
  same_spot i h =
      sym (ap (λ (l : Line). spot track l i) kept.is
      ∙ at_place-append_left (λ leg k. (leg, k)) track (through track report (max placed.front to) placed.line) kept.rest i (let f = far in omega arith))

-- the train after is good, and its authority is empty or within the one before
pub record IsGoodReport (track : Track) (known : Option Train) (report : Report) (after : Train) : Type 0 where
  pub of : after.report ≡ report
  pub good : IsGoodTrain track after
  pub within : (after.to ≤ after.from) ⊎ ((train : Train) × (known ≡ Some train) × IsWithin track train after)

nothing_held : (track : Track) (known : Option Train) (report : Report) (placed : Placed) → IsOn track placed → IsGoodReport track known report (placed_train track report placed placed.front placed.front)
nothing_held track known report placed p = record { of = refl; good = good_placed track report placed p placed.front placed.front p.rear (omega arith) p.front; within = inl (omega arith) }

by_order : (track : Track) (known : Option Train) (report : Report) (placed : Placed) (b : Bool) (x : Train) → IsOn track placed → (b ≡ true → IsGoodReport track known report x) → IsGoodReport track known report (cond b x (placed_train track report placed placed.front placed.front))
by_order track known report placed true x p h = h refl
by_order track known report placed false x p h = nothing_held track known report placed p

-- ---- a placing that was found

module _ (track : Track) (locks : Locks) (sound : IsSound track) (good : IsGoodLocks track locks) (report : Report) (placed : Placed) where
  -- its parts
  start_of_found : (known : Option Line) → ((line : Line) → known ≡ Some line → OnLine track line) → (f : IsFound track locks known report placed) → IsStart track (leg_told f.group report) known f.start
  start_of_found known on f = is_start track locks known report f.group f.start sound good on f.named f.located_there

  moved_of_found : (known : Option Line) → ((line : Line) → known ≡ Some line → OnLine track line) → (f : IsFound track locks known report placed) → IsMoved track f.group report f.start f.line
  moved_of_found known on f = let s = start_of_found known on f in is_moved track locks f.group report f.start f.line sound good s.on s.has f.covers

  pub is_on : (known : Option Line) → ((line : Line) → known ≡ Some line → OnLine track line) → (f : IsFound track locks known report placed) → IsOn track placed
  is_on known on f =
      let m = moved_of_found known on f in
      subst (IsOn track) f.is (record { on = m.on; origin = omega arith; rear = omega arith; front = m.front })

  old_origin-found : (line : Line) (f : IsFound track locks (Some line) report placed) → old_origin track locks report line ≡ origin_on track f.group report f.start
  old_origin-found line f =
      ap (λ o. option_map_or (λ (group : BaliseGroup). option_map_or (origin_on track group report) (located track locks (leg_told group report) (Some line)) 0) o 0) f.named
      ∙ ap (λ o. option_map_or (origin_on track f.group report) o 0) f.located_there

  abbrev pub now_at : Train → ℕ → ℕ
  now_at train k = renumbered (old_origin track locks report train.line) placed.origin k

  -- of an authority that it held, the train keeps no more
  module _ (train : Train) (was : IsGoodTrain track train) (f : IsFound track locks (Some train.line) report placed) where
    pub the_line : (line : Line) → Some train.line ≡ Some line → OnLine track line
    the_line line e = subst (OnLine track) (let s : train.line ≡ line = cc in s) (OnLine-IsLine track train.line was.line)

    pub moved : IsMoved track f.group report f.start f.line
    moved = moved_of_found (Some train.line) the_line f

    pub ahead : IsAhead track train.line f.start
    ahead = let s = start_of_found (Some train.line) the_line f in s.ahead train.line refl

    pub line_is : f.line ≡ placed.line
    line_is = ap (λ (p : Placed). p.line) f.is

    pub shift : HaveOrigins track f.group report f.start f.line (line_length track moved.gone) (line_length track moved.added)
    shift = let s = start_of_found (Some train.line) the_line f in origins track f.group report f.start f.line s.on moved

    pub now_is : (k : ℕ) → now_at train k ≡ renumbered (line_length track moved.gone + shift.stay) (line_length track moved.added + shift.stay) k
    now_is k =
        let old : old_origin track locks report train.line ≡ line_length track moved.gone + shift.stay = old_origin-found train.line f ∙ shift.old in
        let new : placed.origin ≡ line_length track moved.added + shift.stay = sym (ap (λ (p : Placed). p.origin) f.is) ∙ shift.new in
        ap₂ (λ o n. renumbered o n k) old new

    pub to_there : now_at train train.to ≤ line_length track placed.line
    to_there =
        let e = now_is train.to in
        let h = moved_on_line track f.group report train.line f.start f.line ahead moved shift.stay train.to was.to in
        let same = ap (line_length track) line_is in
        omega arith

    still_held : max (now_at train train.from) placed.rear < now_at train train.to → IsGoodReport track (Some train) report (placed_train track report placed (max (now_at train train.from) placed.rear) (now_at train train.to))
    still_held order =
        let p = is_on (Some train.line) the_line f in
        let from = max (now_at train train.from) placed.rear in
        let to = now_at train train.to in
        let b : placed.rear ≤ from = omega arith in
        let o : from ≤ to = omega arith in
        record {
          of = refl;
          good = good_placed track report placed p from to b o to_there;
          within = inr (
            train,
            refl,
            λ i low high.
                let e = now_is train.from in
                let g = now_is train.to in
                let w = was_between (line_length track moved.gone) (line_length track moved.added) shift.stay train.from train.to i moved.one (omega arith) (omega arith) in
                let t = was.to in
                let h = w.high in
                let on : w.was < line_length track train.line = omega arith in (
                  w.was,
                  w.low,
                  w.high,
                  same_spot track report placed p from to b o to_there i high
                      ∙ ap (λ (l : Line). spot track l i) (sym line_is)
                      ∙ spot_moved track f.group report train.line f.start f.line ahead moved i w.was w.enough w.past w.same on,
                ),
          );
        }

  -- the train after
  pub good_report : (known : Option Train) → ((train : Train) → known ≡ Some train → IsGoodTrain track train) → IsFound track locks (option_map (λ (train : Train). train.line) known) report placed → IsGoodReport track known report (train_after track locks known report placed)
  good_report None was f = by_order track None report placed (nat_lt placed.front placed.front) (placed_train track report placed placed.front placed.front) (is_on None (λ line e. cc) f) (λ e. nothing_held track None report placed (is_on None (λ line e. cc) f))
  good_report (Some train) was f =
      let p = is_on (Some train.line) (the_line train (was train refl) f) f in
      by_held (nat_lt train.from train.to)
      (by_order track (Some train) report placed (nat_lt (max (now_at train train.from) placed.rear) (now_at train train.to)) (placed_train track report placed (max (now_at train train.from) placed.rear) (now_at train train.to)) p
      (λ e. still_held train (was train refl) f (ltb-true (max (now_at train train.from) placed.rear) (now_at train train.to) e)))
      (by_order track (Some train) report placed (nat_lt placed.front placed.front) (placed_train track report placed placed.front placed.front) p (λ e. nothing_held track (Some train) report placed p))
    where
      by_held : (b : Bool) {x y : Train} → IsGoodReport track (Some train) report x → IsGoodReport track (Some train) report y → IsGoodReport track (Some train) report (cond b x y)
      by_held true h k = h
      by_held false h k = k

-- ---- the scene after

pub record IsReported (track : Track) (scene : Scene) (report : Report) (known : Option Train) (after : Scene) : Type 0 where
  pub placed : Placed
  pub there : place track scene.locks (option_map (λ (train : Train). train.line) known) report ≡ Ok placed
  pub is : with_train scene (train_after track scene.locks known report placed) ≡ after

mapped_ok : {A B : Type 0} (f : A → B) (r : Result A Refusal) (y : B) → result_map_both f (λ (e : Refusal). e) r ≡ Ok y → (x : A) × (r ≡ Ok x) × (f x ≡ y)
mapped_ok f (Ok x) y h = (x, refl, cc)
mapped_ok f (Err e) y h = cc

not_crowded : (b : Bool) (r : Result Scene Refusal) (after : Scene) → cond b (Err Crowded) r ≡ Ok after → r ≡ Ok after
not_crowded true r after h = cc
not_crowded false r after h = h

pub is_reported : (track : Track) (scene after : Scene) (report : Report) → after_report track scene report ≡ Ok after → IsReported track scene report (train_numbered scene report.train) after
is_reported track scene after report h =
    let known = train_numbered scene report.train in
    let r = not_crowded (not (is_some known) && nat_le MOST_TRAINS (length scene.trains)) (result_map_both (with_train scene) (λ (e : Refusal). e) (reported track scene.locks known report)) after h in
    let train = mapped_ok (with_train scene) (reported track scene.locks known report) after r in
    let p = mapped_ok (train_after track scene.locks known report) (place track scene.locks (option_map (λ (t : Train). t.line) known) report) train.0 train.1 in
    record { placed = p.0; there = p.1; is = ap (with_train scene) p.2 ∙ train.2 }

good_known : (track : Track) (scene : Scene) (report : Report) (known : Option Train) (after : Scene) → train_numbered scene report.train ≡ known → IsSound track → IsGoodScene track scene → IsReported track scene report known after → IsGoodScene track after
good_known track scene report known after e sound good r =
    let is_it = λ (t : Train). t.report.train == report.train in
    let was = λ (train : Train) (k : known ≡ Some train). find-holds (IsGoodTrain track) is_it scene.trains train (e ∙ k) (recursion_from_All (IsGoodTrain track) scene.trains good.trains) in
    let new = train_after track scene.locks known report r.placed in
    let g = good_report track scene.locks sound good.locks report r.placed known was (is_found track scene.locks (option_map (λ (t : Train). t.line) known) report r.placed r.there) in
    subst (IsGoodScene track) r.is
    (elim g.within [
      | inl none ↦ good_empty track scene new good g.good none
      | inr held ↦ good_within track scene held.0 new (ap (λ (x : Report). train_numbered scene x.train) g.of ∙ e ∙ held.1) good g.good held.2
    ])

pub good_after_report : (track : Track) (scene after : Scene) (report : Report) → IsSound track → after_report track scene report ≡ Ok after → IsGoodScene track scene → IsGoodScene track after
good_after_report track scene after report sound h good = good_known track scene report (train_numbered scene report.train) after refl sound good (is_reported track scene after report h)
