-- An accepted event leaves each train where its last report tells, and each row one that its route needs.
use Rattle.std.proofs.Common.{◌≡◌, ℕ, zero, suc, ◌+◌, ◌-◌, ◌≤◌, max, min, Bool, true, false, cond, ◌||◌, ◌&&◌, not, List, [], ◌∷◌, ◌++◌, length, map, take, drop, Option, Some, None, Ok, Err, Result, refl, ap, sym, ◌∙◌, subst, ap₂, arith, inl, inr, nat_lt, nat_le}
use Rattle.std.specs.Prelude.{◌==◌, is_some, option_map, fold, slice_get, unwrap_or}
use Rattle.std.specs.Option.{option_eq, option_map_or}
use Rattle.std.specs.List.{AllByRecursion, list_any, position_or_len}
use Rattle.std.proofs.lemmas.Bool.{leb-true, ltb-false, leb-false, or_left, or_right}
use Rattle.std.proofs.Math.Seq.{take-append-add}
use Rattle.std.specs.Result.{result_map_both}
use Rattle.std.proofs.lemmas.List.{take-append-drop, length-append, length-map}
use Rattle.std.proofs.lemmas.Option.{option_and_then_some}
use Rattle.rbc_model.specs.declared.limits.TheConstants.{MOST_TRAINS}
use Rattle.rbc_model.specs.declared.places.Leg.{Leg}
use Rattle.rbc_model.specs.declared.refusals.Refusal.{Refusal}
use Rattle.rbc_model.specs.declared.refusals.Refusal.TheVariants.{UnknownGroup, Offline, Unplaced, TooFar, Clash, LinkTaken, Crowded}
use Rattle.rbc_model.specs.declared.tracks.BaliseGroup.{BaliseGroup}
use Rattle.rbc_model.specs.declared.tracks.Lock.{Lock}
use Rattle.rbc_model.specs.Reports.{Report}
use Rattle.rbc_model.specs.Results.{unless}
use Rattle.rbc_model.specs.Scales.{farthest}
use Rattle.rbc_model.specs.SoundTracks.{IsSound}
use Rattle.rbc_model.specs.Tracks.{Track, Route, group_named, leg_eq}
use Rattle.rbc_model.specs.Lines.{Line, has_leg, legs_begun_before, legs_ending_by, metres_to_group, place_of, place_on}
use Rattle.rbc_model.specs.Locks.{Locks, row, clash, taken_link, needed_rows, with_row, longer_ahead, longer_back, lengthened}
use Rattle.rbc_model.specs.Trains.{Train}
use Rattle.rbc_model.specs.Placing.{Placed, covered, front_on, has_front, has_rear, leg_told, located, old_origin, origin_on, place, placed_on, rear_on, renumbered, reported, running_leg, through, train_after, train_with, without_legs_behind}
use Rattle.rbc_model.specs.Obstacles.{way}
use Rattle.rbc_model.specs.Scenes.{Scene, train_numbered}
use Rattle.rbc_model.specs.Events.{after_report, cut_at, with_authority, with_train}
use Rattle.rbc_model.proofs.SamenessLemmas.{leg_eq-itself}
use Rattle.rbc_scene_laws.specs.Good.{IsGoodLocks, IsGoodTrain}
use Rattle.rbc_scene_laws.proofs.BasicLemmas.{the_some, each_weaker}
use Rattle.rbc_scene_laws.proofs.LockingLemmas.{Need, the_lock, the_ok, unless_none}
use Rattle.rbc_scene_laws.proofs.GrantingLemmas.{line_for}
use Rattle.rbc_scene_laws.proofs.LengtheningLemmas.{ahead_fully, ahead_until, back_until}
use Rattle.rbc_scene_laws.proofs.OnLineLemmas.{OnLine, OnLine-IsLine, OnLine-right}
use Rattle.rbc_scene_laws.proofs.OriginLemmas.{has_leg-drop, has_leg-left, has_leg-right, origin-append_left, place_on-append_left, place_on-some, some_with_leg, told_section}
use Rattle.rbc_scene_laws.proofs.PlacingLemmas.{IsFound, is_found, is_start}
use Rattle.rbc_scene_laws.proofs.RowLemmas.{row-set_cases}
use Rattle.rbc_good_laws.specs.Told.{StandsAsTold, own_leg, same_need, needs, is_needed}

-- ---- the group's place on a line that loses or gains legs

told_is : (group : BaliseGroup) (report : Report) → record { section = group.section; direction = (leg_told group report).direction } ≡ leg_told group report
told_is group report = by_nominal report.nominal
  where
    by_nominal : (b : Bool) → record { section = group.section; direction = (running_leg group b).direction } ≡ running_leg group b
    by_nominal true = refl
    by_nominal false = refl

take_by : (b : Bool) (k pos : ℕ) (rest later : Bool) → cond (not b) (1 + pos) 0 + 1 ≤ suc k → (b || rest) ≡ true → (pos + 1 ≤ k → rest ≡ true → later ≡ true) → (b || later) ≡ true
take_by true k pos rest later h g f = refl
take_by false k pos rest later h g f = f (omega (arith, h)) g

-- legs are kept up to a leg and with it
has_leg-take : (k : ℕ) (line : Line) (leg : Leg) → position_or_len (leg_eq leg) line + 1 ≤ k → has_leg line leg ≡ true → has_leg (take k line) leg ≡ true
has_leg-take zero line leg h g = absurd (omega (arith, h))
has_leg-take (suc k) [] leg h g = g
has_leg-take (suc k) (l ∷ line) leg h g = take_by (leg_eq leg l) k (position_or_len (leg_eq leg) line) (has_leg line leg) (has_leg (take k line) leg) h g (has_leg-take k line leg)

module _ (track : Track) (group : BaliseGroup) (report : Report) where
  abbrev told_leg : Leg
  told_leg = leg_told group report

  abbrev place_there : Line → Option ℕ
  place_there line = place_of track line group told_leg.direction

  abbrev point_there : Line → Option ℕ
  point_there line = place_on track line group.section (metres_to_group track group)

  if_some : (t : Bool) (o : Option ℕ) (p : ℕ) → cond t o None ≡ Some p → (t ≡ true) × (o ≡ Some p)
  if_some true o p h = (refl, h)
  if_some false o p h = cc

  if_yes : (t : Bool) (o : Option ℕ) → t ≡ true → cond t o None ≡ o
  if_yes t o e = rw e refl

  place_is : (line : Line) → has_leg line told_leg ≡ true → place_there line ≡ point_there line
  place_is line has = if_yes (has_leg line (record { section = group.section; direction = told_leg.direction })) (point_there line) (ap (has_leg line) (told_is group report) ∙ has)

  -- a line with a place for the group has the leg
  placed_has : (line : Line) (p : ℕ) → place_there line ≡ Some p → (has_leg line told_leg ≡ true) × (point_there line ≡ Some p)
  placed_has line p h =
      let both = if_some (has_leg line (record { section = group.section; direction = told_leg.direction })) (point_there line) p h in
      (sym (ap (has_leg line) (told_is group report)) ∙ both.0, both.1)

  -- legs ahead don't move it
  pub place_of-longer : (a b : Line) (p : ℕ) → place_there a ≡ Some p → place_there (a ++ b) ≡ Some p
  place_of-longer a b p h =
      let was = placed_has a p h in
      place_is (a ++ b) (has_leg-left a b told_leg was.0) ∙ place_on-append_left track group.section (metres_to_group track group) a b p was.1

  -- nor does it move where legs ahead of it go
  pub place_of-shorter : (a b line : Line) (p : ℕ) → line ≡ a ++ b → has_leg a told_leg ≡ true → place_there line ≡ Some p → place_there a ≡ Some p
  place_of-shorter a b line p e has h =
      let q = place_on-some track group.section (metres_to_group track group) a (told_section track group report a has) in
      let longer = place_on-append_left track group.section (metres_to_group track group) a b q.0 q.1 in
      let whole = ap point_there (sym e) ∙ (placed_has line p h).1 in
      place_is a has ∙ q.1 ∙ sym longer ∙ whole

  -- the legs that a report or a cut keeps have it
  pub place_of-through : (place : ℕ) (line : Line) (p : ℕ) → group_named track report.group ≡ Some group → place_there line ≡ Some p → place_there (through track report place line) ≡ Some p
  place_of-through place line p named h =
      let k = max (position_or_len (leg_eq told_leg) line + 1) (legs_begun_before track place line) in
      let has = has_leg-take k line told_leg (omega arith) (placed_has line p h).0 in
      ap (λ o. place_there (option_map_or (λ (g : BaliseGroup). take (max (position_or_len (leg_eq (leg_told g report)) line + 1) (legs_begun_before track place line)) line) o line)) named
      ∙ place_of-shorter (take k line) (drop k line) line p (sym (take-append-drop k line)) has h

  -- and it is the origin of a line that has the leg
  origin_there : (line : Line) → has_leg line told_leg ≡ true → place_there line ≡ Some (origin_on track group report line)
  origin_there line has =
      let q = place_on-some track group.section (metres_to_group track group) line (told_section track group report line has) in
      let there : place_there line ≡ Some q.0 = place_is line has ∙ q.1 in
      there ∙ ap Some (sym (ap (λ o. unwrap_or o 0) there))

-- ---- where a report places its train

near_by : (b : Bool) (x y : Placed) → cond b (Err TooFar) (Ok x) ≡ Ok y → b ≡ false
near_by true x y h = cc
near_by false x y h = refl

abbrev from_covered : Track → Report → BaliseGroup → Option Line → Result Placed Refusal
from_covered track report group None = Err Unplaced
from_covered track report group (Some line) = placed_on track group report line

abbrev from_located : Track → Locks → Report → BaliseGroup → Option Line → Result Placed Refusal
from_located track locks report group None = Err Offline
from_located track locks report group (Some line) = from_covered track report group (covered track locks group report (without_legs_behind track group report line))

abbrev from_group : Track → Locks → Option Line → Report → Option BaliseGroup → Result Placed Refusal
from_group track locks known report None = Err UnknownGroup
from_group track locks known report (Some group) = from_located track locks report group (located track locks (leg_told group report) known)

-- a line that has the leg told and the rear
record HasRear (track : Track) (group : BaliseGroup) (report : Report) (line : Line) : Type 0 where
  has : has_leg line (leg_told group report) ≡ true
  rear : has_rear track group report line ≡ true

module _ (track : Track) (locks : Locks) (group : BaliseGroup) (report : Report) (start line : Line) (sound : IsSound track) (good : IsGoodLocks track locks) (s : OnLine track start) (told : has_leg start (leg_told group report) ≡ true) where
  abbrev count : ℕ
  count = min (position_or_len (leg_eq (leg_told group report)) start) (legs_ending_by track (rear_on track group report start) start)

  abbrev stays : Line
  stays = drop count start

  stays_told : has_leg stays (leg_told group report) ≡ true
  stays_told = has_leg-drop count start (leg_told group report) (omega arith) told

  stays_on : OnLine track stays
  stays_on = OnLine-right track (take count start) stays (some_with_leg stays (leg_told group report) stays_told) (subst (OnLine track) (sym (take-append-drop count start)) s)

  covered_by : (mid : Line) → lengthened (length track.sections) (longer_back locks) (has_rear track group report) stays ≡ Some mid
      → lengthened (length track.sections) (longer_ahead locks) (has_front track group report) mid ≡ Some line → HasRear track group report line
  covered_by mid h k =
      let back = back_until track locks good sound (has_rear track group report) (length track.sections) stays mid h stays_on in
      let b = back.0 in
      let front = ahead_until track locks good (has_front track group report) (length track.sections) mid line k b.on in
      let f = front.0 in
      let mid_told = subst (λ l. has_leg l (leg_told group report) ≡ true) (sym b.is) (has_leg-right b.more stays (leg_told group report) stays_told) in
      let same = ap (origin_on track group report) f.is ∙ origin-append_left track group report mid f.more mid_told in
      record {
        has = subst (λ l. has_leg l (leg_told group report) ≡ true) (sym f.is) (has_leg-left mid f.more (leg_told group report) mid_told);
        rear = ap (λ origin. nat_le (report.over + report.length) (origin + report.distance)) same ∙ back.1;
      }

  has_covered : covered track locks group report (without_legs_behind track group report start) ≡ Some line → HasRear track group report line
  has_covered h =
      option_and_then_some (lengthened (length track.sections) (longer_ahead locks) (has_front track group report)) (lengthened (length track.sections) (longer_back locks) (has_rear track group report) stays) line h
      (λ mid e k. covered_by mid e k)

module _ (track : Track) (locks : Locks) (known : Option Line) (report : Report) (placed : Placed) (sound : IsSound track) (good : IsGoodLocks track locks) (on : (line : Line) → known ≡ Some line → OnLine track line)
    (there : place track locks known report ≡ Ok placed) where
  found : IsFound track locks known report placed
  found = is_found track locks known report placed there

  near : report.distance + report.under ≤ farthest track.format
  near =
      let f = found in
      let e : place track locks known report ≡ placed_on track f.group report f.line =
      ap (from_group track locks known report) f.named ∙ ap (from_located track locks report f.group) f.located_there ∙ ap (from_covered track report f.group) f.covers in
      let test = near_by (nat_lt (farthest track.format) (report.distance + report.under)) (record { line = f.line; origin = origin_on track f.group report f.line; rear = rear_on track f.group report f.line; front = front_on track f.group report f.line }) placed (sym e ∙ there) in
      ltb-false (farthest track.format) (report.distance + report.under) test

  -- the placed line, and where the group stands on it
  record IsPlacedThere : Type 0 where
    group : BaliseGroup
    named : group_named track report.group ≡ Some group
    origin : place_of track placed.line group (leg_told group report).direction ≡ Some placed.origin
    front : placed.front ≡ placed.origin + report.distance + report.under
    rear : placed.rear + (report.over + report.length) ≡ placed.origin + report.distance

  behind : (origin distance far : ℕ) → nat_le far (origin + distance) ≡ true → origin + distance - far + far ≡ origin + distance
  behind origin distance far test = let low = leb-true far (origin + distance) test in omega (arith, low)

  is_there : IsPlacedThere
  is_there =
      let f = found in
      let s = is_start track locks known report f.group f.start sound good on f.named f.located_there in
      let c = has_covered track locks f.group report f.start f.line sound good s.on s.has f.covers in
      let is_so : Placed → Type 0 = λ p. (place_of track p.line f.group (leg_told f.group report).direction ≡ Some p.origin) × (p.front ≡ p.origin + report.distance + report.under) × (p.rear + (report.over + report.length) ≡ p.origin + report.distance) in
      let all = subst is_so f.is (origin_there track f.group report f.line c.has, refl, behind (origin_on track f.group report f.line) report.distance (report.over + report.length) c.rear) in
      record { group = f.group; named = f.named; origin = all.0; front = all.1; rear = all.2 }

  -- the train there, with its authority from one place to another
  abbrev holding : ℕ → ℕ → Train
  holding a b = record {
    report = report;
    line = through track report (max placed.front b) placed.line;
    origin = placed.origin;
    rear = placed.rear;
    front = placed.front;
    from = a;
    to = b;
  }

  holding_told : (a b : ℕ) → StandsAsTold track (holding a b)
  holding_told a b =
      let p = is_there in (
        p.group,
        p.named,
        record { origin = place_of-through track p.group report (max placed.front b) placed.line placed.origin p.named p.origin; front = p.front; rear = p.rear; near = near },
      )

  chosen : (P : Train → Type 0) (b : Bool) (x y : Train) → P x → P y → P (cond b x y)
  chosen P true x y h k = h
  chosen P false x y h k = k

  with_told : (a b : ℕ) → StandsAsTold track (train_with track report placed a b)
  with_told a b = chosen (StandsAsTold track) (nat_lt a b) (holding a b) (holding placed.front placed.front) (holding_told a b) (holding_told placed.front placed.front)

  pub after_told : (train : Option Train) → StandsAsTold track (train_after track locks train report placed)
  after_told None = with_told placed.front placed.front
  after_told (Some train) =
      let now_at : ℕ → ℕ = λ k. renumbered (old_origin track locks report train.line) placed.origin k in
      chosen (StandsAsTold track) (nat_lt train.from train.to) (train_with track report placed (max (now_at train.from) placed.rear) (now_at train.to)) (train_with track report placed placed.front placed.front)
      (with_told (max (now_at train.from) placed.rear) (now_at train.to)) (with_told placed.front placed.front)

-- a train's report is the last one
reported_in : (P : Train → Type 0) (b : Bool) (x y : Train) → P x → P y → P (cond b x y)
reported_in P true x y h k = h
reported_in P false x y h k = k

module _ (track : Track) (report : Report) (placed : Placed) where
  placed_report : (from to : ℕ) → (train_with track report placed from to).report ≡ report
  placed_report from to = reported_in (λ t. t.report ≡ report) (nat_lt from to) (at from to) (at placed.front placed.front) refl refl
    where
      at : ℕ → ℕ → Train
      at a b = record {
        report = report;
        line = through track report (max placed.front b) placed.line;
        origin = placed.origin;
        rear = placed.rear;
        front = placed.front;
        from = a;
        to = b;
      }

  pub last_report : (known : Option Train) (locks : Locks) → (train_after track locks known report placed).report ≡ report
  last_report None locks = placed_report placed.front placed.front
  last_report (Some train) locks =
      let now_at : ℕ → ℕ = λ k. renumbered (old_origin track locks report train.line) placed.origin k in
      reported_in (λ t. t.report ≡ report) (nat_lt train.from train.to) (train_with track report placed (max (now_at train.from) placed.rear) (now_at train.to)) (train_with track report placed placed.front placed.front)
      (placed_report (max (now_at train.from) placed.rear) (now_at train.to)) (placed_report placed.front placed.front)

pub cut_report : (track : Track) (train : Train) (to : ℕ) → (cut_at track train to).report ≡ train.report
cut_report track train to =
    let line = through track train.report (max train.front to) train.line in
    reported_in (λ t. t.report ≡ train.report) (nat_lt train.from to) (with_authority train line train.from to) (with_authority train line train.front train.front) refl refl

-- ---- authorities that are cut or granted

-- a train on another line, with the same place for its group
on_other_line : (track : Track) (train : Train) (line : Line) (from to : ℕ) → (t : StandsAsTold track train) → place_of track line t.0 (leg_told t.0 train.report).direction ≡ Some train.origin
    → StandsAsTold track (with_authority train line from to)
on_other_line track train line from to t there = let told = t.2 in (t.0, t.1, record { origin = there; front = told.front; rear = told.rear; near = told.near })

pub cut_told : (track : Track) (train : Train) (to : ℕ) → StandsAsTold track train → StandsAsTold track (cut_at track train to)
cut_told track train to t =
    let told = t.2 in
    let line = through track train.report (max train.front to) train.line in
    let there = place_of-through track t.0 train.report (max train.front to) train.line train.origin t.1 told.origin in
    by_end (nat_lt train.from to) (on_other_line track train line train.from to t there) (on_other_line track train line train.front train.front t there)
  where
    by_end : (b : Bool) {x y : Train} → StandsAsTold track x → StandsAsTold track y → StandsAsTold track (cond b x y)
    by_end true h k = h
    by_end false h k = k

-- the line that is granted goes on from the one before
taken_on : (n : ℕ) (line more way : Line) → way ≡ line ++ more → (rest : Line) × (take (max (length line) n) way ≡ line ++ rest)
taken_on n line more way e =
    let k = max (length line) n - length line in (
      take k more,
      ap₂ take (let sum : max (length line) n ≡ length line + k = omega arith in sum) e ∙ take-append-add line more k,
    )

pub granted_told : (track : Track) (scene : Scene) (train : Train) (from to : ℕ) → IsGoodLocks track scene.locks → IsGoodTrain track train → StandsAsTold track train
    → StandsAsTold track (with_authority train (line_for track scene train to) from to)
granted_told track scene train from to locks good t =
    let told = t.2 in
    let ahead = ahead_fully track scene.locks locks (length track.sections) train.line (OnLine-IsLine track train.line good.line) in
    let longer = taken_on (legs_begun_before track to (way track scene train)) train.line ahead.more (way track scene train) ahead.is in
    on_other_line track train (line_for track scene train to) from to t
    (ap (λ (l : Line). place_of track l t.0 (leg_told t.0 train.report).direction) longer.1 ∙ place_of-longer track t.0 train.report train.line longer.0 train.origin told.origin)

-- ---- rows

same_before : (before : Option Leg) → option_eq leg_eq before before ≡ true
same_before None = refl
same_before (Some leg) = leg_eq-itself leg

same_itself : (need : Need) → same_need need need ≡ true
same_itself need = rw (leg_eq-itself need.0, same_before need.1) refl

abbrev is_among : List Need → Need → Bool
is_among rows need = list_any (λ other. same_need other need) rows

all_among : (rows : List Need) → AllByRecursion (λ (need : Need). is_among rows need ≡ true) rows
all_among [] = tt
all_among (first ∷ rows) = (
  or_left (same_need first first) (is_among rows first) (same_itself first),
  each_weaker (λ (need : Need). is_among rows need ≡ true) (λ (need : Need). is_among (first ∷ rows) need ≡ true) rows
      (λ need h. or_right (same_need first need) (is_among rows need) h) (all_among rows),
)

module _ (track : Track) where
  abbrev pub RowsAreNeeded : Locks → Type 0
  RowsAreNeeded locks = (section : ℕ) (lock : Lock) → row locks section ≡ Some lock → is_needed track section lock ≡ true

  new_row : (number : ℕ) (route : Route) (need : Need) (section : ℕ) (lock : Lock) → slice_get track.routes number ≡ Some route → is_among (needed_rows route) need ≡ true
      → need.0.section ≡ section → the_lock number need ≡ lock → is_needed track section lock ≡ true
  new_row number route need section lock there among same is =
      subst (λ (l : Lock). is_needed track section l ≡ true) is
      (subst (λ s. is_needed track s (the_lock number need) ≡ true) same
      (ap (λ o. option_map_or (needs (own_leg need.0.section (the_lock number need), need.1)) o false) there ∙ among))

  rows_of_route : (number : ℕ) (route : Route) → slice_get track.routes number ≡ Some route → (rows : List Need) (locks : Locks) → AllByRecursion (λ (need : Need). is_among (needed_rows route) need ≡ true) rows
      → RowsAreNeeded locks → RowsAreNeeded (fold (with_row number) locks rows)
  rows_of_route number route there [] locks among of = of
  rows_of_route number route there (need ∷ rows) locks among of =
      rows_of_route number route there rows (with_row number locks need) among.1
      (λ section lock at.
      elim (row-set_cases locks need.0.section section (Some (the_lock number need)) lock at) [
        | inl e ↦ new_row number route need section lock there among.0 e.0 (the_some (the_lock number need) lock e.1)
        | inr e ↦ of section lock e.1
      ])

  pub rows_locked : (number : ℕ) (locks after : Locks) (o : Option Route) → slice_get track.routes number ≡ o → RowsAreNeeded locks
      → option_map_or (λ (route : Route). unless (option_map Clash (clash locks route)) (unless (option_map LinkTaken (taken_link locks route)) (Ok (fold (with_row number) locks (needed_rows route))))) o (Ok locks) ≡ Ok after
      → RowsAreNeeded after
  rows_locked number locks after None e of h = subst RowsAreNeeded (the_ok {E = Refusal} locks after h) of
  rows_locked number locks after (Some route) e of h =
      let one = unless_none Clash (clash locks route) (unless (option_map LinkTaken (taken_link locks route)) (Ok (fold (with_row number) locks (needed_rows route)))) after h in
      let two = unless_none LinkTaken (taken_link locks route) (Ok (fold (with_row number) locks (needed_rows route))) after one.1 in
      subst RowsAreNeeded (the_ok {E = Refusal} (fold (with_row number) locks (needed_rows route)) after two.1)
      (rows_of_route number route e (needed_rows route) locks (all_among (needed_rows route)) of)

-- ---- how many trains

-- a train of a number that is there takes the place of that one
pub count_replaced : (scene : Scene) (train known : Train) → train_numbered scene train.report.train ≡ Some known → length (with_train scene train).trains ≡ length scene.trains
count_replaced scene train known there =
    ap (λ o. length (cond (is_some o) (map (λ (other : Train). cond (other.report.train == train.report.train) train other) scene.trains) (scene.trains ++ train ∷ []))) there
    ∙ length-map scene.trains (λ (other : Train). cond (other.report.train == train.report.train) train other)

-- a new one comes only where there is room
room_by : (known full : Bool) (r : Result Scene Refusal) (after : Scene) (train : Train) (trains swapped : List Train) → cond (not known && full) (Err Crowded) r ≡ Ok after → nat_le MOST_TRAINS (length trains) ≡ full
    → length swapped ≡ length trains → length trains ≤ MOST_TRAINS → length (cond known swapped (trains ++ train ∷ [])) ≤ MOST_TRAINS
room_by true full r after train trains swapped h e same few = omega (arith, same, few)
room_by false true r after train trains swapped h e same few = cc
room_by false false r after train trains swapped h e same few =
    let room = leb-false MOST_TRAINS (length trains) e in
    let more = length-append trains (train ∷ []) in
    omega (arith, room, more)

pub count_reported : (track : Track) (scene after : Scene) (report : Report) (train : Train) → train.report ≡ report → after_report track scene report ≡ Ok after → length scene.trains ≤ MOST_TRAINS
    → length (with_train scene train).trains ≤ MOST_TRAINS
count_reported track scene after report train is h few =
    let swap = λ (other : Train). cond (other.report.train == train.report.train) train other in
    subst (λ n. length (cond (is_some (train_numbered scene n)) (map swap scene.trains) (scene.trains ++ train ∷ [])) ≤ MOST_TRAINS) (sym (ap (λ (r : Report). r.train) is))
    (room_by (is_some (train_numbered scene report.train)) (nat_le MOST_TRAINS (length scene.trains))
    (result_map_both (with_train scene) (λ (e : Refusal). e) (reported track scene.locks (train_numbered scene report.train) report)) after train scene.trains (map swap scene.trains) h refl
    (length-map scene.trains swap) few)
