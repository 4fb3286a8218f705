-- Where a report puts its train: the line before and the line after share the legs that stay, legs go or come behind them, and never both.
use Rattle.std.proofs.Common.{◌≡◌, ℕ, ◌+◌, ◌-◌, ◌<◌, ◌≤◌, min, Bool, true, false, cond, [], ◌∷◌, ◌++◌, length, take, drop, Option, Some, None, Result, Ok, Err, refl, ap, sym, ◌∙◌, subst, arith, ◌⊎◌, inl, inr, nat_lt, nat_le}
use Rattle.std.specs.List.{position_or_len}
use Rattle.std.proofs.lemmas.Bool.{leb-true, ltb-true, leb-false, cases_Bool, or_left}
use Rattle.std.proofs.lemmas.Option.{option_and_then_some}
use Rattle.std.proofs.lemmas.List.{take-append-drop}
use Rattle.rbc_model.specs.Reports.{Report}
use Rattle.rbc_model.specs.declared.tracks.BaliseGroup.{BaliseGroup}
use Rattle.rbc_model.specs.declared.places.Leg.{Leg}
use Rattle.rbc_model.specs.declared.refusals.Refusal.{Refusal}
use Rattle.rbc_model.specs.declared.refusals.Refusal.TheVariants.{UnknownGroup, Offline, Unplaced, TooFar}
use Rattle.rbc_model.specs.Scales.{farthest}
use Rattle.rbc_model.specs.Tracks.{Track, leg_eq, metres_of, group_named, group_name_eq}
use Rattle.rbc_model.specs.SoundTracks.{IsSound, is_good_group, sections_differ}
use Rattle.rbc_model.specs.Lines.{Line, line_length, has_leg, legs_ending_by}
use Rattle.rbc_model.specs.Locks.{Locks, longer_ahead, longer_back, lengthened}
use Rattle.rbc_model.specs.Placing.{Placed, leg_told, running_leg, located, covered, without_legs_behind, placed_on, place, origin_on, rear_on, front_on, has_rear, has_front}
use Rattle.rbc_model.proofs.SamenessLemmas.{leg_eq-itself}
use Rattle.rbc_scene_laws.specs.Good.{IsGoodLocks}
use Rattle.rbc_scene_laws.proofs.BasicLemmas.{and_left, the_some}
use Rattle.rbc_scene_laws.proofs.SpotLemmas.{line_length-append}
use Rattle.rbc_scene_laws.proofs.TrainListLemmas.{find-holds}
use Rattle.rbc_scene_laws.proofs.OnLineLemmas.{OnLine, OnLine-right, OnLine-one, differ_left}
use Rattle.rbc_scene_laws.proofs.LengtheningLemmas.{IsAhead, IsFurtherBack, ahead_until, back_until, lengthened-now}
use Rattle.rbc_scene_laws.proofs.ReachingLemmas.{ending_reach, line_length-take_more}
use Rattle.rbc_scene_laws.proofs.OriginLemmas.{has_leg-drop, has_leg-right, some_with_leg, origin-append_left, origin-append_right}
use Rattle.rbc_model.proofs.BasicLemmas.{each_of}

-- ---- what an accepted placing went through

pub record IsFound (track : Track) (locks : Locks) (known : Option Line) (report : Report) (placed : Placed) : Type 0 where
  pub group : BaliseGroup
  pub named : group_named track report.group ≡ Some group
  pub start : Line
  pub located_there : located track locks (leg_told group report) known ≡ Some start
  pub line : Line
  pub covers : covered track locks group report (without_legs_behind track group report start) ≡ Some line
  pub is : record { line = line; origin = origin_on track group report line; rear = rear_on track group report line; front = front_on track group report line } ≡ placed

near_by : (b : Bool) (x y : Placed) → cond b (Err TooFar) (Ok x) ≡ Ok y → x ≡ y
near_by true x y h = cc
near_by false x y h = cc

abbrev from_covered : Track → Report → BaliseGroup → Option Line → Result Placed Refusal
from_covered track report group None = Err Unplaced
from_covered track report group (Some line) = placed_on track group report line

abbrev from_located : Track → Locks → Report → BaliseGroup → Option Line → Result Placed Refusal
from_located track locks report group None = Err Offline
from_located track locks report group (Some line) = from_covered track report group (covered track locks group report (without_legs_behind track group report line))

abbrev from_group : Track → Locks → Option Line → Report → Option BaliseGroup → Result Placed Refusal
from_group track locks known report None = Err UnknownGroup
from_group track locks known report (Some group) = from_located track locks report group (located track locks (leg_told group report) known)

module _ (track : Track) (locks : Locks) (known : Option Line) (report : Report) (placed : Placed) where
  found_line : (group : BaliseGroup) → group_named track report.group ≡ Some group → (start : Line) → located track locks (leg_told group report) known ≡ Some start
      → (o : Option Line) → covered track locks group report (without_legs_behind track group report start) ≡ o → from_covered track report group o ≡ Ok placed → IsFound track locks known report placed
  found_line group e start f None g h = cc
  found_line group e start f (Some line) g h = record {
    group = group;
    named = e;
    start = start;
    located_there = f;
    line = line;
    covers = g;
    is = near_by (nat_lt (farthest track.format) (report.distance + report.under)) (record { line = line; origin = origin_on track group report line; rear = rear_on track group report line; front = front_on track group report line }) placed h;
  }

  found_start : (group : BaliseGroup) → group_named track report.group ≡ Some group → (o : Option Line) → located track locks (leg_told group report) known ≡ o → from_located track locks report group o ≡ Ok placed → IsFound track locks known report placed
  found_start group e None f h = cc
  found_start group e (Some start) f h = found_line group e start f (covered track locks group report (without_legs_behind track group report start)) refl h

  found_group : (o : Option BaliseGroup) → group_named track report.group ≡ o → from_group track locks known report o ≡ Ok placed → IsFound track locks known report placed
  found_group None e h = cc
  found_group (Some group) e h = found_start group e (located track locks (leg_told group report) known) refl h

  pub is_found : place track locks known report ≡ Ok placed → IsFound track locks known report placed
  is_found h = found_group (group_named track report.group) refl h

-- ---- the line that has the group's leg

pub record IsStart (track : Track) (leg : Leg) (known : Option Line) (start : Line) : Type 0 where
  pub on : OnLine track start
  pub has : has_leg start leg ≡ true
  pub ahead : (line : Line) → known ≡ Some line → IsAhead track line start

told_below : (track : Track) (report : Report) (group : BaliseGroup) → IsSound track → group_named track report.group ≡ Some group → (leg_told group report).section < length track.sections
told_below track report group sound h = by_nominal report.nominal
  where
    good : is_good_group track group ≡ true
    good = find-holds (λ (g : BaliseGroup). is_good_group track g ≡ true) (λ (g : BaliseGroup). group_name_eq g.name report.group) track.groups group h (each_of (is_good_group track) track.groups sound.groups)

    low : group.section < length track.sections
    low =
        let a = nat_lt group.section (length track.sections) in
        let b = nat_le group.offset (metres_of track group.section) in
        ltb-true group.section (length track.sections) (and_left a b good)

    by_nominal : (b : Bool) → (running_leg group b).section < length track.sections
    by_nominal true = low
    by_nominal false = low

pub is_start : (track : Track) (locks : Locks) (known : Option Line) (report : Report) (group : BaliseGroup) (start : Line) → IsSound track → IsGoodLocks track locks → ((line : Line) → known ≡ Some line → OnLine track line)
    → group_named track report.group ≡ Some group → located track locks (leg_told group report) known ≡ Some start → IsStart track (leg_told group report) known start
is_start track locks None report group start sound good on named h =
    subst (IsStart track (leg_told group report) None) (the_some (leg_told group report ∷ []) start h)
    (record {
      on = OnLine-one track (leg_told group report) (told_below track report group sound named);
      has = or_left (leg_eq (leg_told group report) (leg_told group report)) false (leg_eq-itself (leg_told group report));
      ahead = λ line e. absurd (let c : ⊥ = cc in c);
    })
is_start track locks (Some line) report group start sound good on named h =
    let a = ahead_until track locks good (λ l. has_leg l (leg_told group report)) (length track.sections) line start h (on line refl) in
    record { on = let i = a.0 in i.on; has = a.1; ahead = λ l e. subst (λ z. IsAhead track z start) (the_some line l e) a.0 }

-- ---- legs that go, legs that come

pub record IsMoved (track : Track) (group : BaliseGroup) (report : Report) (start line : Line) : Type 0 where
  pub gone : Line
  pub added : Line
  pub stays : Line
  pub ahead : Line
  pub is_start : start ≡ gone ++ stays
  pub is_line : line ≡ (added ++ stays) ++ ahead
  pub on : OnLine track line
  pub has_told : has_leg stays (leg_told group report) ≡ true
  pub one : (line_length track gone ≡ 0) ⊎ (line_length track added ≡ 0)
  pub front : front_on track group report line ≤ line_length track line
  pub rear : rear_on track group report line + (report.over + report.length) ≡ origin_on track group report line + report.distance

-- the rear of a line that has it is as far behind the front end as is told
rear_there : (origin other distance behind : ℕ) → origin ≡ other → behind ≤ other + distance → origin + distance - behind + behind ≡ origin + distance
rear_there origin other distance behind same low = omega (arith, same, low)

-- nothing is added behind a line that has the rear; one that lacks it lost nothing
not_both : (gone back stay origin distance behind rear : ℕ) → stay + distance < behind → origin ≡ gone + stay → rear ≡ origin + distance - behind → gone ≤ rear → gone ≡ 0
not_both gone back stay origin distance behind rear low e f h = omega arith

module _ (track : Track) (locks : Locks) (group : BaliseGroup) (report : Report) (start line : Line) (sound : IsSound track) (good : IsGoodLocks track locks) (s : OnLine track start) (has : has_leg start (leg_told group report) ≡ true) where
  abbrev count : ℕ
  count = min (position_or_len (leg_eq (leg_told group report)) start) (legs_ending_by track (rear_on track group report start) start)

  abbrev gone_legs : Line
  gone_legs = take count start

  abbrev stays_legs : Line
  stays_legs = drop count start

  parts : start ≡ gone_legs ++ stays_legs
  parts = sym (take-append-drop count start)

  stays_told : has_leg stays_legs (leg_told group report) ≡ true
  stays_told = has_leg-drop count start (leg_told group report) (omega arith) has

  stays_on : OnLine track stays_legs
  stays_on = OnLine-right track gone_legs stays_legs (some_with_leg stays_legs (leg_told group report) stays_told) (subst (OnLine track) parts s)

  gone_before_rear : line_length track gone_legs ≤ rear_on track group report start
  gone_before_rear =
      let some = line_length-take_more track count (legs_ending_by track (rear_on track group report start) start) start (omega arith) in
      let all = ending_reach track (rear_on track group report start) start in
      omega arith

  nothing_gone : has_rear track group report stays_legs ≡ false → line_length track gone_legs ≡ 0
  nothing_gone h =
      not_both (line_length track gone_legs) 0 (origin_on track group report stays_legs) (origin_on track group report start) report.distance (report.over + report.length) (rear_on track group report start)
      (leb-false (report.over + report.length) (origin_on track group report stays_legs + report.distance) h)
      (ap (origin_on track group report) parts ∙ origin-append_right track group report gone_legs stays_legs (subst (λ l. sections_differ l ≡ true) parts s.differ) stays_told)
      refl gone_before_rear

  nothing_added : (mid : Line) (b : IsFurtherBack track stays_legs mid) → lengthened (length track.sections) (longer_back locks) (has_rear track group report) stays_legs ≡ Some mid → has_rear track group report stays_legs ≡ true → line_length track b.more ≡ 0
  nothing_added mid b h now =
      let same : stays_legs ≡ mid = the_some stays_legs mid (sym (lengthened-now (length track.sections) (longer_back locks) (has_rear track group report) stays_legs now) ∙ h) in
      let metres : line_length track stays_legs ≡ line_length track b.more + line_length track stays_legs = ap (line_length track) (same ∙ b.is) ∙ line_length-append track b.more stays_legs in
      omega arith

  moved_by : (mid : Line) → lengthened (length track.sections) (longer_back locks) (has_rear track group report) stays_legs ≡ Some mid
      → lengthened (length track.sections) (longer_ahead locks) (has_front track group report) mid ≡ Some line → IsMoved track group report start line
  moved_by mid h k =
      let back = back_until track locks good sound (has_rear track group report) (length track.sections) stays_legs mid h stays_on in
      let b = back.0 in
      let front = ahead_until track locks good (has_front track group report) (length track.sections) mid line k b.on in
      let f = front.0 in
      record {
        gone = gone_legs;
        added = b.more;
        stays = stays_legs;
        ahead = f.more;
        is_start = parts;
        is_line = f.is ∙ ap (λ l. l ++ f.more) b.is;
        on = f.on;
        has_told = stays_told;
        one = elim (cases_Bool (has_rear track group report stays_legs)) [ inl e ↦ inr (nothing_added mid b h e) | inr e ↦ inl (nothing_gone e) ];
        front = leb-true (front_on track group report line) (line_length track line) front.1;
        rear =
            let mid_told = subst (λ l. has_leg l (leg_told group report) ≡ true) (sym b.is) (has_leg-right b.more stays_legs (leg_told group report) stays_told) in
            let same = ap (origin_on track group report) f.is ∙ origin-append_left track group report mid f.more mid_told in
            rear_there (origin_on track group report line) (origin_on track group report mid) report.distance (report.over + report.length) same
            (leb-true (report.over + report.length) (origin_on track group report mid + report.distance) back.1);
      }

  pub is_moved : covered track locks group report (without_legs_behind track group report start) ≡ Some line → IsMoved track group report start line
  is_moved h =
      option_and_then_some (lengthened (length track.sections) (longer_ahead locks) (has_front track group report)) (lengthened (length track.sections) (longer_back locks) (has_rear track group report) stays_legs) line h
      (λ mid e k. moved_by mid e k)

-- ---- the origins

pub record HaveOrigins (track : Track) (group : BaliseGroup) (report : Report) (start line : Line) (gone added : ℕ) : Type 0 where
  pub stay : ℕ
  pub old : origin_on track group report start ≡ gone + stay
  pub new : origin_on track group report line ≡ added + stay

pub origins : (track : Track) (group : BaliseGroup) (report : Report) (start line : Line) → OnLine track start → (m : IsMoved track group report start line) → HaveOrigins track group report start line (line_length track m.gone) (line_length track m.added)
origins track group report start line s m =
    let whole : sections_differ ((m.added ++ m.stays) ++ m.ahead) ≡ true = subst (λ l. sections_differ l ≡ true) m.is_line (let o = m.on in o.differ) in
    record {
      stay = origin_on track group report m.stays;
      old = ap (origin_on track group report) m.is_start ∙ origin-append_right track group report m.gone m.stays (subst (λ l. sections_differ l ≡ true) m.is_start s.differ) m.has_told;
      new =
          ap (origin_on track group report) m.is_line
          ∙ origin-append_left track group report (m.added ++ m.stays) m.ahead (has_leg-right m.added m.stays (leg_told group report) m.has_told)
          ∙ origin-append_right track group report m.added m.stays (differ_left (m.added ++ m.stays) m.ahead whole) m.has_told;
    }
