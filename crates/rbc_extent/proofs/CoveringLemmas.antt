-- What a line keeps while it is lengthened for a report: which legs it gains, and where the report's group stands on it.
use Rattle.std.proofs.Common.{◌≡◌, ℕ, ◌+◌, ◌-◌, ◌<◌, ◌≤◌, suc, Bool, true, false, cond, ◌||◌, not, [], ◌∷◌, ◌++◌, length, Option, Some, None, Result, Ok, Err, refl, ap, sym, ◌∙◌, subst, arith, nat_le}
use Rattle.std.specs.Prelude.{option_and_then}
use Rattle.std.specs.List.{position_or_len}
use Rattle.std.proofs.lemmas.Bool.{leb-false, or_right}
use Rattle.std.proofs.Math.Bool.{or-false}
use Rattle.std.proofs.lemmas.Option.{same_Some}
use Rattle.rbc_model.specs.declared.places.Leg.{Leg}
use Rattle.rbc_model.specs.declared.refusals.Refusal.{Refusal}
use Rattle.rbc_model.specs.declared.tracks.BaliseGroup.{BaliseGroup}
use Rattle.rbc_model.specs.Reports.{Report}
use Rattle.rbc_model.specs.Tracks.{Track, leg_eq}
use Rattle.rbc_model.specs.SoundTracks.{IsSound, sections_differ}
use Rattle.rbc_model.specs.Lines.{Line, IsLine, has_leg, has_section, last_leg, line_length}
use Rattle.rbc_model.specs.Locks.{Locks, next, longer_ahead, longer_back, lengthened}
use Rattle.rbc_model.specs.Placing.{leg_told, origin_on, front_on, has_rear, has_front}
use Rattle.rbc_line.specs.OnTracks.{LineOnTrack}
use Rattle.rbc_scene_laws.specs.Good.{IsGoodLocks}
use Rattle.rbc_scene_laws.proofs.SpotLemmas.{line_length-append}
use Rattle.rbc_scene_laws.proofs.OnLineLemmas.{OnLine, OnLine-IsLine}
use Rattle.rbc_scene_laws.proofs.LengtheningLemmas.{back_step}
use Rattle.rbc_scene_laws.proofs.OriginLemmas.{has_leg-left, origin-append_left, origin-append_right}
use Rattle.rbc_extent.specs.PlacingSteps.{found_or}
use Rattle.rbc_extent.proofs.LengthenedLemmas.{IsUnderWay, under_way-begin, under_way-more, under_way-found, under_way-stuck, under_way-out}
use Rattle.rbc_model.proofs.StopLemmas.{last_leg-push}

-- ---- tests of numbers

pub le_test : (a b : ℕ) → a ≤ b → nat_le a b ≡ true
le_test a b h = by_test (nat_le a b) refl
  where
    by_test : (t : Bool) → nat_le a b ≡ t → nat_le a b ≡ true
    by_test true e = e
    by_test false e = let far = leb-false a b e in absurd (omega arith)

-- ---- the leg gained ahead

-- what a longer line is
pub record IsOneAhead (line longer : Line) : Type 0 where
  pub leg : Leg
  pub is : line ++ leg ∷ [] ≡ longer

gained_is : (t : Bool) (a longer : Line) → Some longer ≡ cond t None (Some a) → a ≡ longer
gained_is true a longer e = cc
gained_is false a longer e = cc

one_by : (line longer : Line) (o : Option Leg) → Some longer ≡ option_and_then (λ (leg : Leg). cond (has_section line leg.section) None (Some (line ++ leg ∷ []))) o → IsOneAhead line longer
one_by line longer None e = cc
one_by line longer (Some leg) e = record { leg = leg; is = gained_is (has_section line leg.section) (line ++ leg ∷ []) longer e }

pub one_ahead : (locks : Locks) (line longer : Line) → Some longer ≡ longer_ahead locks line → IsOneAhead line longer
one_ahead locks line longer e = one_by line longer (option_and_then (next locks) (last_leg line)) e

has_leg-push : (line : Line) (leg other : Leg) → has_leg line leg ≡ false → has_leg (line ++ other ∷ []) leg ≡ leg_eq leg other
has_leg-push [] leg other h = or-false (leg_eq leg other)
has_leg-push (a ∷ line) leg other h = skipped (leg_eq leg a) (has_leg line leg) (has_leg (line ++ other ∷ []) leg) (leg_eq leg other) h (λ k. has_leg-push line leg other k)
  where
    skipped : (t u v w : Bool) → (t || u) ≡ false → (u ≡ false → v ≡ w) → (t || v) ≡ w
    skipped true u v w h k = cc
    skipped false u v w h k = k h

-- the longer line has the leg if its last leg is this one
pub has_leg-longer : (line longer : Line) (leg last : Leg) → IsOneAhead line longer → last_leg longer ≡ Some last → has_leg line leg ≡ false → has_leg longer leg ≡ leg_eq leg last
has_leg-longer line longer leg last one e h =
    let same : one.leg ≡ last = same_Some one.leg last (sym (last_leg-push line one.leg) ∙ ap last_leg one.is ∙ e) in
    ap (λ l. has_leg l leg) (sym one.is) ∙ has_leg-push line leg one.leg h ∙ ap (leg_eq leg) same

-- a leg of the line stands on it before its end
pub position-has_leg : (line : Line) (leg : Leg) → has_leg line leg ≡ true → position_or_len (leg_eq leg) line < length line
position-has_leg [] leg h = cc
position-has_leg (a ∷ line) leg h = by_first (leg_eq leg a) (has_leg line leg) (position_or_len (leg_eq leg) line) (length line) h (λ k. position-has_leg line leg k)
  where
    by_first : (t u : Bool) (p n : ℕ) → (t || u) ≡ true → (u ≡ true → p < n) → cond (not t) (1 + p) 0 < suc n
    by_first true u p n h k = omega arith
    by_first false u p n h k = let low = k h in omega arith

-- ---- while a line is lengthened

-- whether the line gained a leg, as a flag tells it
pub flag-none : (t : Bool) (line : Line) (o : Option Line) → cond t (Some line) None ≡ o → t ≡ false → None ≡ o
flag-none true line o e h = cc
flag-none false line o e h = e

pub flag-some : (t : Bool) (line : Line) (o : Option Line) → cond t (Some line) None ≡ o → t ≡ true → Some line ≡ o
flag-some true line o e h = e
flag-some false line o e h = cc

module _ (longer : Line → Option Line) (test : Line → Bool) (start : LineOnTrack) (sections : ℕ) where
  pub record IsLengthening (added : ℕ) (now : LineOnTrack) : Type 0 where
    pub under_way : IsUnderWay longer test sections start.legs added now.legs
    pub track : now.track ≡ start.track
    pub all : sections ≡ length start.track.sections

  pub lengthening-begin : (now : LineOnTrack) → now ≡ start → sections ≡ length start.track.sections → test start.legs ≡ false → IsLengthening 0 now
  lengthening-begin now same all h =
      subst (IsLengthening 0) (sym same) (record { under_way = under_way-begin longer test sections start.legs h; track = refl; all = all })

  pub lengthening-more : (added : ℕ) (now next : LineOnTrack) → IsLengthening added now → added < sections → Some next.legs ≡ longer now.legs → test next.legs ≡ false → next.track ≡ now.track → IsLengthening (added + 1) next
  lengthening-more added now next w low e h track = record {
    under_way = under_way-more longer test sections start.legs added now.legs next.legs w.under_way low e h;
    track = track ∙ w.track;
    all = w.all;
  }

  abbrev Comes : Refusal → Result Line Refusal → ℕ → Type 0
  Comes refusal answer n = found_or refusal (lengthened n longer test start.legs) ≡ answer

  pub lengthening-found : (refusal : Refusal) (added : ℕ) (now next : LineOnTrack) → IsLengthening added now → added < sections → Some next.legs ≡ longer now.legs → test next.legs ≡ true
      → found_or refusal (lengthened (length start.track.sections) longer test start.legs) ≡ Ok next.legs
  lengthening-found refusal added now next w low e h = subst (Comes refusal (Ok next.legs)) w.all (under_way-found longer test sections start.legs refusal added now.legs next.legs w.under_way low e h)

  pub lengthening-stuck : (refusal : Refusal) (added : ℕ) (now : LineOnTrack) → IsLengthening added now → added < sections → None ≡ longer now.legs → found_or refusal (lengthened (length start.track.sections) longer test start.legs) ≡ Err refusal
  lengthening-stuck refusal added now w low e = subst (Comes refusal (Err refusal)) w.all (under_way-stuck longer test sections start.legs refusal added now.legs w.under_way low e)

  pub lengthening-out : (refusal : Refusal) (added : ℕ) (now : LineOnTrack) → IsLengthening added now → sections ≤ added → found_or refusal (lengthened (length start.track.sections) longer test start.legs) ≡ Err refusal
  lengthening-out refusal added now w low = subst (Comes refusal (Err refusal)) w.all (under_way-out longer test sections start.legs refusal added now.legs w.under_way low)

  pub lengthening-locks : (locks : Locks) (added : ℕ) (now : LineOnTrack) → IsLengthening added now → IsGoodLocks start.track locks → IsGoodLocks now.track locks
  lengthening-locks locks added now w good = subst (λ t. IsGoodLocks t locks) (sym w.track) good

-- ---- while a line is lengthened behind

pub record IsGoingBack (locks : Locks) (group : BaliseGroup) (report : Report) (start : LineOnTrack) (sections added origin : ℕ) (now : LineOnTrack) : Type 0 where
  pub lengthening : IsLengthening (longer_back locks) (has_rear start.track group report) start sections added now
  pub told : has_leg now.legs (leg_told group report) ≡ true
  pub origin_is : origin ≡ origin_on start.track group report now.legs
  pub within : origin ≤ line_length start.track now.legs

-- a leg behind moves the group by its metres
pub record IsOneBack (track : Track) (group : BaliseGroup) (report : Report) (line longer : Line) : Type 0 where
  pub told : has_leg longer (leg_told group report) ≡ true
  pub more : line_length track line ≤ line_length track longer
  pub origin : origin_on track group report longer ≡ origin_on track group report line + (line_length track longer - line_length track line)

pub one_back : (track : Track) (locks : Locks) (group : BaliseGroup) (report : Report) (line longer : Line) → IsSound track → IsGoodLocks track locks → IsLine track line → has_leg line (leg_told group report) ≡ true → Some longer ≡ longer_back locks line
    → IsOneBack track group report line longer
one_back track locks group report line longer sound good is has e = by_leg (back_step track locks good sound line longer (sym e) (OnLine-IsLine track line is))
  where
    by_leg : ((leg : Leg) × (leg ∷ line ≡ longer) × OnLine track longer) → IsOneBack track group report line longer
    by_leg s =
        let on = s.2 in
        let differ : sections_differ (s.0 ∷ line) ≡ true = subst (λ l. sections_differ l ≡ true) (sym s.1) on.differ in
        let moved = origin-append_right track group report (s.0 ∷ []) line differ has in
        let metres = line_length-append track (s.0 ∷ []) line in
        subst (IsOneBack track group report line) s.1
        (record {
          told = or_right (leg_eq (leg_told group report) s.0) (has_leg line (leg_told group report)) has;
          more = omega arith;
          origin = omega arith;
        })

-- ---- while a line is lengthened ahead

pub record IsGoingAhead (locks : Locks) (group : BaliseGroup) (report : Report) (start : LineOnTrack) (sections added front : ℕ) (now : LineOnTrack) : Type 0 where
  pub lengthening : IsLengthening (longer_ahead locks) (has_front start.track group report) start sections added now
  pub told : has_leg now.legs (leg_told group report) ≡ true
  pub front_is : front ≡ front_on start.track group report now.legs

-- a leg ahead does not move the group
pub front-longer : (track : Track) (group : BaliseGroup) (report : Report) (line longer : Line) → IsOneAhead line longer → has_leg line (leg_told group report) ≡ true → front_on track group report longer ≡ front_on track group report line
front-longer track group report line longer one has =
    ap (λ o. o + report.distance + report.under)
    (ap (origin_on track group report) (sym one.is) ∙ origin-append_left track group report line (one.leg ∷ []) has)

pub told-longer : (line longer : Line) (leg : Leg) → IsOneAhead line longer → has_leg line leg ≡ true → has_leg longer leg ≡ true
told-longer line longer leg one has = subst (λ l. has_leg l leg ≡ true) one.is (has_leg-left line (one.leg ∷ []) leg has)
