-- Lines lengthened along the locks: ahead they gain legs behind their last one, back they gain legs before their first one.
use Rattle.std.proofs.Common.{◌≡◌, ℕ, zero, suc, ◌<◌, Bool, true, false, cond, ◌&&◌, not, List, [], ◌∷◌, ◌++◌, length, Option, Some, None, refl, ap, sym, ◌∙◌, subst, arith, ◌⊎◌, inl, inr, append_assoc, append-nil}
use Rattle.std.specs.Prelude.{◌==◌, option_and_then, slice_get}
use Rattle.std.specs.Option.{option_map_or, option_flatten}
use Rattle.std.specs.List.{list_any}
use Rattle.std.proofs.lemmas.Bool.{ltb-true, or_cases}
use Rattle.std.proofs.lemmas.Option.{slice_get_within}
use Rattle.rbc_model.specs.declared.places.Leg.{Leg}
use Rattle.rbc_model.specs.declared.tracks.Link.{Link}
use Rattle.rbc_model.specs.declared.tracks.Lock.{Lock}
use Rattle.rbc_model.specs.Tracks.{Track, joins, leg_eq, reverse_leg, is_linked}
use Rattle.rbc_model.specs.SoundTracks.{IsSound, each_passes, is_good_link, is_leg_of}
use Rattle.rbc_model.specs.Lines.{Line, has_section, last_leg, first_leg}
use Rattle.rbc_model.specs.Locks.{Locks, next, prev, longer_ahead, longer_back, lengthened, lengthened_fully}
use Rattle.rbc_model.proofs.SamenessLemmas.{leg_eq-true}
use Rattle.rbc_scene_laws.specs.Good.{IsGoodLocks}
use Rattle.rbc_scene_laws.proofs.BasicLemmas.{and_left, and_right}
use Rattle.rbc_scene_laws.proofs.RowLemmas.{next-row, prev-row, linked-row}
use Rattle.rbc_scene_laws.proofs.OnLineLemmas.{OnLine, OnLine-push, OnLine-cons}

-- ---- linked legs are of the track

record AreBelow (n : ℕ) (a b : Leg) : Type 0 where
  first : a.section < n
  second : b.section < n

joined_below : (track : Track) (a b : Leg) (link : Link) (earlier : List Link) → joins a b link ≡ true → is_good_link track earlier link ≡ true → AreBelow (length track.sections) a b
joined_below track a b link earlier h good =
    let n = length track.sections in
    let p = is_leg_of track link.from in
    let q = is_leg_of track link.to in
    let r = not (link.from.section == link.to.section) in
    let s = not (list_any (joins link.from link.to) earlier) in
    let pq = and_left (p && q) r (and_left (p && q && r) s good) in
    let from = ltb-true link.from.section n (and_left p q pq) in
    let to = ltb-true link.to.section n (and_right p q pq) in
    elim (or_cases (leg_eq link.from a && leg_eq link.to b) (leg_eq link.from (reverse_leg b) && leg_eq link.to (reverse_leg a)) h) [
      | inl e ↦ record {
        first = subst (λ (l : Leg). l.section < n) (leg_eq-true link.from a (and_left (leg_eq link.from a) (leg_eq link.to b) e)) from;
        second = subst (λ (l : Leg). l.section < n) (leg_eq-true link.to b (and_right (leg_eq link.from a) (leg_eq link.to b) e)) to;
      }
      | inr e ↦ record {
        first = subst (λ (l : Leg). l.section < n) (leg_eq-true link.to (reverse_leg a) (and_right (leg_eq link.from (reverse_leg b)) (leg_eq link.to (reverse_leg a)) e)) to;
        second = subst (λ (l : Leg). l.section < n) (leg_eq-true link.from (reverse_leg b) (and_left (leg_eq link.from (reverse_leg b)) (leg_eq link.to (reverse_leg a)) e)) from;
      }
    ]

linked_in : (track : Track) (a b : Leg) (earlier links : List Link) → each_passes (is_good_link track) earlier links ≡ true → list_any (joins a b) links ≡ true → AreBelow (length track.sections) a b
linked_in track a b earlier [] good h = cc
linked_in track a b earlier (link ∷ links) good h =
    elim (or_cases (joins a b link) (list_any (joins a b) links) h) [
      | inl e ↦ joined_below track a b link earlier e (and_left (is_good_link track earlier link) (each_passes (is_good_link track) (earlier ++ link ∷ []) links) good)
      | inr e ↦ linked_in track a b (earlier ++ link ∷ []) links (and_right (is_good_link track earlier link) (each_passes (is_good_link track) (earlier ++ link ∷ []) links) good) e
    ]

pub linked_from_below : (track : Track) (a b : Leg) → IsSound track → is_linked track a b ≡ true → a.section < length track.sections
linked_from_below track a b sound h = let l = linked_in track a b [] track.links sound.links h in l.first

pub linked_to_below : (track : Track) (a b : Leg) → IsSound track → is_linked track a b ≡ true → b.section < length track.sections
linked_to_below track a b sound h = let l = linked_in track a b [] track.links sound.links h in l.second

-- ---- lengthening keeps what each step keeps

stop_cases : (b : Bool) (line r : Line) (rest : Option Line) → cond b (Some line) rest ≡ Some r → ((b ≡ true) × (line ≡ r)) ⊎ (rest ≡ Some r)
stop_cases true line r rest h = inl (refl, cc)
stop_cases false line r rest h = inr h

module _ (P : Line → Type 0) (longer : Line → Option Line) (keeps : (l m : Line) → longer l ≡ Some m → P l → P m) where
  abbrev Kept : (Line → Bool) → Line → Type 0
  Kept test r = P r × (test r ≡ true)

  onward : (test : Line → Bool) (line r : Line) (o : Option Line) (go : Line → Option Line) → longer line ≡ o → option_and_then go o ≡ Some r → P line → ((m : Line) → go m ≡ Some r → P m → Kept test r) → Kept test r
  onward test line r None go e h p on = cc
  onward test line r (Some m) go e h p on = on m h (keeps line m e p)

  stopped : (test : Line → Bool) (line r : Line) → test line ≡ true → line ≡ r → P line → Kept test r
  stopped test line r t e p = (subst P e p, subst (λ l. test l ≡ true) e t)

  pub lengthened-keeps : (test : Line → Bool) (n : ℕ) (line r : Line) → lengthened n longer test line ≡ Some r → P line → P r × (test r ≡ true)
  lengthened-keeps test zero line r h p =
      elim (stop_cases (test line) line r None h) [ inl e ↦ stopped test line r e.0 e.1 p | inr e ↦ absurd (let c : ⊥ = cc in c) ]
  lengthened-keeps test (suc n) line r h p =
      elim (stop_cases (test line) line r (option_and_then (lengthened n longer test) (longer line)) h) [
        | inl e ↦ stopped test line r e.0 e.1 p
        | inr e ↦ onward test line r (longer line) (lengthened n longer test) refl e p (λ m g q. lengthened-keeps test n m r g q)
      ]

  fully_onward : (line : Line) (o : Option Line) (go : Line → Line) → longer line ≡ o → P line → ((m : Line) → P m → P (go m)) → P (option_map_or go o line)
  fully_onward line None go e p on = p
  fully_onward line (Some m) go e p on = on m (keeps line m e p)

  pub fully-keeps : (n : ℕ) (line : Line) → P line → P (lengthened_fully n longer line)
  fully-keeps zero line p = p
  fully-keeps (suc n) line p = fully_onward line (longer line) (lengthened_fully n longer) refl p (λ m q. fully-keeps n m q)

-- where the test passes at once, nothing is gained
pub lengthened-now : (n : ℕ) (longer : Line → Option Line) (test : Line → Bool) (line : Line) → test line ≡ true → lengthened n longer test line ≡ Some line
lengthened-now zero longer test line h = rw h refl
lengthened-now (suc n) longer test line h = rw h refl

-- ---- a line ahead of another, and one that goes further back

pub record IsAhead (track : Track) (line longer : Line) : Type 0 where
  pub more : Line
  pub is : longer ≡ line ++ more
  pub on : OnLine track longer

pub record IsFurtherBack (track : Track) (line longer : Line) : Type 0 where
  pub more : Line
  pub is : longer ≡ more ++ line
  pub on : OnLine track longer

pub ahead_of_itself : (track : Track) (line : Line) → OnLine track line → IsAhead track line line
ahead_of_itself track line on = record { more = []; is = sym (append-nil line); on = on }

pub back_of_itself : (track : Track) (line : Line) → OnLine track line → IsFurtherBack track line line
back_of_itself track line on = record { more = []; is = refl; on = on }

gains : (b : Bool) (a r : Line) → cond b None (Some a) ≡ Some r → (b ≡ false) × (a ≡ r)
gains true a r h = cc
gains false a r h = (refl, cc)

module _ (track : Track) (locks : Locks) (good : IsGoodLocks track locks) where
  row_below : (section : ℕ) (o : Option (Option Lock)) → slice_get locks section ≡ o → (lock : Lock) → option_flatten o ≡ Some lock → section < length track.sections
  row_below section None e lock h = cc
  row_below section (Some x) e lock h = let low = slice_get_within locks section x e in let many = good.as_many in omega arith

  ahead_by : (line longer : Line) (o : Option Leg) → last_leg line ≡ o → OnLine track line
      → (p : Option Leg) → option_and_then (next locks) o ≡ p → option_and_then (λ (leg : Leg). cond (has_section line leg.section) None (Some (line ++ leg ∷ []))) p ≡ Some longer
      → (leg : Leg) × (line ++ leg ∷ [] ≡ longer) × OnLine track longer
  ahead_by line longer o e on None f h = cc
  ahead_by line longer None e on (Some leg) f h = cc
  ahead_by line longer (Some last) e on (Some leg) f h =
      let made = gains (has_section line leg.section) (line ++ leg ∷ []) longer h in
      let r = next-row locks last leg f in
      (leg, made.1, subst (OnLine track) made.1 (OnLine-push track line last leg e (linked-row track locks last leg good r) made.0 (row_below leg.section (slice_get locks leg.section) refl r.lock r.there) on))

  pub ahead_step : (line longer : Line) → longer_ahead locks line ≡ Some longer → OnLine track line → (leg : Leg) × (line ++ leg ∷ [] ≡ longer) × OnLine track longer
  ahead_step line longer h on = ahead_by line longer (last_leg line) refl on (option_and_then (next locks) (last_leg line)) refl h

  pub ahead_keeps : (line l m : Line) → longer_ahead locks l ≡ Some m → IsAhead track line l → IsAhead track line m
  ahead_keeps line l m h a =
      let s = ahead_step l m h a.on in
      record { more = a.more ++ s.0 ∷ []; is = sym s.1 ∙ ap (λ z. z ++ s.0 ∷ []) a.is ∙ append_assoc line a.more (s.0 ∷ []); on = s.2 }

  -- the continued line
  pub ahead_fully : (n : ℕ) (line : Line) → OnLine track line → IsAhead track line (lengthened_fully n (longer_ahead locks) line)
  ahead_fully n line on = fully-keeps (IsAhead track line) (longer_ahead locks) (ahead_keeps line) n line (ahead_of_itself track line on)

  -- one lengthened until a test passes
  pub ahead_until : (test : Line → Bool) (n : ℕ) (line r : Line) → lengthened n (longer_ahead locks) test line ≡ Some r → OnLine track line → IsAhead track line r × (test r ≡ true)
  ahead_until test n line r h on = lengthened-keeps (IsAhead track line) (longer_ahead locks) (ahead_keeps line) test n line r h (ahead_of_itself track line on)

  back_by : IsSound track → (line longer : Line) (o : Option Leg) → first_leg line ≡ o → OnLine track line
      → (p : Option Leg) → option_and_then (prev locks) o ≡ p → option_and_then (λ (leg : Leg). cond (has_section line leg.section) None (Some (leg ∷ line))) p ≡ Some longer
      → (leg : Leg) × (leg ∷ line ≡ longer) × OnLine track longer
  back_by sound line longer o e on None f h = cc
  back_by sound line longer None e on (Some leg) f h = cc
  back_by sound line longer (Some first) e on (Some leg) f h =
      let made = gains (has_section line leg.section) (leg ∷ line) longer h in
      let linked = linked-row track locks leg first good (prev-row locks first leg f) in
      (leg, made.1, subst (OnLine track) made.1 (OnLine-cons track line leg first e linked made.0 (linked_from_below track leg first sound linked) on))

  pub back_step : IsSound track → (line longer : Line) → longer_back locks line ≡ Some longer → OnLine track line → (leg : Leg) × (leg ∷ line ≡ longer) × OnLine track longer
  back_step sound line longer h on = back_by sound line longer (first_leg line) refl on (option_and_then (prev locks) (first_leg line)) refl h

  pub back_keeps : IsSound track → (line l m : Line) → longer_back locks l ≡ Some m → IsFurtherBack track line l → IsFurtherBack track line m
  back_keeps sound line l m h a =
      let s = back_step sound l m h a.on in
      record { more = s.0 ∷ a.more; is = sym s.1 ∙ ap (λ z. s.0 ∷ z) a.is; on = s.2 }

  pub back_until : IsSound track → (test : Line → Bool) (n : ℕ) (line r : Line) → lengthened n (longer_back locks) test line ≡ Some r → OnLine track line → IsFurtherBack track line r × (test r ≡ true)
  back_until sound test n line r h on = lengthened-keeps (IsFurtherBack track line) (longer_back locks) (back_keeps sound line) test n line r h (back_of_itself track line on)
