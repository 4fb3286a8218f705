-- What the definitions say of a place of the way, told of its leg.
use Rattle.std.proofs.Common.{◌≡◌, ℕ, ◌+◌, ◌-◌, ◌<◌, ◌≤◌, max, Bool, true, false, ◌&&◌, [], ◌∷◌, Option, Some, None, refl, ap, sym, subst, ◌∙◌, arith, inl, inr, nat_lt, nat_le}
use Rattle.std.specs.Prelude.{not, is_some, if◌then◌else◌}
use Rattle.std.specs.Option.{option_map_or}
use Rattle.rbc_model.specs.declared.places.Leg.{Leg}
use Rattle.rbc_model.specs.declared.places.Metre.{Metre}
use Rattle.rbc_model.specs.Tracks.{Track, metres_of, metre_of_leg}
use Rattle.rbc_model.specs.Lines.{Line, line_length, metre_at}
use Rattle.rbc_model.specs.Locks.{Locks}
use Rattle.rbc_model.specs.Trains.{Train}
use Rattle.rbc_model.specs.Scenes.{extent_has, authority_has}
use Rattle.rbc_model.specs.Obstacles.{is_locked, unlocked_section}
use Rattle.rbc_model.proofs.ScanLemmas.{le_or_lt}
use Rattle.rbc_reach_laws.specs.Spans.{lies_in, extent_span, authority_span, unlocked_span, first_by, first_occupied_by, first_held_by, first_unlocked}
use Rattle.rbc_reach_laws.proofs.BasicLemmas.{below, is_below}
use Rattle.rbc_reach_laws.proofs.LegSpanLemmas.{extent_has-span, authority_has-span, leg_span-on}
use Rattle.rbc_reach_laws.proofs.FirstLemmas.{IsFound, IsFound-same}
use Rattle.rbc_reach_laws.proofs.ByLegLemmas.{at_leg, at_leg-same, OnLegs, IsFound-first_by}
use Rattle.std.proofs.lemmas.Bool.{false_from_ne_true}
use Rattle.rbc_model.proofs.BasicLemmas.{if_in, if_past}

-- ---- a test of the metre at a place

pub at_metre : (has : Metre → Bool) (track : Track) (before : Option Leg) (line : Line) (i : ℕ) → option_map_or has (metre_at track line i) false ≡ at_leg (λ b l k. has (metre_of_leg track l k)) track before line i
at_metre has track before [] i = refl
at_metre has track before (leg ∷ legs) i =
    let m = metres_of track leg.section in
    elim (le_or_lt m i) [
      | inl past ↦
          ap (λ o. option_map_or has o false) (if_past (Some (metre_of_leg track leg i)) (metre_at track legs (i - m)) i m past)
          ∙ at_metre has track (Some leg) legs (i - m)
          ∙ sym (if_past (has (metre_of_leg track leg i)) (at_leg (λ b l k. has (metre_of_leg track l k)) track (Some leg) legs (i - m)) i m past)
      | inr here ↦
          ap (λ o. option_map_or has o false) (if_in (Some (metre_of_leg track leg i)) (metre_at track legs (i - m)) i m here)
          ∙ sym (if_in (has (metre_of_leg track leg i)) (at_leg (λ b l k. has (metre_of_leg track l k)) track (Some leg) legs (i - m)) i m here)
    ]

-- whether a train's extent, or its authority, has the metre at a place
abbrev pub extent_at : Track → Line → Train → ℕ → Bool
extent_at track way other i = option_map_or (λ metre. extent_has track metre other) (metre_at track way i) false

abbrev pub authority_at : Track → Line → Train → ℕ → Bool
authority_at track way other i = option_map_or (λ metre. authority_has track metre other) (metre_at track way i) false

pub extent_on : (track : Track) (other : Train) → OnLegs (λ b l. extent_span track other l) track
extent_on track other b l = leg_span-on track l 0 other.rear other.front other.line

pub authority_on : (track : Track) (other : Train) → OnLegs (λ b l. authority_span track other l) track
authority_on track other b l = leg_span-on track l 0 other.from other.to other.line

pub extent_at-leg : (track : Track) (way : Line) (other : Train) (i : ℕ) → extent_at track way other i ≡ at_leg (λ b l k. lies_in (extent_span track other l) k) track None way i
extent_at-leg track way other i =
    at_metre (λ metre. extent_has track metre other) track None way i
    ∙ at_leg-same (λ b l k. extent_has track (metre_of_leg track l k) other) (λ b l k. lies_in (extent_span track other l) k) track None way i (λ b l k h. extent_has-span track l k other h)

pub authority_at-leg : (track : Track) (way : Line) (other : Train) (i : ℕ) → authority_at track way other i ≡ at_leg (λ b l k. lies_in (authority_span track other l) k) track None way i
authority_at-leg track way other i =
    at_metre (λ metre. authority_has track metre other) track None way i
    ∙ at_leg-same (λ b l k. authority_has track (metre_of_leg track l k) other) (λ b l k. lies_in (authority_span track other l) k) track None way i (λ b l k h. authority_has-span track l k other h)

-- ---- the first such place

-- what is found on the way, counted from its start
pub IsFound-way : (say : Option Leg → Leg → ℕ × ℕ) (track : Track) (start : ℕ) (way : Line) → OnLegs say track → IsFound (λ j. at_leg (λ b l k. lies_in (say b l) k) track None way j) start (line_length track way) (first_by say track start None 0 way)
IsFound-way say track start way on =
    subst (λ h. IsFound (λ j. at_leg (λ b l k. lies_in (say b l) k) track None way j) start h (first_by say track start None 0 way)) (let e : 0 + line_length track way ≡ line_length track way = omega arith in e)
    (subst (λ s. IsFound (λ j. at_leg (λ b l k. lies_in (say b l) k) track None way j) s (0 + line_length track way) (first_by say track start None 0 way)) (let e : max start 0 ≡ start = omega arith in e)
    (IsFound-same (λ j. at_leg (λ b l k. lies_in (say b l) k) track None way (j - 0)) (λ j. at_leg (λ b l k. lies_in (say b l) k) track None way j) (max start 0) (0 + line_length track way) (first_by say track start None 0 way)
    (λ j l u. ap (at_leg (λ b m k. lies_in (say b m) k) track None way) (let e : j - 0 ≡ j = omega arith in e))
    (IsFound-first_by say track start None 0 way on)))

-- `first_occupied_by` is the first place from start on at which the other's extent has the metre
pub IsFound-first_occupied_by : (track : Track) (start : ℕ) (way : Line) (other : Train) → IsFound (extent_at track way other) start (line_length track way) (first_occupied_by track start way other)
IsFound-first_occupied_by track start way other =
    IsFound-same (λ j. at_leg (λ b l k. lies_in (extent_span track other l) k) track None way j) (extent_at track way other) start (line_length track way) (first_occupied_by track start way other)
    (λ j l u. sym (extent_at-leg track way other j))
    (IsFound-way (λ b l. extent_span track other l) track start way (extent_on track other))

pub IsFound-first_held_by : (track : Track) (start : ℕ) (way : Line) (other : Train) → IsFound (authority_at track way other) start (line_length track way) (first_held_by track start way other)
IsFound-first_held_by track start way other =
    IsFound-same (λ j. at_leg (λ b l k. lies_in (authority_span track other l) k) track None way j) (authority_at track way other) start (line_length track way) (first_held_by track start way other)
    (λ j l u. sym (authority_at-leg track way other j))
    (IsFound-way (λ b l. authority_span track other l) track start way (authority_on track other))

-- ---- legs that are not locked

all_or_none : (t : Bool) (k m : ℕ) → k < m → not t ≡ lies_in (0, if t then 0 else m) k
all_or_none true k m h = sym (false_from_ne_true (nat_le 0 k && nat_lt k 0) (λ t. let x = below 0 0 k t in let y = x.1 in omega arith))
all_or_none false k m h = sym (is_below 0 m k (omega arith) h)

pub unlocked_within : (track : Track) (locks : Locks) (before : Option Leg) (leg : Leg) (k : ℕ) → k < metres_of track leg.section → not (is_locked locks before leg) ≡ lies_in (unlocked_span track locks before leg) k
unlocked_within track locks before leg k h = all_or_none (is_locked locks before leg) k (metres_of track leg.section) h

most : (t : Bool) (m : ℕ) → (if t then 0 else m) ≤ m
most true m = omega arith
most false m = omega arith

pub unlocked_on : (track : Track) (locks : Locks) → OnLegs (unlocked_span track locks) track
unlocked_on track locks b l = most (is_locked locks b l) (metres_of track l.section)

some_unlocked : (t : Bool) (section : ℕ) → is_some (if t then None else Some section) ≡ not t
some_unlocked true section = refl
some_unlocked false section = refl

unlocked_leg : (track : Track) (locks : Locks) (before : Option Leg) (line : Line) (i : ℕ) → is_some (unlocked_section track locks before line i) ≡ at_leg (λ b l k. not (is_locked locks b l)) track before line i
unlocked_leg track locks before [] i = refl
unlocked_leg track locks before (leg ∷ legs) i =
    let m = metres_of track leg.section in
    elim (le_or_lt m i) [
      | inl past ↦
          ap is_some (if_past (if is_locked locks before leg then None else Some leg.section) (unlocked_section track locks (Some leg) legs (i - m)) i m past)
          ∙ unlocked_leg track locks (Some leg) legs (i - m)
          ∙ sym (if_past (not (is_locked locks before leg)) (at_leg (λ b l k. not (is_locked locks b l)) track (Some leg) legs (i - m)) i m past)
      | inr here ↦
          ap is_some (if_in (if is_locked locks before leg then None else Some leg.section) (unlocked_section track locks (Some leg) legs (i - m)) i m here)
          ∙ some_unlocked (is_locked locks before leg) leg.section
          ∙ sym (if_in (not (is_locked locks before leg)) (at_leg (λ b l k. not (is_locked locks b l)) track (Some leg) legs (i - m)) i m here)
    ]

pub unlocked_at-leg : (track : Track) (locks : Locks) (way : Line) (i : ℕ) → is_some (unlocked_section track locks None way i) ≡ at_leg (λ b l k. lies_in (unlocked_span track locks b l) k) track None way i
unlocked_at-leg track locks way i =
    unlocked_leg track locks None way i
    ∙ at_leg-same (λ b l k. not (is_locked locks b l)) (λ b l k. lies_in (unlocked_span track locks b l) k) track None way i (λ b l k h. unlocked_within track locks b l k h)

-- `first_unlocked` is the first place from start on whose leg is not locked
pub IsFound-first_unlocked : (track : Track) (locks : Locks) (start : ℕ) (way : Line) → IsFound (λ j. is_some (unlocked_section track locks None way j)) start (line_length track way) (first_unlocked track locks start way)
IsFound-first_unlocked track locks start way =
    IsFound-same (λ j. at_leg (λ b l k. lies_in (unlocked_span track locks b l) k) track None way j) (λ j. is_some (unlocked_section track locks None way j)) start (line_length track way) (first_unlocked track locks start way)
    (λ j l u. sym (unlocked_at-leg track locks way j))
    (IsFound-way (unlocked_span track locks) track start way (unlocked_on track locks))
