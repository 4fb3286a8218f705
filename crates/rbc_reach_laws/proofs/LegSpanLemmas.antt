-- A train's extent, or its authority, has a metre of a leg if the metre lies in the leg's span, and only then.
use Rattle.std.proofs.Common.{◌≡◌, ℕ, ◌+◌, ◌-◌, ◌<◌, ◌≤◌, min, Bool, true, false, ◌&&◌, [], ◌∷◌, Option, Some, None, refl, ap, sym, subst, ◌∙◌, arith, nat_lt, nat_le}
use Rattle.std.specs.Prelude.{◌==◌, if◌then◌else◌, option_map}
use Rattle.std.specs.Option.{option_map_or}
use Rattle.std.proofs.lemmas.Bool.{eqb-true, false_from_ne_true}
use Rattle.rbc_model.specs.declared.places.Direction.{Direction}
use Rattle.rbc_model.specs.declared.places.Direction.TheVariants.{Rising, Falling}
use Rattle.rbc_model.specs.declared.places.Leg.{Leg}
use Rattle.rbc_model.specs.Tracks.{Track, metres_of, metre_of_leg, direction_eq}
use Rattle.rbc_model.specs.Lines.{Line, place_of_metre, metres_before}
use Rattle.rbc_model.specs.Trains.{Train}
use Rattle.rbc_model.specs.Scenes.{extent_has, authority_has}
use Rattle.rbc_reach_laws.specs.Spans.{lies_in, span_met, leg_span, extent_span, authority_span}
use Rattle.rbc_reach_laws.proofs.BasicLemmas.{below, same_between}
use Rattle.rbc_model.proofs.ExtentLemmas.{leg_of}

-- ---- one leg

-- on a leg of the same direction the metre k is the metre k
ahead : (m q a b k : ℕ) → k < m → (nat_le a (q + k) && nat_lt (q + k) b) ≡ lies_in (span_met true m q a b) k
ahead m q a b k h = same_between a b (q + k) (a - q) (min (b - q) m) k (λ l u. (omega arith, omega arith)) (λ l u. (omega arith, omega arith))

-- on one of the other direction it is that number from the other end
back : (m q a b k : ℕ) → k < m → (nat_le a (q + (m - 1 - k)) && nat_lt (q + (m - 1 - k)) b) ≡ lies_in (span_met false m q a b) k
back m q a b k h = same_between a b (q + (m - 1 - k)) (m - min (b - q) m) (m - (a - q)) k (λ l u. (omega arith, omega arith)) (λ l u. (omega arith, omega arith))

twice : (m k : ℕ) → k < m → k ≡ m - 1 - (m - 1 - k)
twice m k h = omega arith

module _ (track : Track) (section : ℕ) where
  on_leg : (d e : Direction) (q a b k : ℕ) → k < metres_of track section →
      (nat_le a (q + metres_before track (metre_of_leg track (record { section = section; direction = e }) k) (record { section = section; direction = d })) && nat_lt (q + metres_before track (metre_of_leg track (record { section = section; direction = e }) k) (record { section = section; direction = d })) b)
      ≡ lies_in (span_met (direction_eq d e) (metres_of track section) q a b) k
  on_leg Rising Rising q a b k h = ahead (metres_of track section) q a b k h
  on_leg Rising Falling q a b k h = back (metres_of track section) q a b k h
  on_leg Falling Rising q a b k h = back (metres_of track section) q a b k h
  on_leg Falling Falling q a b k h =
      ap (λ j. nat_le a (q + j) && nat_lt (q + j) b) (sym (twice (metres_of track section) k h)) ∙ ahead (metres_of track section) q a b k h

-- ---- the legs of a line

abbrev met_test : ℕ → ℕ → ℕ → Option ℕ → Bool
met_test q a b o = option_map_or (λ place. nat_le a (q + place) && nat_lt (q + place) b) o false

further : (q n a b : ℕ) (o : Option ℕ) → met_test q a b (option_map (λ place. n + place) o) ≡ met_test (q + n) a b o
further q n a b None = refl
further q n a b (Some place) = ap (λ j. nat_le a j && nat_lt j b) (let e : q + (n + place) ≡ q + n + place = omega arith in e)

one_leg : (t : Bool) (x n q a b k : ℕ) (o : Option ℕ) (s u : ℕ × ℕ) → (t ≡ true → (nat_le a (q + x) && nat_lt (q + x) b) ≡ lies_in s k) → met_test (q + n) a b o ≡ lies_in u k → met_test q a b (if t then Some x else option_map (λ place. n + place) o) ≡ lies_in (if t then s else u) k
one_leg true x n q a b k o s u here rest = here refl
one_leg false x n q a b k o s u here rest = further q n a b o ∙ rest

none_within : (k : ℕ) → false ≡ lies_in (0, 0) k
none_within k = sym (false_from_ne_true (nat_le 0 k && nat_lt k 0) (λ h. let x = below 0 0 k h in let y = x.1 in omega arith))

has_metre : (track : Track) (leg : Leg) (q a b k : ℕ) (line : Line) → k < metres_of track leg.section → met_test q a b (place_of_metre track line (metre_of_leg track leg k)) ≡ lies_in (leg_span track leg q a b line) k
has_metre track leg q a b k [] h = none_within k
has_metre track leg q a b k (other ∷ line) h =
    one_leg (other.section == leg.section) (metres_before track (metre_of_leg track leg k) other) (metres_of track other.section) q a b k
    (place_of_metre track line (metre_of_leg track leg k))
    (span_met (direction_eq other.direction leg.direction) (metres_of track leg.section) q a b)
    (leg_span track leg (q + metres_of track other.section) a b line)
    (λ e.
    subst (λ (o : Leg). (nat_le a (q + metres_before track (metre_of_leg track leg k) o) && nat_lt (q + metres_before track (metre_of_leg track leg k) o) b) ≡ lies_in (span_met (direction_eq other.direction leg.direction) (metres_of track leg.section) q a b) k)
    (sym (leg_of other leg.section (eqb-true other.section leg.section e)))
    (on_leg track leg.section other.direction leg.direction q a b k h))
    (has_metre track leg (q + metres_of track other.section) a b k line h)

from_zero : (a b : ℕ) (o : Option ℕ) → option_map_or (λ place. nat_le a place && nat_lt place b) o false ≡ met_test 0 a b o
from_zero a b None = refl
from_zero a b (Some place) = ap (λ j. nat_le a j && nat_lt j b) (let e : place ≡ 0 + place = omega arith in e)

pub extent_has-span : (track : Track) (leg : Leg) (k : ℕ) (other : Train) → k < metres_of track leg.section → extent_has track (metre_of_leg track leg k) other ≡ lies_in (extent_span track other leg) k
extent_has-span track leg k other h =
    from_zero other.rear other.front (place_of_metre track other.line (metre_of_leg track leg k)) ∙ has_metre track leg 0 other.rear other.front k other.line h

pub authority_has-span : (track : Track) (leg : Leg) (k : ℕ) (other : Train) → k < metres_of track leg.section → authority_has track (metre_of_leg track leg k) other ≡ lies_in (authority_span track other leg) k
authority_has-span track leg k other h =
    from_zero other.from other.to (place_of_metre track other.line (metre_of_leg track leg k)) ∙ has_metre track leg 0 other.from other.to k other.line h

-- ---- and a span stands on its leg

span_met_on : (t : Bool) (m q a b : ℕ) → (span_met t m q a b).1 ≤ m
span_met_on true m q a b = omega arith
span_met_on false m q a b = omega arith

either_on : (t : Bool) (s u : ℕ × ℕ) (m : ℕ) → s.1 ≤ m → u.1 ≤ m → (if t then s else u).1 ≤ m
either_on true s u m h k = h
either_on false s u m h k = k

pub leg_span-on : (track : Track) (leg : Leg) (q a b : ℕ) (line : Line) → (leg_span track leg q a b line).1 ≤ metres_of track leg.section
leg_span-on track leg q a b [] = omega arith
leg_span-on track leg q a b (other ∷ line) =
    either_on (other.section == leg.section) (span_met (direction_eq other.direction leg.direction) (metres_of track leg.section) q a b)
    (leg_span track leg (q + metres_of track other.section) a b line) (metres_of track leg.section)
    (span_met_on (direction_eq other.direction leg.direction) (metres_of track leg.section) q a b)
    (leg_span-on track leg (q + metres_of track other.section) a b line)
