-- The metre at a place is that number of the line's metres.
use Rattle.std.specs.List.{range_with_len}
use Rattle.std.proofs.Common.{◌≡◌, ℕ, zero, suc, ◌+◌, ◌-◌, ◌<◌, ◌≤◌, List, [], ◌∷◌, ◌++◌, length, Some, refl, ap, ◌∙◌, sym, zero-add, arith, inl, inr}
use Rattle.std.specs.Prelude.{slice_get, option_map}
use Rattle.std.proofs.lemmas.Option.{slice_get-map}
use Rattle.std.proofs.lemmas.List.FromFn.{length-map-range_with_len}
use Rattle.std.proofs.lemmas.List.Sums.{sum_by-cons}
use Rattle.rbc_model.proofs.ScanLemmas.{le_or_lt}
use Rattle.rbc_model.specs.Tracks.{Track, IsMetreOf, metres_of, metre_of_leg, leg_metres}
use Rattle.rbc_model.specs.declared.places.Leg.{Leg}
use Rattle.rbc_model.specs.declared.places.Direction.{Direction}
use Rattle.rbc_model.specs.declared.places.Direction.TheVariants.{Rising, Falling}
use Rattle.rbc_model.specs.Lines.{Line, line_length, line_metres, metre_at}
use Rattle.rbc_model.proofs.BasicLemmas.{if_in, if_past}

pub line_length-cons : (track : Track) (leg : Leg) (line : Line) → line_length track (leg ∷ line) ≡ metres_of track leg.section + line_length track line
line_length-cons track leg line = sum_by-cons (λ (l : Leg). metres_of track l.section) leg line

pub metre_of_leg-of_track : (track : Track) (leg : Leg) (k : ℕ) → k < metres_of track leg.section → IsMetreOf track (metre_of_leg track leg k)
metre_of_leg-of_track track leg k h = by_direction leg.direction
  where
    by_direction : (d : Direction) → IsMetreOf track (metre_of_leg track (record { section = leg.section; direction = d }) k)
    by_direction Rising = h
    by_direction Falling = omega arith

-- the k-th of n numbers from a on
slice_get-range : (a n k : ℕ) → k < n → slice_get (range_with_len a n) k ≡ Some (a + k)
slice_get-range a zero k h = absurd (omega arith)
slice_get-range a (suc n) zero h = ap Some (omega arith)
slice_get-range a (suc n) (suc k) h = slice_get-range (a + 1) n k (omega arith) ∙ ap Some (omega arith)

slice_get-append_left : {X : Type 0} (xs ys : List X) (k : ℕ) → k < length xs → slice_get (xs ++ ys) k ≡ slice_get xs k
slice_get-append_left [] ys k h = absurd (omega arith)
slice_get-append_left (x ∷ xs) ys zero h = refl
slice_get-append_left (x ∷ xs) ys (suc k) h = slice_get-append_left xs ys k (omega arith)

slice_get-append_right : {X : Type 0} (xs ys : List X) (k : ℕ) → length xs ≤ k → slice_get (xs ++ ys) k ≡ slice_get ys (k - length xs)
slice_get-append_right [] ys k h = ap (slice_get ys) (omega arith)
slice_get-append_right (x ∷ xs) ys zero h = absurd (omega arith)
slice_get-append_right (x ∷ xs) ys (suc k) h = slice_get-append_right xs ys k (omega arith) ∙ ap (slice_get ys) (omega arith)

-- a leg has as many metres as its section
length-leg_metres : (track : Track) (leg : Leg) → length (leg_metres track leg) ≡ metres_of track leg.section
length-leg_metres track leg = length-map-range_with_len (metre_of_leg track leg) 0 (metres_of track leg.section)

slice_get-leg_metres : (track : Track) (leg : Leg) (k : ℕ) → k < metres_of track leg.section → slice_get (leg_metres track leg) k ≡ Some (metre_of_leg track leg k)
slice_get-leg_metres track leg k h =
    slice_get-map (metre_of_leg track leg) (range_with_len 0 (metres_of track leg.section)) k
    ∙ ap (option_map (metre_of_leg track leg)) (slice_get-range 0 (metres_of track leg.section) k h)
    ∙ ap (λ j. Some (metre_of_leg track leg j)) (zero-add k)

pub metre_at-line_metres : (track : Track) (line : Line) (i : ℕ) → metre_at track line i ≡ slice_get (line_metres track line) i
metre_at-line_metres track [] i = refl
metre_at-line_metres track (leg ∷ legs) i =
    elim (le_or_lt (metres_of track leg.section) i) [
      | inl e ↦
          if_past (Some (metre_of_leg track leg i)) (metre_at track legs (i - metres_of track leg.section)) i (metres_of track leg.section) e
          ∙ metre_at-line_metres track legs (i - metres_of track leg.section)
          ∙ ap (λ m. slice_get (line_metres track legs) (i - m)) (sym (length-leg_metres track leg))
          ∙ sym (slice_get-append_right (leg_metres track leg) (line_metres track legs) i (rw (length-leg_metres track leg) e))
      | inr e ↦
          if_in (Some (metre_of_leg track leg i)) (metre_at track legs (i - metres_of track leg.section)) i (metres_of track leg.section) e
          ∙ sym (slice_get-leg_metres track leg i e)
          ∙ sym (slice_get-append_left (leg_metres track leg) (line_metres track legs) i (rw (length-leg_metres track leg) e))
    ]
