-- How large lines and scenes get: places fit 32 bits, and a scene has at most 1,024 trains.
use Rattle.std.proofs.Common.{◌≡◌, ℕ, zero, suc, ◌*◌, ◌<◌, ◌≤◌, true, false, not, List, [], ◌∷◌, length, map, subst, arith, inl, inr, nat_le}
use Rattle.std.specs.Prelude.{◌==◌, slice_get}
use Rattle.std.specs.Option.{option_map_or}
use Rattle.std.specs.List.{list_all, list_any, AllByRecursion, IsDistinct}
use Rattle.std.proofs.lemmas.Bool.{leb-true, eqb-true, or_cases, not-true, or_parts}
use Rattle.std.proofs.lemmas.List.{length-map}
use Rattle.std.proofs.lemmas.Map.Steps.{length-le_from_distinct_below}
use Rattle.rbc_model.specs.declared.places.Leg.{Leg}
use Rattle.rbc_model.specs.Tracks.{Track, Section, metres_of}
use Rattle.rbc_model.specs.SoundTracks.{IsSound, IsInForm, sections_differ}
use Rattle.rbc_model.specs.Lines.{Line, IsLine, line_length, has_section}
use Rattle.rbc_scene_laws.proofs.BasicLemmas.{and_left, and_right}
use Rattle.rbc_scene_laws.proofs.OnLineLemmas.{OnLine-IsLine}
use Rattle.rbc_model.proofs.BasicLemmas.{flipped}
use Rattle.rbc_model.proofs.MetreLemmas.{line_length-cons}

-- ---- lines

-- a section of a track has no more metres than a track may have
pub few_metres_of : (track : Track) (section : ℕ) → IsInForm track → metres_of track section ≤ 100000
few_metres_of track section form = by_list track.sections section form.few_metres
  where
    by_list : (sections : List Section) (s : ℕ) → list_all (λ (x : Section). nat_le x.metres 100000) sections ≡ true → option_map_or (λ (x : Section). x.metres) (slice_get sections s) 0 ≤ 100000
    by_list [] s h = omega arith
    by_list (x ∷ sections) zero h = leb-true x.metres 100000 (and_left (nat_le x.metres 100000) (list_all (λ (y : Section). nat_le y.metres 100000) sections) h)
    by_list (x ∷ sections) (suc s) h = by_list sections s (and_right (nat_le x.metres 100000) (list_all (λ (y : Section). nat_le y.metres 100000) sections) h)

metres_by_legs : (track : Track) (line : Line) → IsInForm track → line_length track line ≤ 100000 * length line
metres_by_legs track [] form = omega arith
metres_by_legs track (leg ∷ line) form =
    let here = few_metres_of track leg.section form in
    let later = metres_by_legs track line form in
    omega (arith, line_length-cons track leg line)

all_other : (section : ℕ) (line : Line) → has_section line section ≡ false → AllByRecursion (λ y. (section == y) ≡ false) (map (λ (leg : Leg). leg.section) line)
all_other section [] h = tt
all_other section (leg ∷ line) h =
    (flipped leg.section section ((or_parts (leg.section == section) (has_section line section) h).0), all_other section line ((or_parts (leg.section == section) (has_section line section) h).1))

distinct : (line : Line) → sections_differ line ≡ true → IsDistinct ◌==◌ (map (λ (leg : Leg). leg.section) line)
unfolding IsDistinct
distinct [] d = tt
distinct (leg ∷ line) d =
    (all_other leg.section line (not-true (has_section line leg.section) (and_left (not (has_section line leg.section)) (sections_differ line) d)), distinct line (and_right (not (has_section line leg.section)) (sections_differ line) d))

below_of : (n : ℕ) (line : Line) (q : ℕ) → AllByRecursion (λ (leg : Leg). leg.section < n) line → list_any (λ x. q == x) (map (λ (leg : Leg). leg.section) line) ≡ true → q < n
below_of n [] q h any = cc
below_of n (leg ∷ line) q h any =
    elim (or_cases (q == leg.section) (list_any (λ x. q == x) (map (λ (l : Leg). l.section) line)) any) [
      | inl e ↦ let same = eqb-true q leg.section e in let low = h.0 in omega arith
      | inr e ↦ below_of n line q h.1 e
    ]

-- a line has at most as many legs as the track has sections
pub length-line : (track : Track) (line : Line) → IsLine track line → length line ≤ length track.sections
length-line track line l =
    let on = OnLine-IsLine track line l in
    subst (λ k. k ≤ length track.sections) (length-map line (λ (leg : Leg). leg.section))
    (length-le_from_distinct_below (map (λ (leg : Leg). leg.section) line) (length track.sections) (distinct line on.differ) (λ q h. below_of (length track.sections) line q on.of_track h))

-- so each place of it fits 32 bits
pub line_length-small : (track : Track) (line : Line) → IsSound track → IsInForm track → IsLine track line → line_length track line ≤ 409600000
line_length-small track line sound form l =
    let legs = length-line track line l in
    let few = sound.few_sections in
    let metres = metres_by_legs track line form in
    omega arith
