-- A train's extent or authority has a metre if one of its places does, and only then.
use Rattle.std.proofs.Common.{◌≡◌, ℕ, ◌+◌, ◌-◌, ◌<◌, ◌≤◌, Bool, true, false, ◌&&◌, not, [], ◌∷◌, Option, Some, None, refl, ap, subst, sym, ◌∙◌, arith, ◌⊎◌, inl, inr, nat_lt, nat_le}
use Rattle.std.specs.Prelude.{◌==◌, if◌then◌else◌, option_map}
use Rattle.std.specs.Option.{option_map_or}
use Rattle.std.proofs.lemmas.Bool.{leb-true, ltb-true, lt-ltb, eqb-true, le-ltb, not-true, cases_Bool, or_left, or_right, both_ways}
use Rattle.rbc_model.specs.declared.places.Metre.{Metre}
use Rattle.rbc_model.specs.Tracks.{Track, metres_of, metre_of_leg, IsMetreOf}
use Rattle.rbc_model.specs.declared.places.Direction.{Direction}
use Rattle.rbc_model.specs.declared.places.Direction.TheVariants.{Rising, Falling}
use Rattle.rbc_model.specs.declared.places.Leg.{Leg}
use Rattle.rbc_model.specs.Lines.{Line, metre_at, place_of_metre, metres_before, has_section}
use Rattle.rbc_model.specs.SoundTracks.{sections_differ}
use Rattle.rbc_model.specs.Trains.{Train}
use Rattle.rbc_model.specs.Scenes.{extent_has, authority_has}
use Rattle.rbc_model.proofs.ScanLemmas.{le_or_lt}
use Rattle.std.specs.Cmp.{first_so, second_so}
use Rattle.rbc_model.proofs.BasicLemmas.{if_true, if_false, is_between, same_number}

twice_back : (m o : ℕ) → o < m → m - 1 - (m - 1 - o) ≡ o
twice_back m o h = omega arith

back_below : (m o : ℕ) → o < m → m - 1 - o < m
back_below m o h = omega arith

at_leg : {X : Type 0} (a b : X) (k n : ℕ) → k < n → (if nat_lt k n then a else b) ≡ a
at_leg a b k n h = rw (lt-ltb k n h) refl

behind_leg : {X : Type 0} (a b : X) (k n : ℕ) → n ≤ k → (if nat_lt k n then a else b) ≡ b
behind_leg a b k n h = rw (le-ltb k n h) refl

-- the metre that a leg has where this metre stands on it
met_there : (track : Track) (direction : Direction) (section offset : ℕ) → offset < metres_of track section →
    metre_of_leg track (record { section = section; direction = direction }) (metres_before track (record { section = section; offset = offset }) (record { section = section; direction = direction }))
    ≡ record { section = section; offset = offset }
met_there track Rising section offset h = refl
met_there track Falling section offset h = ap (λ o. record { section = section; offset = o }) (twice_back (metres_of track section) offset h)

-- and it stands within the leg
within_leg : (track : Track) (direction : Direction) (section offset : ℕ) → offset < metres_of track section →
    metres_before track (record { section = section; offset = offset }) (record { section = section; direction = direction }) < metres_of track section
within_leg track Rising section offset h = h
within_leg track Falling section offset h = back_below (metres_of track section) offset h

-- a leg of this section
pub leg_of : (leg : Leg) (section : ℕ) → leg.section ≡ section → leg ≡ record { section = section; direction = leg.direction }
leg_of leg section e = ap (λ x. let l : Leg = record { section = x; direction = leg.direction } in l) e

met_on_leg : (track : Track) (leg : Leg) (metre : Metre) → leg.section ≡ metre.section → metre.offset < metres_of track metre.section → metre_of_leg track leg (metres_before track metre leg) ≡ metre
met_on_leg track leg metre e h =
    ap (λ l. metre_of_leg track l (metres_before track metre l)) (leg_of leg metre.section e) ∙ met_there track leg.direction metre.section metre.offset h

on_leg : (track : Track) (leg : Leg) (metre : Metre) → leg.section ≡ metre.section → metre.offset < metres_of track metre.section → metres_before track metre leg < metres_of track leg.section
on_leg track leg metre e h =
    subst (λ l. metres_before track metre l < metres_of track l.section) (sym (leg_of leg metre.section e)) (within_leg track leg.direction metre.section metre.offset h)

-- the place is that of the leg, or lies behind the leg
place_cases : (b : Bool) (here length i : ℕ) (rest : Option ℕ) → (if b then Some here else option_map (λ place. length + place) rest) ≡ Some i →
    ((b ≡ true) × (here ≡ i)) ⊎ ((b ≡ false) × ((place : ℕ) × (rest ≡ Some place) × (length + place ≡ i)))
place_cases true here length i rest h = inl (refl, cc)
place_cases false here length i None h = cc
place_cases false here length i (Some place) h = inr (refl, (place, refl, cc))

pub metre_at-place : (track : Track) (line : Line) (metre : Metre) (i : ℕ) → metre.offset < metres_of track metre.section → place_of_metre track line metre ≡ Some i → metre_at track line i ≡ Some metre
metre_at-place track [] metre i h e = cc
metre_at-place track (leg ∷ legs) metre i h e =
    elim (place_cases (leg.section == metre.section) (metres_before track metre leg) (metres_of track leg.section) i (place_of_metre track legs metre) e) [
      | inl (b, here) ↦
          let same = eqb-true leg.section metre.section b in
          at_leg (Some (metre_of_leg track leg i)) (metre_at track legs (i - metres_of track leg.section)) i (metres_of track leg.section) (subst (λ k. k < metres_of track leg.section) here (on_leg track leg metre same h))
          ∙ ap (λ k. Some (metre_of_leg track leg k)) (sym here)
          ∙ ap Some (met_on_leg track leg metre same h)
      | inr (b, later) ↦
          behind_leg (Some (metre_of_leg track leg i)) (metre_at track legs (i - metres_of track leg.section)) i (metres_of track leg.section) (let k = later.2 in omega arith)
          ∙ ap (metre_at track legs) (let k = later.2 in let goal : i - metres_of track leg.section ≡ later.0 = omega arith in goal)
          ∙ metre_at-place track legs metre later.0 h later.1
    ]

-- ---- the other way round, on a line that has each section once

met_back : (track : Track) (direction : Direction) (section k : ℕ) → k < metres_of track section →
    metres_before track (metre_of_leg track (record { section = section; direction = direction }) k) (record { section = section; direction = direction }) ≡ k
met_back track Rising section k h = refl
met_back track Falling section k h = twice_back (metres_of track section) k h

the_same : (a b : Metre) → Some a ≡ Some b → a ≡ b
the_same a b h = cc

-- the metre at a place is of a section of the line
has_section-metre_at : (track : Track) (line : Line) (metre : Metre) (i : ℕ) → metre_at track line i ≡ Some metre → has_section line metre.section ≡ true
has_section-metre_at track [] metre i h = cc
has_section-metre_at track (leg ∷ legs) metre i h =
    elim (le_or_lt (metres_of track leg.section) i) [
      | inl past ↦
          or_right (leg.section == metre.section) (has_section legs metre.section)
          (has_section-metre_at track legs metre (i - metres_of track leg.section) (sym (behind_leg (Some (metre_of_leg track leg i)) (metre_at track legs (i - metres_of track leg.section)) i (metres_of track leg.section) past) ∙ h))
      | inr here ↦
          or_left (leg.section == metre.section) (has_section legs metre.section)
          (of_section (metre_of_leg track leg i) metre leg.section refl (sym (at_leg (Some (metre_of_leg track leg i)) (metre_at track legs (i - metres_of track leg.section)) i (metres_of track leg.section) here) ∙ h))
    ]
  where
    of_section : (a b : Metre) (section : ℕ) → a.section ≡ section → Some a ≡ Some b → (section == b.section) ≡ true
    of_section a b section e h =
        let same : section ≡ b.section = sym e ∙ ap (λ m. m.section) (the_same a b h) in
        subst (λ x. (section == x) ≡ true) same (same_number section)

-- a section that is not on the line is not that of a metre on it
another : (section : ℕ) (metre : Metre) (line : Line) → has_section line section ≡ false → has_section line metre.section ≡ true → (section == metre.section) ≡ false
another section metre line lacks has =
    elim (cases_Bool (section == metre.section)) [
      | inl e ↦ absurd (both_ways (has_section line section) lacks (subst (λ x. has_section line x ≡ true) (sym (eqb-true section metre.section e)) has))
      | inr e ↦ e
    ]

pub place-metre_at : (track : Track) (line : Line) (metre : Metre) (i : ℕ) → sections_differ line ≡ true → metre_at track line i ≡ Some metre → place_of_metre track line metre ≡ Some i
place-metre_at track [] metre i differ h = cc
place-metre_at track (leg ∷ legs) metre i differ h =
    elim (le_or_lt (metres_of track leg.section) i) [
      | inl past ↦
          let rest = sym (behind_leg (Some (metre_of_leg track leg i)) (metre_at track legs (i - metres_of track leg.section)) i (metres_of track leg.section) past) ∙ h in
          let found = place-metre_at track legs metre (i - metres_of track leg.section) (second_so (not (has_section legs leg.section)) (sections_differ legs) differ) rest in
          let other = another leg.section metre legs (not-true (has_section legs leg.section) (first_so (not (has_section legs leg.section)) (sections_differ legs) differ)) (has_section-metre_at track legs metre (i - metres_of track leg.section) rest) in
          if_false (leg.section == metre.section) (Some (metres_before track metre leg)) (option_map (λ place. metres_of track leg.section + place) (place_of_metre track legs metre)) other
          ∙ ap (option_map (λ place. metres_of track leg.section + place)) found
          ∙ ap Some (let goal : metres_of track leg.section + (i - metres_of track leg.section) ≡ i = omega arith in goal)
      | inr here ↦
          let same = the_same (metre_of_leg track leg i) metre (sym (at_leg (Some (metre_of_leg track leg i)) (metre_at track legs (i - metres_of track leg.section)) i (metres_of track leg.section) here) ∙ h) in
          subst (λ m. place_of_metre track (leg ∷ legs) m ≡ Some i) same
          (if_true (leg.section == leg.section) (Some (metres_before track (metre_of_leg track leg i) leg)) (option_map (λ place. metres_of track leg.section + place) (place_of_metre track legs (metre_of_leg track leg i))) (same_number leg.section)
          ∙ ap Some (met_back track leg.direction leg.section i here))
    ]

-- ---- so an extent has a metre if one of its places does, and only then

between : (o : Option ℕ) (a b : ℕ) → option_map_or (λ place. nat_le a place && nat_lt place b) o false ≡ true → (i : ℕ) × (o ≡ Some i) × (a ≤ i) × (i < b)
between None a b h = cc
between (Some i) a b h = (i, refl, leb-true a i (first_so (nat_le a i) (nat_lt i b) h), ltb-true i b (second_so (nat_le a i) (nat_lt i b) h))

pub place-extent_has : (track : Track) (metre : Metre) (train : Train) → IsMetreOf track metre → extent_has track metre train ≡ true → (i : ℕ) × (train.rear ≤ i) × (i < train.front) × (metre_at track train.line i ≡ Some metre)
place-extent_has track metre train h e =
    let found = between (place_of_metre track train.line metre) train.rear train.front e in
    (found.0, found.2, found.3, metre_at-place track train.line metre found.0 h found.1)

pub extent_has-place : (track : Track) (metre : Metre) (train : Train) (i : ℕ) → sections_differ train.line ≡ true → train.rear ≤ i → i < train.front → metre_at track train.line i ≡ Some metre → extent_has track metre train ≡ true
extent_has-place track metre train i differ low high e =
    ap (λ o. option_map_or (λ place. nat_le train.rear place && nat_lt place train.front) o false) (place-metre_at track train.line metre i differ e)
    ∙ is_between train.rear train.front i low high

-- and an authority too
pub place-authority_has : (track : Track) (metre : Metre) (train : Train) → IsMetreOf track metre → authority_has track metre train ≡ true → (i : ℕ) × (train.from ≤ i) × (i < train.to) × (metre_at track train.line i ≡ Some metre)
place-authority_has track metre train h e =
    let found = between (place_of_metre track train.line metre) train.from train.to e in
    (found.0, found.2, found.3, metre_at-place track train.line metre found.0 h found.1)

pub authority_has-place : (track : Track) (metre : Metre) (train : Train) (i : ℕ) → sections_differ train.line ≡ true → train.from ≤ i → i < train.to → metre_at track train.line i ≡ Some metre → authority_has track metre train ≡ true
authority_has-place track metre train i differ low high e =
    ap (λ o. option_map_or (λ place. nat_le train.from place && nat_lt place train.to) o false) (place-metre_at track train.line metre i differ e)
    ∙ is_between train.from train.to i low high
